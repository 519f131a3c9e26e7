-- `chain_text::text::opens_at` meets its contract.
use Prim.Native.Nat.{◌+◌}
use mathlib.Core.Path.{sym, ap, ◌∙◌}
use mathlib.Core.Bool.{Bool, ◌&&◌}
use native.Mathlib.Omega.{arith}
use lib.Dec.{eqb}
use lib.ListN.{get_or}
use Rattle.chain_text.proofs.Forms.{opens-within, opens-past}
use Rattle.chain_text.proofs.text.opens_at.Goals as goal

pub returns-then-saturating_sub-at : goal.returns-then-saturating_sub-at
returns-then-saturating_sub-at c = let a = c.args in sym (opens-past a.text.now a.at (omega arith))

pub returns : goal.returns
returns c =
    let a = c.args in
    ap (λ (t : Bool). t && eqb (get_or a.text.now (a.at + 1) 0) 91) c.is_capital.ensures ∙ sym (opens-within a.text.now a.at (omega arith))
