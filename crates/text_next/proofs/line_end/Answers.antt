-- `text_next::line_end` meets its contract: the library's search finds the first byte 10.
use Prim.Native.Nat.{ℕ, ◌-◌}
use mathlib.Core.Path.{sym, ◌∙◌}
use lib.Dec.{eqb}
use lib.ListN.{length, take, drop}
use Rattle.std.proofs.Common.{rules, tests}
use Rattle.std.proofs.lemmas.Iterator.{YieldsList-from_slice}
use Rattle.std.proofs.lemmas.Iterator.Search.{position_from_yields_List}
use Rattle.text_next.proofs.Ends.{end-some, end-none}
use Rattle.text_next.proofs.line_end.Goals as goal

pub returns-in-Some : goal.returns-in-Some
returns-in-Some c =
    let found = position_from_yields_List {all = take (length c.args.text.now - c.args.at) (drop c.args.at c.args.text.now)} (λ (b : ℕ). eqb b 10) _ _ c.position.result c.position.ensures.ran (YieldsList-from_slice _ cc) (λ x b q k. search (rules, tests)) in
    end-some c.args.text.now c.args.at (sym found ∙ c.in-Some.is)

pub returns-in-None : goal.returns-in-None
returns-in-None c =
    let found = position_from_yields_List {all = take (length c.args.text.now - c.args.at) (drop c.args.at c.args.text.now)} (λ (b : ℕ). eqb b 10) _ _ c.position.result c.position.ensures.ran (YieldsList-from_slice _ cc) (λ x b q k. search (rules, tests)) in
    end-none c.args.text.now c.args.at c.requires (sym found ∙ c.in-None.is)
