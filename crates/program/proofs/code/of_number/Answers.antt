use Prim.Native.Nat.{ℕ, ◌+◌, ◌*◌}
use mathlib.Core.Path.{ap, ◌∙◌}
use mir.Syntax.{w32}
use mir.Val.{of_z}
use mir.Facts.{to_z-of_z}
use Rattle.program.specs.Code.{number_code}
use Rattle.program.proofs.code.of_number.Goals as goal

pub returns : goal.returns
unfolding number_code
returns c = ap (λ (k : ℕ). 8 * k + 1) (c.unsigned.ensures ∙ ap (of_z w32) (to_z-of_z c.ranges.number))
