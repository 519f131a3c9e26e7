-- `text_numbers::signed_value` meets its contract: at 64 bits the value cannot leave its range.
use mathlib.Core.Path.{sym, ap, ◌∙◌}
use mathlib.Core.Bool.{Bool, true}
use mir.Syntax.{w64}
use mir.Facts.{to_z-of_z}
use Rattle.text_numerals.specs.Numeral.{signed_value}
use Rattle.text_numbers.proofs.Numbers.{signed_fits, minus-value, plain_value}
use Rattle.text_numbers.proofs.signed_value.Goals as goal

pub returns-then-negative : goal.returns-then-negative
returns-then-negative c =
    let n = c.args.n in
    to_z-of_z {w = w64} (rw (minus-value n c.requires) (signed_fits true n c.requires))
    ∙ minus-value n c.requires
    ∙ ap (λ (x : Bool). signed_value x n) (sym c.if-negative.true)

pub returns-else-negative : goal.returns-else-negative
returns-else-negative c = plain_value c.args.n c.requires ∙ ap (λ (x : Bool). signed_value x c.args.n) (sym c.if-negative.false)
