-- `text_numbers::signed_digits` meets its contract.
use Rattle.std.specs.Prelude.{Some}
use Prim.Native.Nat.{ℕ}
use mathlib.Core.Path.{sym, ap, ap₂, ◌∙◌}
use lib.IntN.{ℤ}
use mir.Syntax.{w64}
use mir.Facts.{to_z-of_z}
use Rattle.text_numerals.specs.Numeral.{signed_value}
use Rattle.text_numerals.proofs.Digits.{capped-bound}
use Rattle.text_numbers.proofs.Numbers.{read_unformed, read-formed}
use Rattle.text_numbers.proofs.signed_digits.Goals as goal

pub is_numeral-requires : goal.is_numeral-requires
is_numeral-requires c = c.numeral_at-figures.ensures

pub returns-then-not-is_numeral : goal.returns-then-not-is_numeral
returns-then-not-is_numeral c = sym (read_unformed _ _ _ (sym c.is_numeral.ensures ∙ c.if-not-is_numeral.true))

pub signed_value-requires : goal.signed_value-requires
signed_value-requires c = rw c.numeral_at-figures.ensures.value-is (capped-bound _)

pub returns : goal.returns
returns c =
    let d = c.numeral_at-figures.ensures in
    let value = to_z-of_z {w = w64} (record { sfits = c.signed_value.type_inv }) ∙ c.signed_value.ensures ∙ ap (signed_value _) d.value-is in
    ap₂ (λ (z : ℤ) (n : ℕ). Some (z, n)) value d.end_is ∙ sym (read-formed _ _ _ (sym c.is_numeral.ensures ∙ c.if-not-is_numeral.false))
