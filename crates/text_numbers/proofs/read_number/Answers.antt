-- `text_numbers::read_number` meets its contract.
use Prim.Native.Nat.{◌+◌, ℕ}
use mathlib.Core.Path.{sym, ap, ◌∙◌}
use mathlib.Core.Bool.{true}
use mathlib.Core.List.{List}
use native.Mathlib.Omega.{arith}
use lib.ListN.{drop}
use lib.Seq.{drop-drop}
use Rattle.chain_text.proofs.Scanning.{starts-inside}
use Rattle.text_numerals.specs.Numeral.{signed_form}
use Rattle.text_numbers.specs.Numbers.{digits_read}
use Rattle.text_numbers.proofs.Numbers.{read-minus, read_plain}
use Rattle.text_numbers.proofs.read_number.Goals as goal

pub signed_digits-requires : goal.signed_digits-requires
signed_digits-requires c =
    let a = c.args in
    omega (arith, starts-inside a.line.now a.at 45 (sym c.starts_with.ensures ∙ c.if-starts_with.true))

pub returns-then-starts_with : goal.returns-then-starts_with
returns-then-starts_with c =
    let a = c.args in
    c.signed_digits.ensures
    ∙ ap (λ (l : List ℕ). digits_read (a.at + 1) (signed_form true l)) (sym (drop-drop 1 a.at a.line.now))
    ∙ read-minus a.at (drop a.at a.line.now) (sym c.starts_with.ensures ∙ c.if-starts_with.true)

pub returns : goal.returns
returns c =
    let a = c.args in
    c.signed_digits-2.ensures ∙ read_plain a.at (drop a.at a.line.now) (sym c.starts_with.ensures ∙ c.if-starts_with.false)
