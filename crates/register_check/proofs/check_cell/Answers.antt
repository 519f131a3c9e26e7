-- `register_check::check_cell` meets its contract: each way out has its law in `Refusals`.
use mathlib.Core.Bool.{Bool}
use mathlib.Core.Path.{◌≡◌, ap, sym, ◌∙◌}
use native.Mathlib.Omega.{arith}
use lib.IntN.{ℤ, pos}
use mir.Facts.{to_z-of_z}
use Rattle.integers.specs.Range.{eq_z, is_index}
use Rattle.register_check.specs.Number.{check_number, refusal_number}
use Rattle.register.proofs.Refusals.{refused_mark, missing_zero, refused_missing, filled_measure, filled_reference, refused_reference}
use Rattle.register_check.proofs.check_cell.Goals as goal

pub returns-then-mark-gt2 : goal.returns-then-mark-gt2
unfolding check_number refusal_number
returns-then-mark-gt2 c = sym (refused_mark _ _ _ _ c.if-mark-gt2.true)

pub returns-then-equal : goal.returns-then-equal
unfolding check_number refusal_number
returns-then-equal c =
    let zero_test : (t : Bool) → c.equal.result ≡ t → eq_z c.args.value (pos 0) ≡ t = λ t h. ap (λ (z : ℤ). eq_z z (pos 0)) (sym (to_z-of_z c.ranges.value)) ∙ sym c.equal.ensures ∙ h in
    sym (missing_zero _ _ _ _ c.if-mark-eq0.true (zero_test _ c.if-equal.true))

pub returns-then-mark-eq0 : goal.returns-then-mark-eq0
unfolding check_number refusal_number
returns-then-mark-eq0 c =
    let zero_test : (t : Bool) → c.equal.result ≡ t → eq_z c.args.value (pos 0) ≡ t = λ t h. ap (λ (z : ℤ). eq_z z (pos 0)) (sym (to_z-of_z c.ranges.value)) ∙ sym c.equal.ensures ∙ h in
    sym (refused_missing _ _ _ _ c.if-mark-eq0.true (zero_test _ c.if-equal.false))

pub returns-then-is_index : goal.returns-then-is_index
unfolding check_number refusal_number
returns-then-is_index c =
    let index-test : (t : Bool) → c.is_index.result ≡ t → is_index c.args.records c.args.value ≡ t = λ t h. ap (is_index _) (sym (to_z-of_z c.ranges.value)) ∙ sym c.is_index.ensures ∙ h in
    sym (filled_reference _ _ _ _ (omega arith) c.if-mark-eq0.false c.if-reference.true (index-test _ c.if-is_index.true))

pub returns-then-reference : goal.returns-then-reference
unfolding check_number refusal_number
returns-then-reference c =
    let index-test : (t : Bool) → c.is_index.result ≡ t → is_index c.args.records c.args.value ≡ t = λ t h. ap (is_index _) (sym (to_z-of_z c.ranges.value)) ∙ sym c.is_index.ensures ∙ h in
    sym (refused_reference _ _ _ _ (omega arith) c.if-mark-eq0.false c.if-reference.true (index-test _ c.if-is_index.false))

pub returns : goal.returns
unfolding check_number refusal_number
returns c = sym (filled_measure _ _ _ _ (omega arith) c.if-mark-eq0.false c.if-reference.false)
