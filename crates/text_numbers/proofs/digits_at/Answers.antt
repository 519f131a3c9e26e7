-- `text_numbers::digits_at` meets its contract.
use Prim.Native.Nat.{ℕ, ◌+◌, ◌*◌, ◌-◌, ◌<◌}
use mathlib.Core.Path.{◌≡◌, sym, ap, subst, ◌∙◌}
use native.Mathlib.Omega.{arith}
use lib.ListN.{length}
use Rattle.std.proofs.lemmas.Grind.{common_steps}
use Rattle.text_numerals.specs.Numeral.{is_digit, capped}
use Rattle.text_numerals.proofs.Spans.{starts-past}
use Rattle.text_numerals.proofs.Digits.{Counted, counted-more, counted-end}
use Rattle.text_numbers.proofs.Numbers.{slice-byte, slice-digit}
use Rattle.text_numbers.proofs.digits_at.Goals as goal

pub returns-then-not-is_ascii_digit : goal.returns-then-not-is_ascii_digit
unfolding is_digit
returns-then-not-is_ascii_digit c =
    let inside : c.args.at + c.loop-i.i < length c.args.line.now = grind (arith, common_steps) in
    let p = counted-end c.loop-i.invariant (sym (slice-digit _ _ _ inside) ∙ sym c.is_ascii_digit.ensures.value ∙ c.if-not-is_ascii_digit.true) in
    record { value-is = p.0; end_is = p.1 }

pub with_digit-value-requires : goal.with_digit-value-requires
unfolding is_digit
with_digit-value-requires c = (c.loop-i.invariant.small, sym c.is_ascii_digit.ensures.value ∙ c.if-not-is_ascii_digit.false)

pub loop-i-preserved : goal.loop-i-preserved
unfolding is_digit
loop-i-preserved c =
    let a = c.args in
    let l = c.loop-i in
    let inside : a.at + l.i < length a.line.now = grind (arith, common_steps) in
    let digit = sym (slice-digit _ _ _ inside) ∙ sym c.is_ascii_digit.ensures.value ∙ c.if-not-is_ascii_digit.false in
    let value = c.with_digit-value.ensures ∙ ap (λ (b : ℕ). capped (10 * l.value + (b - 48))) (slice-byte _ _ _ inside) in
    let next : a.at + l.i + 1 ≡ a.at + (l.i + 1) = omega arith in
    subst (Counted _ _ _ _) next (counted-more l.invariant digit value)

pub returns : goal.returns
returns c =
    let end : c.args.at + c.loop-i.i ≡ length c.args.line.now = grind (arith, common_steps) in
    let p = counted-end c.loop-i.invariant (starts-past is_digit c.args.line.now (c.args.at + c.loop-i.i) (omega arith)) in
    record { value-is = p.0; end_is = sym end ∙ p.1 }
