-- `text_numbers::numeral_at` meets its contract: digits, and where a point follows the digits behind it.
use Prim.Native.Nat.{◌<◌}
use mathlib.Core.Path.{◌≡◌, sym, ◌∙◌}
use mathlib.Core.Bool.{true}
use native.Mathlib.Omega.{arith}
use lib.ListN.{length, drop}
use Rattle.chain_text.specs.Scan.{starts_with}
use Rattle.chain_text.proofs.Scanning.{starts-inside}
use Rattle.text_numerals.proofs.Digits.{capped-bound}
use Rattle.text_numbers.proofs.Numbers.{reads_plain, reads_metres}
use Rattle.text_numbers.proofs.numeral_at.Goals as goal

pub returns-then-not-starts_with : goal.returns-then-not-starts_with
returns-then-not-starts_with c =
    reads_plain _ _ c.digits_at-whole.ensures (sym c.starts_with.ensures ∙ c.if-not-starts_with.true)

pub overflow_add-point : goal.overflow_add-point
overflow_add-point c =
    let a_point : starts_with 46 (drop c.digits_at-whole.result.end c.args.line.now) ≡ true = sym c.starts_with.ensures ∙ c.if-not-starts_with.false in
    let inside : c.digits_at-whole.result.end < length c.args.line.now = starts-inside _ _ _ (a_point) in
    record { fits = omega (arith, inside) }

pub digits_at-all-requires : goal.digits_at-all-requires
digits_at-all-requires c =
    let a_point : starts_with 46 (drop c.digits_at-whole.result.end c.args.line.now) ≡ true = sym c.starts_with.ensures ∙ c.if-not-starts_with.false in
    let inside : c.digits_at-whole.result.end < length c.args.line.now = starts-inside _ _ _ (a_point) in
    (omega (arith, inside), rw c.digits_at-whole.ensures.value-is (capped-bound _))

pub returns : goal.returns
returns c =
    let a_point : starts_with 46 (drop c.digits_at-whole.result.end c.args.line.now) ≡ true = sym c.starts_with.ensures ∙ c.if-not-starts_with.false in
    reads_metres _ _ c.digits_at-whole.ensures (a_point) c.digits_at-all.ensures
