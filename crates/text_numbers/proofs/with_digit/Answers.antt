-- `text_numbers::with_digit` meets its contract.
use native.Mathlib.Omega.{arith}
use Rattle.text_numerals.specs.Numeral.{capped}
use Rattle.text_numerals.proofs.Digits.{digit_low}
use Rattle.text_numbers.proofs.with_digit.Goals as goal

pub overflow_sub-next : goal.overflow_sub-next
overflow_sub-next c = omega (arith, digit_low c.args.b c.requires.1)

pub returns : goal.returns
unfolding capped
returns c = omega arith
