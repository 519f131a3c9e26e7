-- `text_numbers::is_numeral` meets its contract: its tests are those of a numeral.
use mathlib.Core.Path.{sym}
use native.Mathlib.Omega.{arith}
use Rattle.text_numerals.proofs.Digits.{digits-inside}
use Rattle.text_numbers.proofs.Numbers.{point_before, numeral-at, numeral-empty}
use Rattle.text_numbers.proofs.is_numeral.Goals as goal

pub returns-then-point-at : goal.returns-then-point-at
returns-then-point-at c = sym (numeral-empty _ _ (omega (arith, c.requires.point_is, c.if-point-at.true)))

pub bounds-line-at : goal.bounds-line-at
bounds-line-at c = digits-inside _ _ _ c.requires.point_is c.if-point-at.false

pub overflow_sub-behind : goal.overflow_sub-behind
overflow_sub-behind c = point_before c.requires

pub returns : goal.returns
returns c = sym (numeral-at _ _ _ c.requires c.if-point-at.false)
