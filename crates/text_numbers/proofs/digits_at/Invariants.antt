-- The loop's invariant: what is left of the digits comes to the same as the whole.
use Prim.Native.Nat.{◌+◌}
use Rattle.text_numerals.proofs.Digits.{Counted}
use Rattle.text_numbers.proofs.digits_at.Given as goal

abbrev pub invariant-loop-i : goal.invariant-loop-i
invariant-loop-i l = Counted l.at l.n l.line l.value (l.at + l.i)
