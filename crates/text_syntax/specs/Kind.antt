-- A token by its kind, for readers that ask for a token of one kind.
use Rattle.std.specs.Prelude.{ℕ, Bool, false, eqb}
use Rattle.std.proofs.Math.Option.{Option, none, some}
use Rattle.program.specs.declared.rule.Comparison.{Comparison}
use Rattle.program.specs.declared.rule.Sort.{Sort}
use Rattle.text_numerals.specs.Numeral.{Numeral}
use Rattle.text_syntax.specs.Token as T
use Rattle.program.specs.declared.rule.Operator.{Operator}
use Rattle.text_syntax.specs.Token.{Token}

-- a token that stands for itself, by a number of its own; a letter, a number, a sort of remote write, an operator, a comparison
pub data Kind : Type 0 where
  fixed : ℕ → Kind
  letter : ℕ → Kind
  number : Bool → Numeral → Kind
  write : Sort → Kind
  operator : Operator → Kind
  comparison : Comparison → Kind

unfoldable pub kind : Token → Kind
kind T.unknown = fixed 0
kind T.stepWord = fixed 1
kind T.end_word = fixed 2
kind T.doneWord = fixed 3
kind T.loopWord = fixed 4
kind T.ifWord = fixed 5
kind T.remoteWord = fixed 6
kind T.own = fixed 7
kind T.becomes = fixed 8
kind T.colon = fixed 9
kind T.openSquare = fixed 10
kind T.closeSquare = fixed 11
kind T.openRound = fixed 12
kind T.closeRound = fixed 13
kind (T.letter l) = letter l
kind (T.number negative x) = number negative x
kind (T.write k) = write k
kind (T.operator o) = operator o
kind (T.comparison c) = comparison c

-- what a token of one kind holds
unfoldable pub fixed_in : Kind → Option ℕ
fixed_in (fixed n) = some n
fixed_in (letter l) = none
fixed_in (number negative x) = none
fixed_in (write k) = none
fixed_in (operator o) = none
fixed_in (comparison c) = none

unfoldable pub letter_in : Kind → Option ℕ
letter_in (fixed n) = none
letter_in (letter l) = some l
letter_in (number negative x) = none
letter_in (write k) = none
letter_in (operator o) = none
letter_in (comparison c) = none

unfoldable pub write_in : Kind → Option Sort
write_in (fixed n) = none
write_in (letter l) = none
write_in (number negative x) = none
write_in (write k) = some k
write_in (operator o) = none
write_in (comparison c) = none

unfoldable pub operator_in : Kind → Option Operator
operator_in (fixed n) = none
operator_in (letter l) = none
operator_in (number negative x) = none
operator_in (write k) = none
operator_in (operator o) = some o
operator_in (comparison c) = none

unfoldable pub comparison_in : Kind → Option Comparison
comparison_in (fixed n) = none
comparison_in (letter l) = none
comparison_in (number negative x) = none
comparison_in (write k) = none
comparison_in (operator o) = none
comparison_in (comparison c) = some c

-- whether two are one number
unfoldable pub same : Option ℕ → Option ℕ → Bool
same none n = false
same (some m) none = false
same (some m) (some n) = eqb n m

-- whether a token is this one, which stands for itself
unfoldable pub is : Token → Token → Bool
is w t = same (fixed_in (kind w)) (fixed_in (kind t))
