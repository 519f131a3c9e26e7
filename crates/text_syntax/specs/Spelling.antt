-- The ways to write a list of tokens: any number of spaces between two of them, none at the ends.
use Rattle.std.specs.Prelude.{ℕ, zero, suc, ◌≡◌, ◌≢◌, Bool, true, false, not, ◌&&◌, List, [], ◌∷◌, ◌++◌}
use Rattle.laws.specs.Lists.{every}
use Rattle.chain_text.specs.Text.{is_capital}
use Rattle.chain_text.specs.Scan.{starts_with}
use Rattle.program.specs.declared.rule.Comparison.TheVariants.{Less, Equal, Unequal}
use Rattle.text_numerals.specs.Numeral.{is_digit, starts_digit, Numeral, all_digits, is_numeral}
use Rattle.program.specs.declared.rule.Operator.TheVariants.{Plus, Minus, Smaller}
use Rattle.text_syntax.specs.Token.{Token, stepWord, end_word, doneWord, loopWord, ifWord, remoteWord, own, letter, number, becomes, colon, write, operator, comparison, openSquare, closeSquare, openRound, closeRound, unknown}
use Rattle.text_syntax.specs.Lexing.{spelled, operand_behind}

-- a number with its minus only where an operand must begin, and with neither a digit nor a point behind it
pub record NumberStands (operand negative : Bool) (x : Numeral) (r : List ℕ) : Type 0 where
  pub sign : negative && not operand ≡ false
  pub numeral : is_numeral negative x ≡ true
  pub digits : every is_digit (all_digits x) ≡ true
  pub no_digit : starts_digit r ≡ false
  pub no_point : starts_with 46 r ≡ false

-- whether a token may stand where an operand must begin or not, with r behind it: no longer token would begin there (61 is `=`, 63 `?`),
-- and "a minus where an operand must begin belongs to the digits"
abbrev pub Stands : Bool → Token → List ℕ → Type 0
Stands operand stepWord r = Unit {0}
Stands operand end_word r = Unit {0}
Stands operand doneWord r = Unit {0}
Stands operand loopWord r = Unit {0}
Stands operand ifWord r = Unit {0}
Stands operand remoteWord r = Unit {0}
Stands operand own r = Unit {0}
Stands operand (letter l) r = is_capital l ≡ true
Stands operand (number negative x) r = NumberStands operand negative x r
Stands operand becomes r = Unit {0}
Stands operand colon r = starts_with 61 r ≡ false
Stands operand (write k) r = Unit {0}
Stands operand (operator Plus) r = starts_with 61 r ≡ false
Stands operand (operator Minus) r = operand ≡ false
Stands operand (operator Smaller) r = starts_with 61 r ≡ false
Stands operand (comparison Less) r = starts_with 63 r ≡ false
Stands operand (comparison Equal) r = Unit {0}
Stands operand (comparison Unequal) r = Unit {0}
Stands operand openSquare r = Unit {0}
Stands operand closeSquare r = Unit {0}
Stands operand openRound r = Unit {0}
Stands operand closeRound r = Unit {0}
Stands operand unknown r = ⊥

-- n spaces
unfoldable pub spaces : ℕ → List ℕ
spaces zero = []
spaces (suc n) = 32 ∷ spaces n

-- A text that spells tokens, where an operand must begin or not: "spaces between tokens are free, none stand at a line's ends".
pub data Spells : Bool → List Token → List ℕ → Type 0 where
  empty : {operand : Bool} → Spells operand [] []
  last : {operand : Bool} {k : Token} → Stands operand k [] → Spells operand (k ∷ []) (spelled k)
  spaced : {operand : Bool} {k j : Token} {ks : List Token} {r : List ℕ} (n : ℕ)
      → Stands operand k (spaces n ++ r) → Spells (operand_behind k) (j ∷ ks) r → Spells operand (k ∷ j ∷ ks) (spelled k ++ (spaces n ++ r))

-- what is a token
abbrev pub IsToken : Token → Type 0
IsToken k = k ≢ unknown
