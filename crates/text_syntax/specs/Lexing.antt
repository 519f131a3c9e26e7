-- The tokens of a line. Document 02: "In rules texts spaces between tokens are free, none stand at a line's ends, and `if`, `remote`, `loop` ..
-- keep at least one after them; the longest token is taken first, and a minus where an operand must begin belongs to the digits straight after it."
use Rattle.std.specs.Prelude.{ℕ, zero, suc, ◌≤◌, ◌≡◌, Bool, true, false, cond, ◌&&◌, List, [], ◌∷◌, ◌++◌, eqb, length, drop}
use Rattle.laws.specs.Bytes.{bytes}
use Rattle.laws.specs.Lists.{Each}
use Rattle.chain_text.specs.Text.{is_capital}
use Rattle.program.specs.declared.rule.Comparison.TheVariants.{Less, Equal, Unequal}
use Rattle.program.specs.declared.rule.Sort.TheVariants.{Least, Total}
use Rattle.text_numerals.specs.Numeral as N
use Rattle.text_numerals.specs.Numeral.{is_digit, NumberForm, signed_form, printed_number}
use Rattle.text_numerals.specs.Span.{span}
use Rattle.text_numerals.specs.Word.{opens_with}
use Rattle.program.specs.declared.rule.Operator.TheVariants.{Plus, Minus, Smaller}
use Rattle.text_syntax.specs.Token.{Token, stepWord, end_word, doneWord, loopWord, ifWord, remoteWord, own, letter, number, becomes, colon, write, operator, comparison, openSquare, closeSquare, openRound, closeRound, unknown}

-- the bytes of a token; "`if`, `remote`, `loop` .. keep at least one [space] after them", and this one is theirs
unfoldable pub spelled : Token → List ℕ
spelled stepWord = bytes "step"
spelled end_word = bytes "end"
spelled doneWord = bytes "done"
spelled loopWord = bytes "loop "
spelled ifWord = bytes "if "
spelled remoteWord = bytes "remote "
spelled own = bytes "u"
spelled (letter l) = l ∷ []
spelled (number negative x) = printed_number negative x
spelled becomes = bytes ":="
spelled colon = bytes ":"
spelled (write Least) = bytes "<?="
spelled (write Total) = bytes "+="
spelled (operator Plus) = bytes "+"
spelled (operator Minus) = bytes "-"
spelled (operator Smaller) = bytes "<?"
spelled (comparison Less) = bytes "<"
spelled (comparison Equal) = bytes "=="
spelled (comparison Unequal) = bytes "!="
spelled openSquare = bytes "["
spelled closeSquare = bytes "]"
spelled openRound = bytes "("
spelled closeRound = bytes ")"
spelled unknown = []

-- words and signs, of which a longer one stands before those that it begins with: "the longest token is taken first"
unfoldable pub words : List Token
words = stepWord ∷ end_word ∷ doneWord ∷ loopWord ∷ ifWord ∷ remoteWord ∷ []

unfoldable pub signs : List Token
signs =
    own ∷ openSquare ∷ closeSquare ∷ openRound ∷ closeRound ∷ becomes ∷ colon ∷ write Least ∷ operator Smaller ∷ comparison Less
    ∷ comparison Equal ∷ comparison Unequal ∷ write Total ∷ operator Plus ∷ operator Minus ∷ []

-- A text that begins with a token: the token and what stands behind it; or with none.
pub data First : Type 0 where
  first : Token → List ℕ → First
  none : First

-- the first token of a table with which a text begins
unfoldable pub fixed_token : List Token → List ℕ → First
fixed_token [] t = none
fixed_token (k ∷ ks) t = cond (opens_with (spelled k) t) (first k (drop (length (spelled k)) t)) (fixed_token ks t)

-- a number as a token
unfoldable pub number_token : NumberForm → First
number_token (N.number negative x rest) = first (number negative x) rest
number_token N.unformed = none

-- the token that a text begins with, where an operand must begin or not: 45 is the minus
unfoldable pub first_token : Bool → List ℕ → First
first_token operand [] = none
first_token operand (b ∷ t) =
    cond (eqb b 45 && operand) (number_token (signed_form true t))
    (cond (is_digit b) (number_token (signed_form false (b ∷ t)))
    (cond (is_capital b) (first (letter b) t)
    (fixed_token (words ++ signs) (b ∷ t))))

-- whether an operand must begin behind a token
unfoldable pub operand_behind : Token → Bool
operand_behind stepWord = false
operand_behind end_word = false
operand_behind doneWord = false
operand_behind loopWord = false
operand_behind ifWord = true
operand_behind remoteWord = false
operand_behind own = false
operand_behind (letter l) = false
operand_behind (number negative x) = false
operand_behind becomes = true
operand_behind colon = false
operand_behind (write k) = true
operand_behind (operator s) = true
operand_behind (comparison c) = true
operand_behind openSquare = false
operand_behind closeSquare = false
operand_behind openRound = true
operand_behind closeRound = false
operand_behind unknown = false

-- byte 32
unfoldable pub is_space : ℕ → Bool
is_space b = eqb b 32

-- a text, unless nothing is left of it
unfoldable pub unless_empty : List ℕ → List ℕ → List ℕ
unless_empty t [] = t
unless_empty t (b ∷ r) = b ∷ r

-- a text without the spaces that it begins with; "none stand at a line's ends", so that a text of spaces alone stays as it is
unfoldable pub skipped : List ℕ → List ℕ
skipped t = unless_empty t (drop (length (span is_space t)) t)

-- a token and those behind it; what is no token ends the list
unfoldable pub followed : First → (Bool → List ℕ → List Token) → List Token
followed none f = unknown ∷ []
followed (first k r) f = k ∷ f (operand_behind k) (skipped r)

-- the tokens of a text, n at most
unfoldable pub tokens_within : ℕ → Bool → List ℕ → List Token
tokens_within zero operand t = []
tokens_within (suc n) operand [] = []
tokens_within (suc n) operand (b ∷ t) = followed (first_token operand (b ∷ t)) (tokens_within n)

-- the tokens of a text, where an operand must begin or not
unfoldable pub tokens_at : Bool → List ℕ → List Token
tokens_at operand t = tokens_within (length t) operand t

-- the tokens of a line
unfoldable pub tokens : List ℕ → List Token
tokens t = tokens_at false t

-- "the longest token is taken first": no word and no sign that stands there is longer than the token that is taken
abbrev pub LongestFirst : Type 0
LongestFirst =
    (operand : Bool) (t : List ℕ) (k : Token) (r : List ℕ) → first_token operand t ≡ first k r
    → Each (λ j. opens_with (spelled j) t ≡ true → length (spelled j) ≤ length (spelled k)) (words ++ signs)
