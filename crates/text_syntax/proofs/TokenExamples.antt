-- Tokens of short texts: free spaces, and the minus where an operand must begin.
use Prim.Native.String.{String}
use mathlib.Core.Path.{◌≡◌, refl}
use mathlib.Core.Bool.{Bool, true, false}
use mathlib.Core.List.{List, [], ◌∷◌}
use Rattle.laws.specs.Bytes.{bytes}
use Rattle.chain_text.specs.Text.{is_capital}
use Rattle.chain_text.specs.Scan.{starts_with}
use Rattle.text_numerals.specs.Numeral.{is_digit, digits, decimal, whole, all_digits, centimetres, whole_digits, printed_numeral, no_leading_zero, two_decimals, is_numeral, with_decimals, numeral, signed_form}
use Rattle.text_numerals.specs.Span.{span}
use Rattle.text_numerals.specs.Word.{opens_with}
use Rattle.program.specs.declared.rule.Operator.TheVariants.{Minus}
use Rattle.text_syntax.specs.Token.{Token, stepWord, ifWord, own, letter, number, operator, openSquare, closeSquare, openRound, closeRound, unknown}
use Rattle.text_syntax.specs.Lexing.{spelled, words, signs, fixed_token, number_token, first_token, operand_behind, is_space, unless_empty, skipped, followed, tokens_within, tokens_at}

-- the tokens of a text, where an operand must begin or not
unfoldable tokens_of : Bool → String → List Token
unfolding tokens_at tokens_within followed first_token fixed_token words signs spelled opens_with is_digit is_capital number_token signed_form is_numeral numeral with_decimals digits span starts_with no_leading_zero two_decimals whole_digits centimetres all_digits decimal printed_numeral operand_behind skipped unless_empty is_space
tokens_of operand t = tokens_at operand (bytes t)

abbrev one : Token
one = number false (whole (bytes "1"))

abbrev negative : Token
negative = number true (whole (bytes "1"))

abbrev difference : List Token
difference = one ∷ operator Minus ∷ negative ∷ []

-- `1--1` is a difference, spaced or not, of which the second number has a minus
tight : tokens_of true "1--1" ≡ difference
unfolding tokens_of
tight = refl

spaced : tokens_of true "1 -  -1" ≡ difference
unfolding tokens_of
spaced = refl

-- a minus belongs to the digits straight after it, where an operand must begin
in_brackets : tokens_of true "(-1)" ≡ openRound ∷ negative ∷ closeRound ∷ []
unfolding tokens_of
in_brackets = refl

behind-operand : tokens_of true "1-1" ≡ one ∷ operator Minus ∷ one ∷ []
unfolding tokens_of
behind-operand = refl

-- and anything else there is no token
minus-apart : tokens_of true "- 1" ≡ unknown ∷ []
unfolding tokens_of
minus-apart = refl

minus_twice : tokens_of true "--1" ≡ unknown ∷ []
unfolding tokens_of
minus_twice = refl

minus-bracket : tokens_of true "-(1)" ≡ unknown ∷ []
unfolding tokens_of
minus-bracket = refl

minus_zero : tokens_of true "1 - -0" ≡ one ∷ operator Minus ∷ unknown ∷ []
unfolding tokens_of
minus_zero = refl

-- spaces are free inside chains, and `if` keeps one
chain_spaced : tokens_of false "M [ A[u] ]" ≡ letter 77 ∷ openSquare ∷ letter 65 ∷ openSquare ∷ own ∷ closeSquare ∷ closeSquare ∷ []
unfolding tokens_of
chain_spaced = refl

if_space : tokens_of false "if (" ≡ ifWord ∷ openRound ∷ []
unfolding tokens_of
if_space = refl

if_tight : tokens_of false "if(" ≡ unknown ∷ []
unfolding tokens_of
if_tight = refl

-- none stand at a line's ends
end_space : tokens_of false "step " ≡ stepWord ∷ unknown ∷ []
unfolding tokens_of
end_space = refl

front_space : tokens_of false " step" ≡ unknown ∷ []
unfolding tokens_of
front_space = refl
