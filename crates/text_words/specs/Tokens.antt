-- Tokens as the code has them, and what the readers of words answer for the text from a place on.
use Rattle.std.specs.Prelude.{ℕ, ◌+◌, cond, List, length, Option, Some, None}
use Rattle.text_numerals.specs.Numeral.{capped_value}
use Rattle.text_numerals.specs.Word.{opens_with}
use Rattle.text_syntax.specs.Token as S
use Rattle.text_syntax.specs.Token.{stepWord, end_word, doneWord, loopWord, ifWord, remoteWord, own, letter, number, becomes, colon, write, operator, comparison, openSquare, closeSquare, openRound, closeRound, unknown}
use Rattle.text_syntax.specs.Lexing.{spelled, First, first, none}
use Rattle.text_words.specs.declared.token.Token.{Token}
use Rattle.text_words.specs.declared.token.Token.TheVariants.{Step, End, Done, Loop, If, Remote, Own, Letter, Number, Becomes, Colon, Write, Operator, Compared, OpenSquare, CloseSquare, OpenRound, CloseRound, Unknown}

-- the place behind a word that stands at `at`
unfoldable pub literal_read : ℕ → List ℕ → List ℕ → Option ℕ
literal_read at w t = cond (opens_with w t) (Some (at + length w)) None

-- a token as the code has it
unfoldable pub token_code : S.Token → Token
token_code stepWord = Step
token_code end_word = End
token_code doneWord = Done
token_code loopWord = Loop
token_code ifWord = If
token_code remoteWord = Remote
token_code own = Own
token_code (letter l) = Letter l
token_code (number negative x) = Number (capped_value negative x)
token_code becomes = Becomes
token_code colon = Colon
token_code (write k) = Write k
token_code (operator s) = Operator s
token_code (comparison c) = Compared c
token_code openSquare = OpenSquare
token_code closeSquare = CloseSquare
token_code openRound = OpenRound
token_code closeRound = CloseRound
token_code unknown = Unknown

-- a token and the number of its bytes
abbrev pub sized_token : Token → ℕ → Option (Token × ℕ)
sized_token k n = Some (k, n)

unfoldable pub sized_first : First → Option (Token × ℕ)
sized_first none = None
sized_first (first k r) = sized_token (token_code k) (length (spelled k))
