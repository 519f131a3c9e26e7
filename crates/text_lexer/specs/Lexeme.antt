-- What the lexer answers for the text from a place on, and what that says of the tokens from there on.
use Rattle.std.specs.Prelude.{ℕ, ◌+◌, ◌-◌, ◌≤◌, ◌<◌, ◌≡◌, ◌≢◌, Bool, true, false, List, [], ◌∷◌, ℤ, length, drop}
use Rattle.text_numerals.specs.Numeral.{Numeral, capped_value}
use Rattle.text_syntax.specs.Token as S
use Rattle.text_syntax.specs.Token.{stepWord, end_word, doneWord, loopWord, ifWord, remoteWord, own, letter, number, becomes, colon, write, operator, comparison, openSquare, closeSquare, openRound, closeRound, unknown}
use Rattle.text_words.specs.Tokens.{token_code}
use Rattle.text_syntax.specs.Lexing.{spelled, First, first, none, first_token, skipped, tokens_at}
use Rattle.text_words.specs.declared.token.Token.{Token}
use Rattle.text_words.specs.declared.token.Token.TheVariants.{Step, End, Done, Loop, If, Remote, Own, Letter, Number, Becomes, Colon, Write, Operator, Compared, OpenSquare, CloseSquare, OpenRound, CloseRound, Unknown, LineEnd}
use Rattle.text_lexer.specs.declared.lexer.Lexeme.{Lexeme}

-- the place of the next token in a text that stands at `at`, behind a token
unfoldable pub next_place : ℕ → List ℕ → ℕ
next_place at r = at + (length r - length (skipped r))

-- the first token of a text that stands at `at`, and the place of the next one; behind what is no token the line counts as ended
unfoldable pub placed : ℕ → List ℕ → First → Lexeme
placed at t none = record { token = Unknown; end = at + length t }
placed at t (first k r) = record { token = token_code k; end = next_place (at + length (spelled k)) r }

-- the answer for a text that stands at `at`, where an operand must begin or not
unfoldable pub lexeme : Bool → ℕ → List ℕ → Lexeme
lexeme operand at [] = record { token = LineEnd; end = at }
lexeme operand at (b ∷ t) = placed at (b ∷ t) (first_token operand (b ∷ t))

-- the first token of a list as the code has it, or the end of the line
unfoldable pub first_code : List S.Token → Token
first_code [] = LineEnd
first_code (k ∷ ks) = token_code k

-- a number before the tokens ks
pub record NumberFirst (value : ℤ) (ts ks : List S.Token) : Type 0 where
  pub negative : Bool
  pub numeral : Numeral
  pub value-is : value ≡ capped_value negative numeral
  pub tokens_are : ts ≡ number negative numeral ∷ ks

-- what an answer says of the tokens ts from its place on: its token, and the tokens from the next place on, where an operand must begin or not
abbrev pub Reads : Token → List S.Token → (Bool → List S.Token) → Type 0
Reads Step ts rest = ts ≡ stepWord ∷ rest false
Reads End ts rest = ts ≡ end_word ∷ rest false
Reads Done ts rest = ts ≡ doneWord ∷ rest false
Reads Loop ts rest = ts ≡ loopWord ∷ rest false
Reads If ts rest = ts ≡ ifWord ∷ rest true
Reads Remote ts rest = ts ≡ remoteWord ∷ rest false
Reads Own ts rest = ts ≡ own ∷ rest false
Reads (Letter l) ts rest = ts ≡ letter l ∷ rest false
Reads (Number v) ts rest = NumberFirst v ts (rest false)
Reads Becomes ts rest = ts ≡ becomes ∷ rest true
Reads Colon ts rest = ts ≡ colon ∷ rest false
Reads (Write k) ts rest = ts ≡ write k ∷ rest true
Reads (Operator s) ts rest = ts ≡ operator s ∷ rest true
Reads (Compared c) ts rest = ts ≡ comparison c ∷ rest true
Reads OpenSquare ts rest = ts ≡ openSquare ∷ rest false
Reads CloseSquare ts rest = ts ≡ closeSquare ∷ rest false
Reads OpenRound ts rest = ts ≡ openRound ∷ rest true
Reads CloseRound ts rest = ts ≡ closeRound ∷ rest false
Reads Unknown ts rest = ts ≡ unknown ∷ []
Reads LineEnd ts rest = ts ≡ []

-- The answer at `at` of a line, by the tokens of the line alone.
pub record Lexed (operand : Bool) (line : List ℕ) (at : ℕ) (x : Lexeme) : Type 0 where
  pub token_is : x.token ≡ first_code (tokens_at operand (drop at line))
  pub reads : Reads x.token (tokens_at operand (drop at line)) (λ o. tokens_at o (drop x.end line))
  pub inside : x.end ≤ length line
  pub onward : x.token ≢ LineEnd → at < x.end
