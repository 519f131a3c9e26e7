-- Places of a line, by the tokens from there on.
use Rattle.std.specs.Prelude.{ℕ, ◌≤◌, ◌<◌, ◌≡◌, Bool, true, false, List, [], ◌∷◌, length, drop, Option, Some, None}
use Rattle.std.proofs.Math.Option.{Option as Maybe}
use Rattle.text_syntax.specs.Token.{Token, own, becomes, colon, operator, openSquare, closeSquare, openRound, closeRound}
use Rattle.text_syntax.specs.Kind.{Kind, is, operator_in}
use Rattle.text_syntax.specs.Lexing.{tokens_at}
use Rattle.text_syntax.specs.Form.{unformed, one_of}
use Rattle.text_words.specs.declared.token.Token.{Token as Code}
use Rattle.text_words.specs.declared.token.Token.TheVariants as C
use Rattle.program.specs.declared.rule.Operator.{Operator}
use Rattle.text_places.specs.declared.mark.Mark.{Mark}
use Rattle.text_places.specs.declared.mark.Mark.TheVariants as M

-- the tokens of a line from a place on, where an operand is due or not
abbrev pub tokens_from : Bool → List ℕ → ℕ → List Token
tokens_from due line at = tokens_at due (drop at line)

-- a place of the line behind another
pub record Behind (line : List ℕ) (at end : ℕ) : Type 0 where
  pub onward : at < end
  pub inside : end ≤ length line

-- whether a list begins with a token that stands for itself
unfoldable pub begins : Token → List Token → Bool
begins w [] = false
begins w (t ∷ r) = is w t

-- the token that a mark stands for
abbrev pub mark_token : Mark → Token
mark_token M.Own = own
mark_token M.Becomes = becomes
mark_token M.Colon = colon
mark_token M.OpenSquare = openSquare
mark_token M.CloseSquare = closeSquare
mark_token M.OpenRound = openRound
mark_token M.CloseRound = closeRound

-- the byte of `u` or of a bracket, none for `:=` and `:`
abbrev pub mark_byte : Mark → Option ℕ
mark_byte M.Own = Some 117
mark_byte M.Becomes = None
mark_byte M.Colon = None
mark_byte M.OpenSquare = Some 91
mark_byte M.CloseSquare = Some 93
mark_byte M.OpenRound = Some 40
mark_byte M.CloseRound = Some 41

-- the mark that a token is as the code has it, none for every other token
abbrev pub code_mark : Code → Option Mark
code_mark C.Step = None
code_mark C.End = None
code_mark C.Done = None
code_mark C.Loop = None
code_mark C.If = None
code_mark C.Remote = None
code_mark C.Own = Some M.Own
code_mark (C.Letter l) = None
code_mark (C.Number v) = None
code_mark C.Becomes = Some M.Becomes
code_mark C.Colon = Some M.Colon
code_mark (C.Write k) = None
code_mark (C.Operator o) = None
code_mark (C.Compared c) = None
code_mark C.OpenSquare = Some M.OpenSquare
code_mark C.CloseSquare = Some M.CloseSquare
code_mark C.OpenRound = Some M.OpenRound
code_mark C.CloseRound = Some M.CloseRound
code_mark C.Unknown = None
code_mark C.LineEnd = None

-- the token w stands at a place, where an operand is due or not, before another place
pub record Passing (due then : Bool) (w : Token) (line : List ℕ) (at end : ℕ) : Type 0 where
  pub text : tokens_from due line at ≡ w ∷ tokens_from then line end
  pub behind : Behind line at end

-- it does not stand there
pub record Absent (due : Bool) (w : Token) (line : List ℕ) (at : ℕ) : Type 0 where
  pub absent : begins w (tokens_from due line at) ≡ false

abbrev pub Passes : Bool → Bool → Token → List ℕ → ℕ → Option ℕ → Type 0
Passes due then w line at (Some end) = Passing due then w line at end
Passes due then w line at None = Absent due w line at

-- no token of a kind stands there
pub record NoneOf {A : Type 0} (kinds : Kind → Maybe A) (line : List ℕ) (at : ℕ) : Type 0 where
  pub none : one_of kinds (tokens_from false line at) ≡ unformed

-- a token of a kind stands there, and an operand is due behind it; or none does
abbrev pub PassesOne : {A : Type 0} → (Kind → Maybe A) → (A → Token) → List ℕ → ℕ → Option (A × ℕ) → Type 0
PassesOne kinds token line at (Some (a, end)) = Passing false true (token a) line at end
PassesOne kinds token line at None = NoneOf kinds line at

abbrev pub NoOperator : List ℕ → ℕ → Type 0
NoOperator = NoneOf operator_in

abbrev pub PassesOperator : List ℕ → ℕ → Option (Operator × ℕ) → Type 0
PassesOperator = PassesOne operator_in operator
