-- Single tokens at a place of a line.
use Rattle.std.specs.Prelude.{ℕ, ◌≡◌, Bool, true, false, List, [], ◌∷◌, Option, Some, None}
use Rattle.chain_text.specs.Text.{is_capital}
use Rattle.text_syntax.specs.Token.{Token, letter, write, comparison, own, becomes, openSquare, closeSquare}
use Rattle.text_syntax.specs.Kind.{letter_in, write_in, comparison_in}
use Rattle.text_syntax.specs.Form.{unformed, one_of}
use Rattle.text_syntax.specs.Grammar.{local_form}
use Rattle.program.specs.declared.rule.Sort.{Sort}
use Rattle.program.specs.declared.rule.Comparison.{Comparison}
use Rattle.text_places.specs.Place.{tokens_from, Behind, Passing, NoneOf, PassesOne}

-- a capital stands at a place, where an operand is due or not, or none
pub record Lettered (due : Bool) (l : ℕ) (line : List ℕ) (at end : ℕ) : Type 0 where
  pub passing : Passing due false (letter l) line at end
  pub capital : is_capital l ≡ true

pub record NoLetter (due : Bool) (line : List ℕ) (at : ℕ) : Type 0 where
  pub none : one_of letter_in (tokens_from due line at) ≡ unformed

abbrev pub PassesLetter : Bool → List ℕ → ℕ → Option (ℕ × ℕ) → Type 0
PassesLetter due line at (Some (l, end)) = Lettered due l line at end
PassesLetter due line at None = NoLetter due line at

-- a capital is a token whether an operand is due or not
abbrev pub LetterAt : List ℕ → ℕ → Option (ℕ × ℕ) → Type 0
LetterAt line at r = (due : Bool) → PassesLetter due line at r

-- `<?=` or `+=`; `<`, `==` or `!=`
abbrev pub NoWrite : List ℕ → ℕ → Type 0
NoWrite = NoneOf write_in

abbrev pub PassesWrite : List ℕ → ℕ → Option (Sort × ℕ) → Type 0
PassesWrite = PassesOne write_in write

abbrev pub NoComparison : List ℕ → ℕ → Type 0
NoComparison = NoneOf comparison_in

abbrev pub PassesComparison : List ℕ → ℕ → Option (Comparison × ℕ) → Type 0
PassesComparison = PassesOne comparison_in comparison

-- `[u] :=` stands at a place, or no letter before it begins a local rule
pub record Assigned (line : List ℕ) (at end : ℕ) : Type 0 where
  pub text : tokens_from false line at ≡ openSquare ∷ own ∷ closeSquare ∷ becomes ∷ tokens_from true line end
  pub behind : Behind line at end

pub record NotAssigned (line : List ℕ) (at : ℕ) : Type 0 where
  pub none : (f : ℕ) → local_form (letter f ∷ tokens_from false line at) ≡ unformed

abbrev pub PassesAssigned : List ℕ → ℕ → Option ℕ → Type 0
PassesAssigned line at (Some end) = Assigned line at end
PassesAssigned line at None = NotAssigned line at

-- whether no token stands there
unfoldable pub is_empty : List Token → Bool
is_empty [] = true
is_empty (t ∷ r) = false
