-- What the reader of chains answers, by the tokens from a place on.
use Rattle.std.specs.Prelude.{ℕ, ◌≤◌, ◌<◌, ◌≡◌, Bool, true, false, List, ◌∷◌, length, Option, Some, None}
use Rattle.register.specs.declared.Sizes.{Sizes}
use Rattle.chain_text.specs.Text.{is_capital}
use Rattle.chain_text.specs.Scan.{steps}
use Rattle.chain_text.specs.declared.letters.Letters.{Letters}
use Rattle.text_syntax.specs.Token.{own, letter, openSquare}
use Rattle.text_syntax.specs.Form.{formed, unformed}
use Rattle.text_syntax.specs.Grammar.{chain_form}
use Rattle.text_syntax.specs.Flat.{closed_chain}
use Rattle.text_terms.specs.declared.chains.Link.{Link}
use Rattle.text_terms.specs.declared.chains.Link.TheVariants.{Own, Letter}
use Rattle.text_places.specs.Place.{tokens_from, Behind, Passing}

-- a letter and `[`
pub record Opens (due : Bool) (line : List ℕ) (at l end : ℕ) : Type 0 where
  pub text : tokens_from due line at ≡ letter l ∷ openSquare ∷ tokens_from false line end
  pub capital : is_capital l ≡ true
  pub behind : Behind line at end

-- no chain stands at a place
pub record NoChain (due : Bool) (line : List ℕ) (at : ℕ) : Type 0 where
  pub none : chain_form (tokens_from due line at) ≡ unformed

-- what a chain begins with, at a place where an operand is due or not
abbrev pub LinkAt : Bool → List ℕ → ℕ → Option Link → Type 0
LinkAt due line at (Some (Own end)) = Passing due false own line at end
LinkAt due line at (Some (Letter l end)) = Opens due line at l end
LinkAt due line at None = NoChain due line at

-- `]` stands n times, whatever the letters; or not so often
pub record Closes (n : ℕ) (line : List ℕ) (at end : ℕ) : Type 0 where
  pub text : (ls : List ℕ) → closed_chain n ls (tokens_from false line at) ≡ formed ls (tokens_from false line end)
  pub onward : at ≤ end
  pub inside : end ≤ length line

pub record Unclosed (n : ℕ) (line : List ℕ) (at : ℕ) : Type 0 where
  pub none : (ls : List ℕ) → closed_chain n ls (tokens_from false line at) ≡ unformed

abbrev pub ClosesAt : ℕ → List ℕ → ℕ → Option ℕ → Type 0
ClosesAt n line at (Some end) = Closes n line at end
ClosesAt n line at None = Unclosed n line at

-- a chain that stands behind the letters x, with room for k more hops: what is known of its letters then, and where it ends
pub record ChainFormed (s : Sizes) (k : ℕ) (x : Letters) (due : Bool) (line : List ℕ) (at : ℕ) (y : Letters) (end : ℕ) : Type 0 where
  pub letters : List ℕ
  pub form_is : chain_form (tokens_from due line at) ≡ formed letters (tokens_from false line end)
  pub letters_are : y ≡ steps s k x letters
  pub small : y.packed < 9007199254740992
  pub behind : Behind line at end

-- a chain stands there, or none
abbrev pub ChainAt : Sizes → ℕ → Letters → Bool → List ℕ → ℕ → Option (Letters × ℕ) → Type 0
ChainAt s k x due line at (Some (y, end)) = ChainFormed s k x due line at y end
ChainAt s k x due line at None = NoChain due line at
