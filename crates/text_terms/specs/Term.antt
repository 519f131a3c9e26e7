-- What the reader of terms answers, by the tokens from a place on.
use Rattle.std.specs.Prelude.{ℕ, ◌≡◌, Bool, true, false, not, List, ℤ, pos, Option, None, Some}
use Rattle.register.specs.declared.Sizes.{Sizes}
use Rattle.chain_text.specs.declared.letters.Letters.{Letters}
use Rattle.program.specs.Code.{chain_code, number_code}
use Rattle.text_syntax.specs.Form.{formed, unformed}
use Rattle.text_syntax.specs.Written.{Term, chain}
use Rattle.text_syntax.specs.Grammar.{chain_form, term_form}
use Rattle.text_codes.specs.declared.code.TermParts.{TermParts}
use Rattle.text_codes.specs.Coded.{parts_of}
use Rattle.text_places.specs.Place.{tokens_from, Behind}
use Rattle.text_terms.specs.Chain.{NoChain}

-- a chain's code by what is known of its letters, and whether it is a reference
abbrev pub chain_parts : Letters → Bool → TermParts
chain_parts x reference = record {
  code = chain_code x.packed;
  named = x.named;
  kinded = x.kinded;
  reference = reference;
  short = not x.long;
  ranged = true;
}

-- a number's code, in range or not: 0 stands for one that is out of range
abbrev pub plain_parts : ℤ → Bool → TermParts
plain_parts z ranged = record { code = number_code z; named = true; kinded = true; reference = false; short = true; ranged = ranged }

abbrev pub number_parts : Option ℤ → TermParts
number_parts (Some z) = plain_parts z true
number_parts None = plain_parts (pos 0) false

-- a chain stands at a place where an operand is due or not, or none
pub record ChainTerm (s : Sizes) (due : Bool) (line : List ℕ) (at : ℕ) (p : TermParts) (end : ℕ) : Type 0 where
  pub letters : List ℕ
  pub form_is : chain_form (tokens_from due line at) ≡ formed letters (tokens_from false line end)
  pub parts_are : p ≡ parts_of s (chain letters)
  pub behind : Behind line at end

abbrev pub ChainPartsAt : Sizes → Bool → List ℕ → ℕ → Option (TermParts × ℕ) → Type 0
ChainPartsAt s due line at (Some (p, end)) = ChainTerm s due line at p end
ChainPartsAt s due line at None = NoChain due line at

-- a term stands at a place where an operand is due, or none
pub record TermFormed (s : Sizes) (line : List ℕ) (at : ℕ) (p : TermParts) (end : ℕ) : Type 0 where
  pub written : Term
  pub form_is : term_form (tokens_from true line at) ≡ formed written (tokens_from false line end)
  pub parts_are : p ≡ parts_of s written
  pub behind : Behind line at end

pub record NoTerm (line : List ℕ) (at : ℕ) : Type 0 where
  pub none : term_form (tokens_from true line at) ≡ unformed

abbrev pub TermAt : Sizes → List ℕ → ℕ → Option (TermParts × ℕ) → Type 0
TermAt s line at (Some (p, end)) = TermFormed s line at p end
TermAt s line at None = NoTerm line at
