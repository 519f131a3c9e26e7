-- How the chain reader goes through a text: letter by letter from the outside in, with what it knows of the letters so far.
use Rattle.std.specs.Prelude.{Option, Some, None, ℕ, zero, suc, ◌+◌, ◌-◌, ◌*◌, ◌≡◌, Bool, true, false, cond, ◌&&◌, ◌||◌, List, [], ◌∷◌, ltb, eqb, length, take, drop}
use Rattle.register.specs.declared.Sizes.{Sizes}
use Rattle.chain.specs.Word.{push, pack}
use Rattle.chain_text.specs.Text.{Form, formed, unformed, is_capital, letter_field, names, is_reference_letter, inner_references, word_of}
use Rattle.laws.specs.Lists.{every}
use Rattle.chain_text.specs.declared.letters.Letters.{Letters}

-- whether a text begins with byte b
unfoldable pub starts_with : ℕ → List ℕ → Bool
starts_with b [] = false
starts_with b (a ∷ t) = eqb a b

-- whether a text begins with a field letter and `[`
unfoldable pub opens : List ℕ → Bool
opens [] = false
opens (l ∷ []) = false
opens (l ∷ d ∷ t) = is_capital l && eqb d 91

-- what is to be known of a chain's letters
unfoldable pub summary : Sizes → List ℕ → Letters
summary s ls = record {
  packed = pack (word_of (take 16 ls));
  named = every (names s) ls;
  kinded = inner_references ls;
  long = ltb 16 (length ls);
}

-- one more letter, with room for k more hops
unfoldable pub step : Sizes → ℕ → Letters → ℕ → Letters
step s k x l = record {
  packed = cond (eqb k 0) x.packed (push x.packed (letter_field l));
  named = x.named && names s l;
  kinded = x.kinded && (eqb x.packed 0 || is_reference_letter l);
  long = x.long || eqb k 0;
}

-- more letters, from the outside in
unfoldable pub steps : Sizes → ℕ → Letters → List ℕ → Letters
steps s k x [] = x
steps s k x (l ∷ ls) = steps s (k - 1) (step s k x l) ls

-- where the text of a chain with these letters ends
unfoldable pub chain_end : ℕ → List ℕ → ℕ
chain_end at ls = at + (3 * length ls + 1)

-- a chain and where its text ends, or none
abbrev pub Scanned : Type 0
Scanned = Option (Letters × ℕ)

-- the reader's answer for the form of the text from `at` on, behind the letters x
unfoldable pub scanned_from : Sizes → ℕ → Letters → ℕ → Form → Scanned
scanned_from s k x at unformed = None
scanned_from s k x at (formed ls rest) = Some (steps s k x ls, chain_end at ls)

-- the same where nothing was read before
unfoldable pub scanned : Sizes → ℕ → Form → Scanned
scanned s at unformed = None
scanned s at (formed ls rest) = Some (summary s ls, chain_end at ls)

-- without a bound on the hops: the letters that open, then `u`, then as many `]`
unfoldable pub open_letters : List ℕ → List ℕ
open_letters [] = []
open_letters (l ∷ []) = []
open_letters (l ∷ d ∷ t) = cond (is_capital l && eqb d 91) (l ∷ open_letters t) []

-- what reading those letters gives: the letters' steps, and the place behind them
pub record Opens (s : Sizes) (x : Letters) (at : ℕ) (t : List ℕ) (o : Letters × ℕ) : Type 0 where
  pub letters_are : o.0 ≡ steps s 0 x (open_letters t)
  pub at_is : o.1 ≡ at + 2 * length (open_letters t)

-- whether a text begins with n times `]`
unfoldable pub closes : ℕ → List ℕ → Bool
closes zero t = true
closes (suc n) t = closes n t && starts_with 93 (drop n t)
