-- The words that a text begins with, by its first byte.
use Rattle.std.specs.Prelude.{Option, None}
use Prim.Native.Nat.{ℕ, ◌+◌, ◌<◌}
use mathlib.Core.Path.{◌≡◌, refl, sym, ap, ap₂, ◌∙◌}
use mathlib.Core.Logic.{◌≢◌}
use mathlib.Core.Bool.{Bool, true, false, cond}
use mathlib.Core.List.{List, ◌∷◌}
use native.Mathlib.Numerals.{add-one}
use borrow.Author.Tests.{ne_eqb}
use lib.ListN.{length, get_or, drop}
use lib.Seq.{drop-cons}
use Rattle.text_numerals.specs.Word.{opens_with}
use Rattle.text_syntax.specs.Token as S
use Rattle.text_syntax.specs.Lexing.{spelled, words, First, first, none, fixed_token}
use Rattle.text_words.specs.Tokens.{token_code, sized_token, sized_first}
use Rattle.text_words.specs.declared.token.Token.{Token}

-- the text from a place on, and its first byte
module _ (t : List ℕ) (at b : ℕ) (inside : at < length t) (byte : get_or t at 0 ≡ b) where
  pub first_byte : drop at t ≡ b ∷ drop (at + 1) t
  first_byte = drop-cons t at 0 inside ∙ ap₂ (λ (x n : ℕ). x ∷ drop n t) byte (sym (add-one at))

  -- the answer from a table, by the first byte
  pub table_at : (ks : List S.Token) {x : Option (Token × ℕ)} → x ≡ sized_first (fixed_token ks (b ∷ drop (at + 1) t)) → x ≡ sized_first (fixed_token ks (drop at t))
  table_at ks e = e ∙ sym (ap (λ (l : List ℕ). sized_first (fixed_token ks l)) first_byte)

-- an answer by a test
pub cond-first : {x : Bool} (a b : Option (Token × ℕ)) → x ≡ true → a ≡ cond x a b
cond-first a b h = rw h

pub cond-second : {x : Bool} (a b : Option (Token × ℕ)) → x ≡ false → b ≡ cond x a b
cond-second a b h = rw h

pub sized-cond : (x : Bool) (f g : First) → sized_first (cond x f g) ≡ cond x (sized_first f) (sized_first g)
sized-cond true f g = refl
sized-cond false f g = refl

-- a word, where only this one begins with the text's first byte
pub word-is : (t : List ℕ) (at b : ℕ) → at < length t → get_or t at 0 ≡ b → (k : S.Token) {x : Option (Token × ℕ)}
    → ((r : List ℕ) → fixed_token words (b ∷ r) ≡ cond (opens_with (spelled k) (b ∷ r)) (first k (drop (length (spelled k)) (b ∷ r))) none)
    → x ≡ cond (opens_with (spelled k) (drop at t)) (sized_token (token_code k) (length (spelled k))) None → x ≡ sized_first (fixed_token words (drop at t))
unfolding sized_first
word-is t at b h e k alone q =
    table_at t at b h e words
    (q
    ∙ ap (λ (l : List ℕ). cond (opens_with (spelled k) l) (sized_token (token_code k) (length (spelled k))) None) (first_byte t at b h e)
    ∙ sym (ap sized_first (alone _) ∙ sized-cond (opens_with (spelled k) _) (first k _) none))

-- a byte that no word begins with
abbrev pub NoWord : ℕ → Type 0
NoWord b = (((((Unit {0} × (b ≢ 105)) × (b ≢ 114)) × (b ≢ 115)) × (b ≢ 101)) × (b ≢ 108)) × (b ≢ 100)

pub no_word : (b : ℕ) (r : List ℕ) → NoWord b → fixed_token words (b ∷ r) ≡ none
unfolding fixed_token words spelled opens_with
no_word b r h =
    rw (ne_eqb b 115 h.0.0.0.1, ne_eqb b 101 h.0.0.1, ne_eqb b 100 h.1, ne_eqb b 108 h.0.1, ne_eqb b 105 h.0.0.0.0.0.1, ne_eqb b 114 h.0.0.0.0.1)
