-- "the longest token is taken first": no word and no sign that stands where a token is taken is longer.
use Prim.Native.Nat.{ℕ, ◌≤◌, ◌<◌}
use mathlib.Core.Path.{◌≡◌, refl, sym, ap, subst, ◌∙◌}
use mathlib.Core.Logic.{⊎_elim}
use mathlib.Core.Bool.{Bool, true, false, cond, not, ◌&&◌}
use mathlib.Core.List.{List, [], ◌∷◌, ◌++◌}
use native.Mathlib.Omega.{arith}
use borrow.Author.Tests.{eqb-true, eq-eqb, ltb-true, lt-ltb}
use lib.Dec.{ltb, eqb}
use lib.ListN.{length, drop}
use Rattle.laws.specs.Lists.{Each}
use Rattle.laws.proofs.Bools.{and_both, true_false}
use Rattle.laws.proofs.Cases.{lt_or_le}
use Rattle.chain_text.specs.Text.{is_capital}
use Rattle.text_numerals.specs.Numeral.{is_digit, signed_form}
use Rattle.text_numerals.specs.Word.{opens_with}
use Rattle.text_syntax.specs.Token.{Token, letter}
use Rattle.text_syntax.specs.Lexing.{spelled, words, signs, first, fixed_token, number_token, first_token, LongestFirst}
use Rattle.text_syntax.proofs.Lexing.{not_first, first_began}

-- of two words that a text begins with, the longer begins with the shorter
opens_longer : (v w t : List ℕ) → opens_with v t ≡ true → opens_with w t ≡ true → length v ≤ length w → opens_with v w ≡ true
unfolding opens_with
opens_longer [] w t hv hw l = refl
opens_longer (a ∷ v) [] t hv hw l = absurd (omega arith)
opens_longer (a ∷ v) (b ∷ w) [] hv hw l = true_false hv refl
opens_longer (a ∷ v) (b ∷ w) (c ∷ t) hv hw l =
    let (ca, tv) = and_both (eqb c a) (opens_with v t) hv in
    let (cb, tw) = and_both (eqb c b) (opens_with w t) hw in
    let same : eqb b a ≡ true = eq-eqb b a (sym (eqb-true c b cb) ∙ eqb-true c a ca) in
    rw (same, opens_longer v w t tv tw (omega arith)) refl

-- no token stands in a table before one that is longer and begins with it
begun_by : Token → Token → Bool
begun_by i j = ltb (length (spelled i)) (length (spelled j)) && opens_with (spelled i) (spelled j)

leads : Token → List Token → Bool
leads i [] = true
leads i (j ∷ ks) = not (begun_by i j) && leads i ks

ordered : List Token → Bool
ordered [] = true
ordered (i ∷ ks) = leads i ks && ordered ks

-- the words of a table that begin with a byte of a class have no other
starts_as : (ℕ → Bool) → List ℕ → Bool
starts_as p [] = false
starts_as p (b ∷ w) = p b

one_byte : (ℕ → Bool) → List Token → Bool
one_byte p [] = true
one_byte p (j ∷ ks) = cond (starts_as p (spelled j)) (ltb (length (spelled j)) 2) true && one_byte p ks

one_byte_lem : (p : ℕ → Bool) (b : ℕ) (t : List ℕ) → p b ≡ true → (w : List ℕ) → cond (starts_as p w) (ltb (length w) 2) true ≡ true
    → opens_with w (b ∷ t) ≡ true → length w ≤ 1
unfolding opens_with starts_as
one_byte_lem p b t h [] c o = omega arith
one_byte_lem p b t h (a ∷ w) c o =
    let same : p a ≡ true = ap p (sym (eqb-true b a (and_both (eqb b a) (opens_with w t) o).0)) ∙ h in
    let short : ltb (length (a ∷ w)) 2 ≡ true = sym (ap (λ (x : Bool). cond x (ltb (length (a ∷ w)) 2) true) same) ∙ c in
    omega (arith, ltb-true (length (a ∷ w)) 2 short)

abbrev NoLonger : List ℕ → Token → Token → Type 0
NoLonger t k j = opens_with (spelled j) t ≡ true → length (spelled j) ≤ length (spelled k)

class-longest : (p : ℕ → Bool) (b : ℕ) (t : List ℕ) → p b ≡ true → (k : Token) → 0 < length (spelled k) → (ks : List Token) → one_byte p ks ≡ true
    → Each (NoLonger (b ∷ t) k) ks
unfolding one_byte
class-longest p b t h k l [] e = tt
class-longest p b t h k l (j ∷ ks) e =
    let (c, more) = and_both (cond (starts_as p (spelled j)) (ltb (length (spelled j)) 2) true) (one_byte p ks) e in
    (λ o. omega (arith, one_byte_lem p b t h (spelled j) c o), class-longest p b t h k l ks more)

module _ (t : List ℕ) where
  leads-longest : (i : Token) → opens_with (spelled i) t ≡ true → (ks : List Token) → leads i ks ≡ true → Each (NoLonger t i) ks
  unfolding leads begun_by
  leads-longest i h [] e = tt
  leads-longest i h (j ∷ ks) e =
      let (apart, more) = and_both (not (begun_by i j)) (leads i ks) e in
      let shorter : length (spelled i) < length (spelled j) → opens_with (spelled j) t ≡ true → begun_by i j ≡ true
      = λ l o. rw (lt-ltb _ _ l, opens_longer (spelled i) (spelled j) t h o (omega arith)) refl in (
        λ o. ⊎_elim (λ (l : length (spelled i) < length (spelled j)). true_false apart (ap not (shorter l o)))
            (λ (l : length (spelled j) ≤ length (spelled i)). l) (lt_or_le (length (spelled i)) (length (spelled j))),
        leads-longest i h ks more,
      )

  fixed_longest : (ks : List Token) → ordered ks ≡ true → (k : Token) (r : List ℕ) → fixed_token ks t ≡ first k r → Each (NoLonger t k) ks
  unfolding fixed_token ordered
  fixed_longest [] h k r e = tt
  fixed_longest (i ∷ ks) h k r e = go (fixed_longest ks both.1 k r) (opens_with (spelled i) t) refl e
    where
      both : (leads i ks ≡ true) × (ordered ks ≡ true)
      both = and_both (leads i ks) (ordered ks) h

      go : (fixed_token ks t ≡ first k r → Each (NoLonger t k) ks) → (x : Bool) → opens_with (spelled i) t ≡ x → cond x (first i (drop (length (spelled i)) t)) (fixed_token ks t) ≡ first k r
          → Each (NoLonger t k) (i ∷ ks)
      go ih true o e = let same : i ≡ k = cc in subst (λ (j : Token). Each (NoLonger t j) (i ∷ ks)) same (λ _. omega arith, leads-longest i o ks both.0)
      go ih false o e = (λ p. true_false p o, ih e)

-- the table of words and signs
table-ordered : ordered (words ++ signs) ≡ true
unfolding ordered leads begun_by words signs spelled opens_with
table-ordered = refl

is_minus : ℕ → Bool
is_minus b = eqb b 45

table-minus : one_byte is_minus (words ++ signs) ≡ true
unfolding one_byte starts_as is_minus words signs spelled
table-minus = refl

table-digits : one_byte is_digit (words ++ signs) ≡ true
unfolding one_byte starts_as is_digit words signs spelled
table-digits = refl

table_capitals : one_byte is_capital (words ++ signs) ≡ true
unfolding one_byte starts_as is_capital words signs spelled
table_capitals = refl

pub longest-first : LongestFirst
unfolding first_token is_minus
longest-first operand [] k r e = not_first e
longest-first operand (b ∷ t) k r e = minus-or (eqb b 45 && operand) refl e
  where
    some : 0 < length (spelled k)
    some = (first_began operand (b ∷ t) e).some_byte

    capital-or : (x : Bool) → is_capital b ≡ x → cond x (first (letter b) t) (fixed_token (words ++ signs) (b ∷ t)) ≡ first k r
        → Each (NoLonger (b ∷ t) k) (words ++ signs)
    capital-or true h e = class-longest is_capital b t h k some (words ++ signs) table_capitals
    capital-or false h e = fixed_longest (b ∷ t) (words ++ signs) table-ordered k r e

    digit_or : (x : Bool) → is_digit b ≡ x
        → cond x (number_token (signed_form false (b ∷ t))) (cond (is_capital b) (first (letter b) t) (fixed_token (words ++ signs) (b ∷ t))) ≡ first k r
        → Each (NoLonger (b ∷ t) k) (words ++ signs)
    digit_or true h e = class-longest is_digit b t h k some (words ++ signs) table-digits
    digit_or false h e = capital-or (is_capital b) refl e

    minus-or : (x : Bool) → eqb b 45 && operand ≡ x
        → cond x (number_token (signed_form true t))
        (cond (is_digit b) (number_token (signed_form false (b ∷ t))) (cond (is_capital b) (first (letter b) t) (fixed_token (words ++ signs) (b ∷ t)))) ≡ first k r
        → Each (NoLonger (b ∷ t) k) (words ++ signs)
    minus-or true h e = class-longest is_minus b t (and_both (eqb b 45) operand h).0 k some (words ++ signs) table-minus
    minus-or false h e = digit_or (is_digit b) refl e
