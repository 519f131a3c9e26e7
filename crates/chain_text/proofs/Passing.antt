-- A chain that passes: its word can be followed, has at most 16 hops, and is not lost by packing.
use Prim.Native.Nat.{ℕ, ◌+◌, ◌≤◌, ◌<◌}
use mathlib.Core.Path.{◌≡◌, refl, sym, ap, ◌∙◌}
use mathlib.Core.Bool.{Bool, true, false, cond, ◌&&◌, ◌||◌}
use mathlib.Core.List.{List, [], ◌∷◌, ◌++◌}
use native.Mathlib.Omega.{arith}
use borrow.Author.Tests.{ltb-true, ltb-false, leb-true, lt-ltb, le-leb}
use lib.Dec.{leb, ltb}
use lib.ListN.{length, take, length-append}
use lib.Seq.{take_all}
use Rattle.register.specs.Shape.{Limits}
use Rattle.register.specs.declared.Sizes.{Sizes}
use Rattle.laws.proofs.Bools.{and_both, and-true, or_left, or_right}
use Rattle.chain.specs.Word.{has_field, readable, Passes, pack, unpack}
use Rattle.chain_text.specs.Text.{letter_field, names, is_reference_letter, inner_references, letters_refusal, word_of}
use Rattle.laws.specs.Lists.{every}
use Rattle.chain.proofs.Packing.{unpack-pack}
use Rattle.chain.proofs.Fields.{readable-kinded}
use Rattle.laws.proofs.Lists.{every_append}

-- the field of a letter that names one
pub reference_field : (s : Sizes) (l : ℕ) → names s l ≡ true → is_reference_letter l ≡ true → letter_field l < s.references
unfolding names is_reference_letter letter_field
reference_field s l n r =
    let both = and_both (leb 65 l) (ltb l (65 + s.references)) (sym (ap (λ (t : Bool). cond t (leb 65 l && ltb l (65 + s.references)) (ltb l (77 + s.measures))) r) ∙ n) in
    rw r (omega (arith, leb-true 65 l both.0, ltb-true l (65 + s.references) both.1))

pub measure_field : (s : Sizes) (l : ℕ) → names s l ≡ true → is_reference_letter l ≡ false → (8 ≤ letter_field l) × (letter_field l < 8 + s.measures)
unfolding names is_reference_letter letter_field
measure_field s l n r =
    let low : 77 ≤ l = ltb-false l 77 r in
    let high : l < 77 + s.measures = ltb-true l (77 + s.measures) (sym (ap (λ (t : Bool). cond t (leb 65 l && ltb l (65 + s.references)) (ltb l (77 + s.measures))) r) ∙ n) in
    rw r (omega arith, omega arith)

pub named-field : (s : Sizes) (l : ℕ) → names s l ≡ true → has_field s (letter_field l) ≡ true
unfolding has_field
named-field s l n = go (is_reference_letter l) refl
  where
    go : (t : Bool) → is_reference_letter l ≡ t → ltb (letter_field l) s.references || (leb 8 (letter_field l) && ltb (letter_field l) (8 + s.measures)) ≡ true
    go true r = or_left _ (lt-ltb _ _ (reference_field s l n r))
    go false r =
        let f = measure_field s l n r in
        or_right (ltb (letter_field l) s.references) (sym (and-true _ (le-leb 8 (letter_field l) f.0)) ∙ lt-ltb (letter_field l) (8 + s.measures) f.1)

-- every letter's field is a reference
below : (s : Sizes) → List ℕ → Bool
below s w = every (λ f. ltb f s.references) w

word_below : (s : Sizes) (ls : List ℕ) → every (names s) ls ≡ true → every is_reference_letter ls ≡ true → below s (word_of ls) ≡ true
unfolding below every word_of
word_below s [] n r = refl
word_below s (l ∷ ls) n r =
    let ns = and_both (names s l) (every (names s) ls) n in
    let rs = and_both (is_reference_letter l) (every is_reference_letter ls) r in
    every_append _ (word_of ls) (letter_field l ∷ []) (word_below s ls ns.1 rs.1) (sym (and-true true (lt-ltb _ _ (reference_field s l ns.0 rs.0))))

readable-last : (s : Sizes) (w : List ℕ) (f : ℕ) → below s w ≡ true → has_field s f ≡ true → readable s (w ++ (f ∷ [])) ≡ true
unfolding below every readable
readable-last s [] f b h = h
readable-last s (g ∷ []) f b h = sym (and-true (has_field s f) (and_both (ltb g s.references) true b).0) ∙ h
readable-last s (g ∷ k ∷ w) f b h =
    let both = and_both (ltb g s.references) (every (λ f. ltb f s.references) (k ∷ w)) b in
    sym (and-true (readable s (k ∷ w ++ (f ∷ []))) both.0) ∙ readable-last s (k ∷ w) f both.1 h

word_of-length : (ls : List ℕ) → length (word_of ls) ≡ length ls
unfolding word_of
word_of-length [] = refl
word_of-length (l ∷ ls) = simp length-append (omega (arith, word_of-length ls))

-- the tests of a chain's letters
module _ (s : Sizes) (ls : List ℕ) where
  pub refused-field : every (names s) ls ≡ false → letters_refusal s ls ≡ 9
  unfolding letters_refusal
  refused-field e = simp e

  module _ (named : every (names s) ls ≡ true) where
    pub refused-kind : inner_references ls ≡ false → letters_refusal s ls ≡ 10
    unfolding letters_refusal
    refused-kind e = simp (named, e)

    module _ (kinded : inner_references ls ≡ true) where
      pub refused-hops : ltb 16 (length ls) ≡ true → letters_refusal s ls ≡ 11
      unfolding letters_refusal
      refused-hops e = simp (named, kinded, e)

      pub refused_none : ltb 16 (length ls) ≡ false → letters_refusal s ls ≡ 0
      unfolding letters_refusal
      refused_none e = simp (named, kinded, e)

      pub letters-readable : readable s (word_of ls) ≡ true
      unfolding readable word_of every inner_references
      letters-readable = go ls named kinded
        where
          go : (ls : List ℕ) → every (names s) ls ≡ true → inner_references ls ≡ true → readable s (word_of ls) ≡ true
          go [] n k = refl
          go (l ∷ ls) n k =
              let ns = and_both (names s l) (every (names s) ls) n in
              readable-last s (word_of ls) (letter_field l) (word_below s ls ns.1 k) (named-field s l ns.0)

      -- what was packed is the word
      pub letters_unpacked : Limits s → ltb 16 (length ls) ≡ false → unpack (pack (word_of (take 16 ls))) ≡ word_of ls
      letters_unpacked l short =
          ap (λ (v : List ℕ). unpack (pack (word_of v))) (take_all 16 ls (ltb-false 16 (length ls) short))
          ∙ unpack-pack (readable-kinded s l (word_of ls) letters-readable)

-- a chain that passes
pub letters_pass : (s : Sizes) (ls : List ℕ) → letters_refusal s ls ≡ 0 → Passes s (word_of ls)
letters_pass s ls e = go (every (names s) ls) refl (inner_references ls) refl (ltb 16 (length ls)) refl
  where
    go : (n : Bool) → every (names s) ls ≡ n → (k : Bool) → inner_references ls ≡ k → (h : Bool) → ltb 16 (length ls) ≡ h → Passes s (word_of ls)
    go false n k hk h hh = absurd (omega (arith, e, refused-field s ls n))
    go true n false k h hh = absurd (omega (arith, e, refused-kind s ls n k))
    go true n true k true h = absurd (omega (arith, e, refused-hops s ls n k h))
    go true n true k false h = record { follows = letters-readable s ls n k; short = omega (arith, word_of-length ls, ltb-false 16 (length ls) h) }
