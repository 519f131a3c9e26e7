-- The chain reader's steps: one by one, and what they come to.
use Prim.Native.Nat.{ℕ, zero, suc, ◌+◌, ◌-◌, ◌*◌, ◌^◌, ◌≤◌, ◌<◌}
use mathlib.Core.Path.{◌≡◌, refl, sym, ap, ap₂, ◌∙◌}
use mathlib.Core.Logic.{◌≢◌}
use mathlib.Core.Bool.{Bool, true, false, cond, ◌&&◌, ◌||◌, or-true, or-false}
use mathlib.Core.List.{List, [], ◌∷◌, ◌++◌, append_assoc, append-nil}
use native.Mathlib.Omega.{arith}
use native.Mathlib.Nat.{pow-le-pow_right}
use borrow.Author.Tests.{eq-eqb, ne_eqb, leb-true, ltb-true, le-ltb, lt-ltb}
use lib.Dec.{leb, ltb, eqb, leb-suc-suc}
use lib.ListN.{length, take}
use Rattle.register.specs.declared.Sizes.{Sizes}
use Rattle.laws.proofs.Bools.{and_both}
use Rattle.chain.specs.Word.{push, pack}
use Rattle.chain_text.specs.Text.{is_capital, letter_field, names, is_reference_letter, inner_references, word_of}
use Rattle.laws.specs.Lists.{every}
use Rattle.chain_text.specs.Scan.{summary, step, steps}
use Rattle.chain_text.specs.declared.letters.Letters.{Letters}
use Rattle.chain.proofs.Packing.{push_positive}

-- the two kinds of step, as the code makes them
module _ (s : Sizes) (k : ℕ) (x : Letters) (l : ℕ) (n : Bool) (named : n ≡ names s l) where
  pub step_full : k ≡ 0
      → record { packed = x.packed; named = x.named && n; kinded = x.kinded && (eqb x.packed 0 || ltb l 77); long = true } ≡ step s k x l
  unfolding step is_reference_letter
  step_full e = simp (named, eq-eqb k 0 e, or-true)

  pub step_room : (p : ℕ) → p ≡ push x.packed (letter_field l) → k ≢ 0
      → record { packed = p; named = x.named && n; kinded = x.kinded && (eqb x.packed 0 || ltb l 77); long = x.long } ≡ step s k x l
  unfolding step is_reference_letter
  step_room p e h = simp (named, e, ne_eqb k 0 h, or-false)

-- a capital's field, and that the packed number stays small
pub capital-low : (l : ℕ) → is_capital l ≡ true → 65 ≤ l
unfolding is_capital
capital-low l h = leb-true 65 l (and_both (leb 65 l) (leb l 90) h).0

pub capital-field : (l : ℕ) → is_capital l ≡ true → letter_field l ≤ 21
unfolding is_capital letter_field
capital-field l h = go (ltb l 77) refl
  where
    high : l ≤ 90
    high = leb-true l 90 (and_both (leb 65 l) (leb l 90) h).1

    go : (t : Bool) → ltb l 77 ≡ t → cond t (l - 65) (l - 69) ≤ 21
    go true e = omega (arith, ltb-true l 77 e)
    go false e = omega (arith, high)

pub room_fits : (k n f : ℕ) → k ≤ 16 → n + 5 ≤ 5 * 8 ^ (16 - k) → f ≤ 21 → f + 8 * n + 9 < 18446744073709551616
room_fits k n f hk hn hf =
    let less : 16 - k ≤ 16 = omega arith in
    let p : 8 ^ (16 - k) ≤ 8 ^ 16 = pow-le-pow_right (omega arith) less in
    omega arith

-- the fields of several steps
and_assoc : (a b c : Bool) → a && b && c ≡ a && (b && c)
and_assoc true b c = refl
and_assoc false b c = refl

or_assoc : (a b c : Bool) → a || b || c ≡ a || (b || c)
or_assoc true b c = refl
or_assoc false b c = refl

and-end : (a : Bool) → a ≡ a && true
and-end true = refl
and-end false = refl

more_long : (k n : ℕ) → eqb k 0 || ltb (k - 1) n ≡ ltb k (suc n)
more_long zero n = sym (lt-ltb 0 (suc n) (omega arith))
more_long (suc k) n =
    ap₂ (λ (t : Bool) (m : ℕ). t || ltb m n) (ne_eqb (suc k) 0 (λ e. omega arith)) (before k) ∙ sym (leb-suc-suc (suc k) n)
  where
    before : (k : ℕ) → suc k - 1 ≡ k
    before k = omega arith

module _ (s : Sizes) where
  steps-named : (k : ℕ) (x : Letters) (ls : List ℕ) → (steps s k x ls).named ≡ x.named && every (names s) ls
  unfolding steps step every
  steps-named k x [] = and-end x.named
  steps-named k x (l ∷ ls) = steps-named (k - 1) (step s k x l) ls ∙ and_assoc x.named (names s l) (every (names s) ls)

  steps_long : (k : ℕ) (x : Letters) (ls : List ℕ) → (steps s k x ls).long ≡ x.long || ltb k (length ls)
  unfolding steps step
  steps_long k x [] = sym (ap (λ (t : Bool). x.long || t) (le-ltb k 0 (omega arith)) ∙ or-false x.long)
  steps_long k x (l ∷ ls) = steps_long (k - 1) (step s k x l) ls ∙ or_assoc x.long (eqb k 0) (ltb (k - 1) (length ls))
      ∙ ap (λ (t : Bool). x.long || t) (more_long k (length ls))

  step_positive : (k : ℕ) (x : Letters) (l : ℕ) → x.packed ≢ 0 → (step s k x l).packed ≢ 0
  unfolding step
  step_positive zero x l h = h
  step_positive (suc k) x l h =
      λ e. omega (arith, e, push_positive x.packed (letter_field l), ap (λ (t : Bool). cond t x.packed (push x.packed (letter_field l))) (ne_eqb (suc k) 0 (λ z. omega arith)))

  steps-kinded : (k : ℕ) (x : Letters) (ls : List ℕ) → x.packed ≢ 0 → (steps s k x ls).kinded ≡ x.kinded && every is_reference_letter ls
  unfolding steps step every
  steps-kinded k x [] h = and-end x.kinded
  steps-kinded k x (l ∷ ls) h =
      steps-kinded (k - 1) (step s k x l) ls (step_positive k x l h)
      ∙ and_assoc x.kinded (eqb x.packed 0 || is_reference_letter l) (every is_reference_letter ls)
      ∙ ap (λ (t : Bool). x.kinded && ((t || is_reference_letter l) && every is_reference_letter ls)) (ne_eqb x.packed 0 h)

  steps_packed : (k : ℕ) (x : Letters) (ls v : List ℕ) → x.packed ≡ pack v → (steps s k x ls).packed ≡ pack (word_of (take k ls) ++ v)
  unfolding steps step pack word_of
  steps_packed zero x [] v h = h
  steps_packed (suc k) x [] v h = h
  steps_packed zero x (l ∷ ls) v h = steps_packed zero (step s zero x l) ls v h
  steps_packed (suc k) x (l ∷ ls) v h =
      let room : suc k - 1 ≡ k = omega arith in
      let next : (step s (suc k) x l).packed ≡ pack (letter_field l ∷ v) =
      ap (λ (t : Bool). cond t x.packed (push x.packed (letter_field l))) (ne_eqb (suc k) 0 (λ z. omega arith)) ∙ ap (λ (n : ℕ). push n (letter_field l)) h in
      ap (λ (n : ℕ). (steps s n (step s (suc k) x l) ls).packed) room
      ∙ steps_packed k (step s (suc k) x l) ls (letter_field l ∷ v) next
      ∙ ap pack (sym (append_assoc (word_of (take k ls)) (letter_field l ∷ []) v))

-- all steps from the start
abbrev pub start : Letters
start = record { packed = 0; named = true; kinded = true; long = false }

start-kinded : (s : Sizes) (ls : List ℕ) → (steps s 16 start ls).kinded ≡ inner_references ls
unfolding steps step inner_references
start-kinded s [] = refl
start-kinded s (l ∷ ls) = steps-kinded s 15 (step s 16 start l) ls (λ e. omega (arith, e, push_positive 0 (letter_field l)))

pub steps-summary : (s : Sizes) (ls : List ℕ) → steps s 16 start ls ≡ summary s ls
unfolding summary pack
steps-summary s ls = λ i. record {
  packed = (steps_packed s 16 start ls [] refl ∙ ap pack (append-nil (word_of (take 16 ls)))) i;
  named = steps-named s 16 start ls i;
  kinded = start-kinded s ls i;
  long = steps_long s 16 start ls i;
}
