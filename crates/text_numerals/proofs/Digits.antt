-- The digits that a text begins with, and the number that they write.
use Prim.Native.Nat.{ℕ, ◌+◌, ◌-◌, ◌*◌, ◌≤◌, ◌<◌}
use mathlib.Core.Path.{◌≡◌, refl, sym, ap, ◌∙◌}
use mathlib.Core.Logic.{◌≢◌}
use mathlib.Core.Bool.{true, false}
use mathlib.Core.List.{List, [], ◌∷◌, ◌++◌}
use native.Mathlib.Omega.{arith}
use native.Mathlib.Decide.{dec_le, dec_lt}
use borrow.Author.Tests.{leb-true}
use lib.Dec.{leb}
use lib.ListN.{length, get_or, drop, length-drop}
use Rattle.laws.proofs.Bools.{and_both}
use Rattle.text_numerals.specs.Numeral.{is_digit, starts_digit, digits, decimal, capped}
use Rattle.text_numerals.proofs.Spans.{span-bound, span_none, span-more-at, Onward, onward_more, onward_end}

pub digit_low : (b : ℕ) → is_digit b ≡ true → (48 ≤ b) × (b ≤ 57)
unfolding is_digit
digit_low b h = let both = and_both (leb 48 b) (leb b 57) h in (leb-true 48 b both.0, leb-true b 57 both.1)

-- digits that stand at `at` stand inside the text
pub digits-inside : (t : List ℕ) (at end : ℕ) → end ≡ at + length (digits (drop at t)) → end ≢ at → at < length t
unfolding digits
digits-inside t at end e ne = go (dec_lt at (length t))
  where
    go : Dec (at < length t) → at < length t
    go (yes l) = l
    go (no l) = absurd (ne (omega (arith, span-bound is_digit (drop at t), length-drop at t)))

-- a number that is capped before more digits is capped to the same
pub capped_small : (n : ℕ) → n ≤ 2147483649 → capped n ≡ n
unfolding capped
capped_small n h = omega arith

pub capped_large : (n : ℕ) → 2147483649 ≤ n → capped n ≡ 2147483649
unfolding capped
capped_large n h = omega arith

pub capped-bound : (n : ℕ) → capped n ≤ 2147483649
unfolding capped
capped-bound n = omega arith

decimal_large : (n : ℕ) (ds : List ℕ) → 2147483649 ≤ n → 2147483649 ≤ decimal n ds
unfolding decimal
decimal_large n [] h = h
decimal_large n (d ∷ ds) h = decimal_large (10 * n + (d - 48)) ds (omega arith)

-- digits behind digits are read on from the number that those write
pub decimal-append : (n : ℕ) (ds cs : List ℕ) → decimal n (ds ++ cs) ≡ decimal (decimal n ds) cs
unfolding decimal
decimal-append n [] cs = refl
decimal-append n (d ∷ ds) cs = decimal-append (10 * n + (d - 48)) ds cs

pub capped-decimal : (n : ℕ) (ds : List ℕ) → capped (decimal (capped n) ds) ≡ capped (decimal n ds)
capped-decimal n ds = go (dec_le n 2147483649)
  where
    go : Dec (n ≤ 2147483649) → capped (decimal (capped n) ds) ≡ capped (decimal n ds)
    go (yes h) = ap (λ (m : ℕ). capped (decimal m ds)) (capped_small n h)
    go (no h) =
        capped_large (decimal (capped n) ds) (decimal_large (capped n) ds (omega (arith, capped_large n (omega arith))))
        ∙ sym (capped_large (decimal n ds) (decimal_large n ds (omega arith)))

-- the loop over digits behind a number n: what is left at place i comes to the same as the whole
pub record Counted (at n : ℕ) (t : List ℕ) (value i : ℕ) : Type 0 where
  pub onward : Onward is_digit t at i
  pub small : value ≤ 2147483649
  pub same : capped (decimal value (digits (drop i t))) ≡ capped (decimal n (digits (drop at t)))

pub counted-more : {at n : ℕ} {t : List ℕ} {v w i : ℕ} → Counted at n t v i → starts_digit (drop i t) ≡ true → w ≡ capped (10 * v + (get_or t i 0 - 48)) → Counted at n t w (i + 1)
unfolding decimal digits
counted-more {at} {n} {t} {v} {w} {i} p h e = record {
  onward = onward_more is_digit p.onward h;
  small = omega (arith, e, capped-bound (10 * v + (get_or t i 0 - 48)));
  same =
      ap (λ (x : ℕ). capped (decimal x (digits (drop (i + 1) t)))) e
      ∙ capped-decimal (10 * v + (get_or t i 0 - 48)) (digits (drop (i + 1) t))
      ∙ sym (ap (λ (l : List ℕ). capped (decimal v l)) (span-more-at is_digit t i h))
      ∙ p.same;
}

pub counted-end : {at n : ℕ} {t : List ℕ} {v i : ℕ} → Counted at n t v i → starts_digit (drop i t) ≡ false
    → (v ≡ capped (decimal n (digits (drop at t)))) × (i ≡ at + length (digits (drop at t)))
unfolding decimal digits
counted-end {t = t} {v = v} {i = i} p h = (
  sym (capped_small v p.small) ∙ sym (ap (λ (l : List ℕ). capped (decimal v l)) (span_none is_digit (drop i t) h)) ∙ p.same,
  onward_end is_digit p.onward h,
)
