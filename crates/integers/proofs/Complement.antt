-- Two's complement: what a value's bits are, and how far a sum or difference of two values can reach.
use Prim.Native.Nat.{ℕ, suc, ◌+◌, ◌-◌, ◌≤◌, ◌<◌}
use mathlib.Core.Path.{◌≡◌, refl, sym, ap, ap₂, ◌∙◌}
use mathlib.Core.Bool.{Bool, true, false, cond, ◌&&◌}
use native.Mathlib.Omega.{arith}
use borrow.Author.Tests.{lt-ltb, le-ltb, le-leb, leb-true, ltb-true, eqb-true, eqb-false, eq-eqb, ne_eqb}
use lib.Dec.{T, ltb, eqb}
use lib.IntN.{ℤ, pos, negsuc, neg_ℤ, nat_abs, sub_ℕ, ◌+ℤ◌, ◌-ℤ◌}
use lib.Signed.{mag, le_z, lt_z, non_neg}
use mir.Syntax.{w32, w64}
use mir.Val.{to_z, of_z, SFits, Fits}
use mir.Facts.{to_z-of_z, sfits_to_z, sfits_widen, to_z_pos}
use Rattle.integers.specs.Range.{in_range, eq_z, is_index}

-- a value that a callee gave is read back from its bits
pub kept : (z : ℤ) → mag z < 2147483648 → to_z w32 (of_z w32 z) ≡ z
kept z h = to_z-of_z {w = w32} (record { sfits = h })

-- a 32-bit value read from its bits, and from its bits at 64
pub widened : {z : ℤ} → SFits w32 z → to_z w64 (of_z w64 (to_z w32 (of_z w32 z))) ≡ z
widened {z} h = ap (λ (y : ℤ). to_z w64 (of_z w64 y)) (to_z-of_z h) ∙ to_z-of_z {w = w64} (sfits_widen tt h)

pub widened-fits : {z : ℤ} → SFits w32 z → SFits w64 (to_z w32 (of_z w32 z))
widened-fits h = rw (to_z-of_z h) (sfits_widen tt h)

-- a bit pattern of the upper half is a negative value
module _ (n : ℕ) (lo : 2147483648 ≤ n) (hi : n < 4294967296) where
  pub high_value : to_z w32 (n - 2147483648) +ℤ negsuc 2147483647 ≡ to_z w32 n
  high_value =
      simp (lt-ltb (n - 2147483648) 2147483648 (omega arith), le-ltb n 2147483648 lo)
      (ap negsuc (omega arith))

  pub high_fits : SFits w32 (to_z w32 (n - 2147483648) +ℤ negsuc 2147483647)
  high_fits = rw high_value (sfits_to_z (record { fits = hi }))

-- the complement of a negative value's bits is its distance below −1
pub record Below (z : ℤ) : Type 0 where
  pub distance : ℕ
  pub is : to_z w32 (4294967295 - of_z w32 z) ≡ pos distance
  pub small : distance < 2147483648
  pub back : 4294967295 - distance ≡ of_z w32 z

pub below : (z : ℤ) → SFits w32 z → lt_z z (pos 0) ≡ true → Below z
below (pos n) h e = absurd (let l = ltb-true n 0 e in omega arith)
below (negsuc n) h e =
    let l : n < 2147483648 = h.sfits in
    let d : 4294967295 - (4294967296 - suc n) ≡ n = omega arith in
    record { distance = n; is = rw d (to_z_pos w32 l); small = l; back = omega arith }

-- and any other value is its own bits
pub record NotNegative (z : ℤ) : Type 0 where
  pub at_least_0 : T (non_neg z)
  pub fits : Fits w32 (nat_abs z)
  pub is : nat_abs z ≡ of_z w32 z

pub not_negative : (z : ℤ) → SFits w32 z → lt_z z (pos 0) ≡ false → NotNegative z
not_negative (pos n) h e = record { at_least_0 = tt; fits = record { fits = omega (arith, h.sfits) }; is = refl }
not_negative (negsuc n) h e = absurd (let z : ◌≡◌ {A = ℕ} 0 1 = cc in omega arith)

-- two values are equal exactly when their bits are
same_test : (a b c d : ℕ) → (a ≡ b → c ≡ d) → (c ≡ d → a ≡ b) → eqb a b ≡ eqb c d
same_test a b c d f g = go (eqb a b) refl
  where
    go : (t : Bool) → eqb a b ≡ t → eqb a b ≡ eqb c d
    go true e = e ∙ sym (eq-eqb c d (f (eqb-true a b e)))
    go false e = e ∙ sym (ne_eqb c d (λ q. eqb-false a b e (g q)))

pub bits_equal : (a b : ℤ) → SFits w32 a → SFits w32 b → eqb (of_z w32 a) (of_z w32 b) ≡ eq_z a b
unfolding eq_z
bits_equal (pos a) (pos b) ha hb = refl
bits_equal (pos a) (negsuc b) ha hb = ne_eqb a (4294967296 - suc b) (λ q. omega (arith, ha.sfits, hb.sfits))
bits_equal (negsuc a) (pos b) ha hb = ne_eqb (4294967296 - suc a) b (λ q. omega (arith, ha.sfits, hb.sfits))
bits_equal (negsuc a) (negsuc b) ha hb =
    same_test (4294967296 - suc a) (4294967296 - suc b) a b
    (λ q. omega (arith, ha.sfits, hb.sfits))
    (λ q. ap (λ (k : ℕ). 4294967296 - suc k) q)

-- a sum or difference of two values reaches less than twice as far
mag_subℕ : (a b : ℕ) → mag (sub_ℕ a b) ≤ a + b
mag_subℕ a b = go (ltb a b)
  where
    go : (t : Bool) → mag (cond t (negsuc (b - suc a)) (pos (a - b))) ≤ a + b
    go true = omega arith
    go false = omega arith

pub mag_sum : (a b : ℤ) → mag (a +ℤ b) ≤ suc (mag a + mag b)
mag_sum (pos a) (pos b) = omega arith
mag_sum (pos a) (negsuc b) = omega (arith, mag_subℕ a (suc b))
mag_sum (negsuc a) (pos b) = omega (arith, mag_subℕ b (suc a))
mag_sum (negsuc a) (negsuc b) = omega arith

mag_neg : (a : ℤ) → mag (neg_ℤ a) ≤ suc (mag a)
mag_neg (pos ℕ.zero) = omega arith
mag_neg (pos (ℕ.suc n)) = omega arith
mag_neg (negsuc n) = omega arith

pub sum_fits : (a b : ℤ) → SFits w32 a → SFits w32 b → SFits w64 (a +ℤ b)
sum_fits a b ha hb = record { sfits = omega (arith, mag_sum a b, ha.sfits, hb.sfits) }

pub difference-fits : (a b : ℤ) → SFits w32 a → SFits w32 b → SFits w64 (a -ℤ b)
difference-fits a b ha hb = record { sfits = omega (arith, mag_sum a (neg_ℤ b), mag_neg b, ha.sfits, hb.sfits) }

-- two values widened and combined, where the result cannot leave 64 bits
module _ (op : ℤ → ℤ → ℤ) {a b : ℤ} (ha : SFits w32 a) (hb : SFits w32 b) (fits : SFits w64 (op a b)) where
  pub combined-fits : SFits w64 (op (to_z w64 (of_z w64 (to_z w32 (of_z w32 a)))) (to_z w64 (of_z w64 (to_z w32 (of_z w32 b)))))
  combined-fits = rw (widened ha, widened hb) fits

  pub combined : to_z w64 (of_z w64 (op (to_z w64 (of_z w64 (to_z w32 (of_z w32 a)))) (to_z w64 (of_z w64 (to_z w32 (of_z w32 b)))))) ≡ op a b
  combined = to_z-of_z combined-fits ∙ ap₂ op (widened ha) (widened hb)

-- the bounds of the range, as a bound on the magnitude
pub range_fits : (z : ℤ) → le_z (negsuc 2147483647) z ≡ true → le_z z (pos 2147483647) ≡ true → SFits w32 z
range_fits (pos n) lo hi = record { sfits = omega (arith, leb-true n 2147483647 hi) }
range_fits (negsuc n) lo hi = record { sfits = omega (arith, leb-true n 2147483647 lo) }

pub fits_range : (z : ℤ) → SFits w32 z → in_range z ≡ true
unfolding in_range
fits_range (pos n) h = le-leb n 2147483647 (omega (arith, h.sfits))
fits_range (negsuc n) h = simp (le-leb n 2147483647 (omega (arith, h.sfits)))

-- an index below n, and zero, as the tests have them
pub index_is : (n : ℕ) (z : ℤ) → is_index n z ≡ true → (z ≡ pos (nat_abs z)) × (nat_abs z < n)
unfolding is_index
index_is n (pos k) e = (refl, ltb-true k n (sym (ap (λ (t : Bool). t && ltb k n) (le-leb 0 k (omega arith))) ∙ e))
index_is n (negsuc k) e = absurd (let z : ◌≡◌ {A = ℕ} 0 1 = cc in omega arith)

pub zero_is : (z : ℤ) → eq_z z (pos 0) ≡ true → z ≡ pos 0
unfolding eq_z
zero_is (pos k) e = ap pos (eqb-true k 0 e)
zero_is (negsuc k) e = absurd (let z : ◌≡◌ {A = ℕ} 0 1 = cc in omega arith)
