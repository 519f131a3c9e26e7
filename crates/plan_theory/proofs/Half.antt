-- The laws of h: half k is a power of two, below k for k ≥ 2, and no larger power of two is below k.
use mathlib.Core.Path.{◌≡◌, refl}
use mathlib.Core.Bool.{true, false}
use mathlib.Core.Logic.{◌⊎◌, inl, inr, ⊎_elim}
use Prim.Native.Nat.{ℕ, zero, suc, ◌+◌, ◌*◌, ◌^◌, ◌≤◌, ◌<◌}
use native.Mathlib.Omega.{arith}
use lib.Dec.{ltb}
use lib.Pow.{pow_mono, pow_pos}
use borrow.Author.Tests.{ltb-true, ltb-false}
use Rattle.plan_theory.specs.Plan.{doubled, half}
use Rattle.laws.proofs.Cases.{true_or_false, lt_or_le}

doubled-cases : (h k : ℕ) → ((2 * h < k) × (doubled h k ≡ 2 * h)) ⊎ ((k ≤ 2 * h) × (doubled h k ≡ h))
unfolding doubled
doubled-cases h k =
    ⊎_elim
    (λ (e : ltb (h + h) k ≡ true). inl (omega (arith, ltb-true (h + h) k e), rw (e, doubled) (omega arith)))
    (λ (e : ltb (h + h) k ≡ false). inr (omega (arith, ltb-false (h + h) k e), rw (e, doubled)))
    (true_or_false (ltb (h + h) k))

-- half k is below k ..
pub half-below : (k : ℕ) → 2 ≤ k → half k < k
unfolding half doubled
half-below zero h = omega arith
half-below (suc zero) h = omega arith
half-below (suc (suc zero)) h = omega arith
half-below (suc (suc (suc k))) h =
    ⊎_elim (λ c. omega arith) (λ c. omega (arith, half-below (suc (suc k)) (omega arith))) (doubled-cases (half (suc (suc k))) (suc (suc (suc k))))

-- .. and a power of two
pub half_power : (k : ℕ) → (s : ℕ) × (half k ≡ 2 ^ s)
unfolding half
half_power zero = (0, refl)
half_power (suc k) =
    let (s, e) = half_power k in
    ⊎_elim (λ c. (suc s, omega arith)) (λ c. (s, omega arith)) (doubled-cases (half k) (suc k))

pub half_pos : (k : ℕ) → 1 ≤ half k
half_pos k = let (s, e) = half_power k in omega (arith, pow_pos s)

-- its double is not below k
pub half_double : (k : ℕ) → k ≤ 2 * half k
unfolding half
half_double zero = omega arith
half_double (suc k) = ⊎_elim (λ c. omega (arith, half_double k, half_pos k)) (λ c. omega arith) (doubled-cases (half k) (suc k))

-- the power of two that comes after it is its double
pub half-next : (k t : ℕ) → half k < 2 ^ t → 2 * half k ≤ 2 ^ t
half-next k t h =
    let (s, e) = half_power k in
    ⊎_elim (λ l. omega (arith, pow_mono {i = suc s} {j = t} l)) (λ l. omega (arith, pow_mono {i = t} {j = s} l)) (lt_or_le s t)

-- so it is the largest power of two below k
pub half_largest : (k t : ℕ) → 2 ^ t < k → 2 ^ t ≤ half k
half_largest k t h = ⊎_elim (λ l. omega (arith, half-next k t l, half_double k)) (λ l. l) (lt_or_le (half k) (2 ^ t))

-- and the only one with its double not below k
pub half_unique : (k s : ℕ) → 2 ^ s < k → k ≤ 2 * 2 ^ s → half k ≡ 2 ^ s
half_unique k s l u =
    omega (arith, half_largest k s l, half-next k (suc s) (omega (arith, half-below k (omega (arith, pow_pos s)))))
