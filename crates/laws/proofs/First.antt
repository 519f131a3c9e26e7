-- The first of a row of numbers that is not 0.
use Prim.Native.Nat.{ℕ, zero, suc, ◌≤◌, ◌<◌}
use mathlib.Core.Path.{◌≡◌, refl, sym, ap, ◌∙◌}
use mathlib.Core.Logic.{◌≢◌}
use native.Mathlib.Omega.{arith}
use native.Mathlib.Decide.{dec_lt, le_ind}
use Rattle.laws.specs.Outcome.{or_else, first}

or_else_zero : (x y : ℕ) → x ≡ 0 → or_else x y ≡ y
unfolding or_else
or_else_zero x y e = rw e

or_else-other : (x y : ℕ) → x ≢ 0 → or_else x y ≡ x
unfolding or_else
or_else-other zero y h = absurd (h refl)
or_else-other (suc x) y h = refl

or_else-both : (x y : ℕ) → or_else x y ≡ 0 → (x ≡ 0) × (y ≡ 0)
unfolding or_else
or_else-both zero y e = (refl, e)
or_else-both (suc x) y e = absurd (omega arith)

module _ (f : ℕ → ℕ) where
  pub first-none : first 0 f ≡ 0
  unfolding first
  first-none = refl

  -- one more that is 0
  pub first_more : (i : ℕ) → first i f ≡ 0 → f i ≡ 0 → first (suc i) f ≡ 0
  unfolding first
  first_more i h e = or_else_zero (first i f) (f i) h ∙ e

  -- the first that is not 0 is found
  pub first_found : (n i : ℕ) → first i f ≡ 0 → f i ≢ 0 → i < n → first n f ≡ f i
  unfolding first
  first_found zero i h e l = absurd (omega arith)
  first_found (suc n) i h e l = go (first_found n i h e) (dec_lt i n)
    where
      go : (i < n → first n f ≡ f i) → Dec (i < n) → or_else (first n f) (f n) ≡ f i
      go r (yes k) = or_else-other (first n f) (f n) (λ z. e (sym (r k) ∙ z)) ∙ r k
      go r (no k) =
          let q : n ≡ i = omega arith in
          or_else_zero (first n f) (f n) (ap (λ (m : ℕ). first m f) q ∙ h) ∙ ap f q

  -- one found early stays the first
  pub first-stays : (a b : ℕ) → a ≤ b → first a f ≢ 0 → first b f ≡ first a f
  unfolding first
  first-stays a b h e = le_ind (λ n. first n f ≡ first a f) refl (λ n _ r. or_else-other (first n f) (f n) (λ z. e (sym r ∙ z)) ∙ r) b h

  -- all were looked at
  pub first-end : (n i : ℕ) → first i f ≡ 0 → i ≡ n → 0 ≡ first n f
  first-end n i h e = sym h ∙ ap (λ (k : ℕ). first k f) e

  -- none found: each is 0, and the other way round
  pub first_each : (n i : ℕ) → first n f ≡ 0 → i < n → f i ≡ 0
  unfolding first
  first_each zero i h l = absurd (omega arith)
  first_each (suc n) i h l = go (first_each n i both.0) (dec_lt i n)
    where
      both : (first n f ≡ 0) × (f n ≡ 0)
      both = or_else-both (first n f) (f n) h

      go : (i < n → f i ≡ 0) → Dec (i < n) → f i ≡ 0
      go r (yes k) = r k
      go r (no k) = let q : i ≡ n = omega arith in ap f q ∙ both.1

  pub each_first : (n : ℕ) → ((i : ℕ) → i < n → f i ≡ 0) → first n f ≡ 0
  each_first zero h = first-none
  each_first (suc n) h = first_more n (each_first n (λ i l. h i (omega arith))) (h n (omega arith))
