-- The numbers of refusals, and a check that stops at the first failure.
use Prim.Native.Nat.{ℕ, ◌+◌, ◌<◌}
use mathlib.Core.Path.{◌≡◌, refl, sym, ◌∙◌}
use mathlib.Core.Logic.{◌≢◌}
use native.Mathlib.Omega.{arith}
use native.Mathlib.Numerals.{add-one}
use Rattle.laws.specs.Outcome.{Outcome, refused, unless, first}
use Rattle.laws.proofs.First.{first_more, first_found}
use Rattle.register_check.specs.Number.{refusal_number, check_number}
use Rattle.register_check.specs.declared.Refusal.{Refusal}
use Rattle.register_check.specs.declared.Refusal.TheVariants.{Length, SizeLimit, Mark, MissingValue, Reference}
use Rattle.std.specs.Prelude.{Ok, Err}

pub unless_refusal : {A : Type 0} (r : Refusal) (o : Outcome A) → unless (refusal_number r) 0 o ≡ refused (refusal_number r) 0
unfolding unless refusal_number
unless_refusal Length o = refl
unless_refusal SizeLimit o = refl
unless_refusal Mark o = refl
unless_refusal MissingValue o = refl
unless_refusal Reference o = refl

pub number_positive : (r : Refusal) → refusal_number r ≢ 0
unfolding refusal_number
number_positive Length e = omega arith
number_positive SizeLimit e = omega arith
number_positive Mark e = omega arith
number_positive MissingValue e = omega arith
number_positive Reference e = omega arith

-- a loop that checks f 0, f 1, .. and returns at the first failure
module _ (f : ℕ → ℕ) (i : ℕ) (so_far : first i f ≡ 0) where
  pub goes_on_lem : (x : Unit {0}) → check_number (Ok x) ≡ f i → first (i + 1) f ≡ 0
  unfolding check_number
  goes_on_lem x here = rw add-one (first_more f i so_far (sym here))

  -- it does so below any end
  pub stops : (n : ℕ) → i < n → (r : Refusal) → check_number (Err r) ≡ f i → check_number (Err r) ≡ first n f
  unfolding check_number
  stops n l r here = here ∙ sym (first_found f n i so_far (λ z. number_positive r (here ∙ z)) l)
