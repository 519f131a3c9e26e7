-- The numbers of refusals are not 0, which stands for none.
use Prim.Native.Nat.{ℕ}
use mathlib.Core.Path.{◌≡◌, refl, sym, ap, ◌∙◌}
use native.Mathlib.Omega.{arith}
use Rattle.laws.specs.Outcome.{or_else}
use Rattle.text_refusals.specs.Number.{refusal_number}
use Rattle.text_refusals.specs.declared.Refusal.{Refusal}
use Rattle.text_refusals.specs.declared.Refusal.TheVariants.{Form, Place, Field, Kind, Hops, Range, Limit, Sort, Lines, Depth, Operators}

pub number_stands : (e : Refusal) (m : ℕ) → or_else (refusal_number e) m ≡ refusal_number e
unfolding or_else refusal_number
number_stands Form m = refl
number_stands Place m = refl
number_stands Field m = refl
number_stands Kind m = refl
number_stands Hops m = refl
number_stands Range m = refl
number_stands Limit m = refl
number_stands Sort m = refl
number_stands Lines m = refl
number_stands Depth m = refl
number_stands Operators m = refl

pub not_none : (e : Refusal) → refusal_number e ≡ 0 → ⊥
unfolding or_else
not_none e h = absurd (let z : ◌≡◌ {A = ℕ} 1 0 = ap (λ (n : ℕ). or_else n 1) (sym h) ∙ (number_stands e 1 ∙ h) in omega (arith, z))
