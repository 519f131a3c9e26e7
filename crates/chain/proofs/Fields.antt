-- The fields of a word that can be followed, and that they can be packed.
use Prim.Native.Nat.{ℕ, ◌+◌, ◌<◌}
use mathlib.Core.Path.{◌≡◌, refl}
use mathlib.Core.Logic.{◌⊎◌, inl, inr, ⊎_elim}
use mathlib.Core.Bool.{Bool, true, false, ◌||◌}
use mathlib.Core.List.{List, [], ◌∷◌}
use native.Mathlib.Omega.{arith}
use borrow.Author.Tests.{ltb-true}
use lib.Dec.{leb, ltb}
use Rattle.register.specs.Shape.{Limits}
use Rattle.register.specs.declared.Sizes.{Sizes}
use Rattle.laws.proofs.Bools.{and_both}
use Rattle.chain.specs.Word.{has_field, readable}
use Rattle.chain.proofs.Packing.{Kinded, none, last, more}

pub or_cases : (a b : Bool) → a || b ≡ true → (a ≡ true) ⊎ (b ≡ true)
or_cases true b h = inl refl
or_cases false b h = inr h

pub field_below : (s : Sizes) → Limits s → (f : ℕ) → has_field s f ≡ true → f < 16
unfolding has_field
field_below s l f h =
    ⊎_elim
    (λ r. omega (arith, ltb-true f s.references r, l.references≤))
    (λ m. omega (arith, ltb-true f (8 + s.measures) (and_both (leb 8 f) (ltb f (8 + s.measures)) m).1, l.measures≤))
    (or_cases _ _ h)

-- a word that can be followed is kinded
pub readable-kinded : (s : Sizes) → Limits s → (w : List ℕ) → readable s w ≡ true → Kinded w
unfolding readable
readable-kinded s l [] h = none
readable-kinded s l (f ∷ []) h = last {f = f} (field_below s l f h)
readable-kinded s l (f ∷ g ∷ w) h =
    let both = and_both (ltb f s.references) (readable s (g ∷ w)) h in
    more {f = f} (omega (arith, ltb-true f s.references both.0, l.references≤)) (readable-kinded s l (g ∷ w) both.1)
