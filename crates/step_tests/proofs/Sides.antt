-- Two readings, one of which may be missing.
use Rattle.std.specs.Prelude.{None, Some}
use Prim.Native.Nat.{ℕ, ◌<◌}
use mathlib.Core.Bool.{true}
use mathlib.Core.Path.{◌≡◌, refl, sym, ap, ap₂, subst, ◌∙◌}
use lib.Dec.{T}
use lib.IntN.{ℤ, nat_abs}
use lib.Signed.{mag, non_neg}
use mir.Syntax.{w32}
use mir.Val.{to_z, of_z}
use Rattle.integers.proofs.Complement.{kept, index_is}
use Rattle.chain.specs.Reading.{Reading}
use Rattle.chain.specs.Word.{refers_to}
use Rattle.machine.specs.Value.{both}
use Rattle.step_terms.specs.Found.{Names}

module _ {A : Type 0} (else : A) (f : ℤ → ℤ → A) where
  -- a missing side
  pub both_first : {x : Reading} (y : Reading) → x ≡ None → else ≡ both else f x y
  unfolding both
  both_first y e = sym (ap (λ (x : Reading). both else f x y) e)

  pub both-second : (x : Reading) {y : Reading} → y ≡ None → else ≡ both else f x y
  unfolding both
  both-second None e = refl
  both-second (Some a) e = sym (ap (both else f (Some a)) e)

  -- both values, as the code holds them
  pub both_values : {x y : Reading} {a b : ℤ} → x ≡ Some a → y ≡ Some b → mag a < 2147483648 → mag b < 2147483648
      → f (to_z w32 (of_z w32 a)) (to_z w32 (of_z w32 b)) ≡ both else f x y
  unfolding both
  both_values {a} {b} p q ha hb = ap₂ f (kept a ha) (kept b hb) ∙ sym (ap₂ (both else f) p q)

-- the number of a record that a reading names, as the code holds it
pub named : {x : Reading} {a : ℤ} → x ≡ Some a → mag a < 2147483648 → Names x → T (non_neg (to_z w32 (of_z w32 a)))
named {a} e h n = rw (kept a h) (subst Names e n)

-- and one of the register, where the reading leads to one of n records
pub named-within : {x : Reading} {a : ℤ} {t : ℕ} → x ≡ Some a → mag a < 2147483648 → t ≡ nat_abs (to_z w32 (of_z w32 a)) → (n : ℕ) → refers_to n x ≡ true → t < n
unfolding refers_to
named-within {a = a} e h q n r = rw (q ∙ ap nat_abs (kept a h)) (index_is n a (subst (λ (x : Reading). refers_to n x ≡ true) e r)).1
