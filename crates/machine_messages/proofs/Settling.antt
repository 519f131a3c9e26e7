-- A fact is held from its round on, and never changes then.
use Rattle.std.specs.Prelude.{None}
use Prim.Native.Nat.{ℕ, zero, suc, ◌≤◌, ◌<◌}
use mathlib.Core.Path.{◌≡◌, refl, ◌∙◌}
use mathlib.Core.List.{List}
use native.Mathlib.Omega.{arith}
use native.Mathlib.Decide.{le_ind}
use borrow.Author.Tests.{eq-eqb, ne_eqb}
use Rattle.register.specs.declared.Sizes.{Sizes}
use Rattle.register.specs.declared.cells.Cell.{Cell}
use Rattle.plan_theory.specs.Plan.{Fact, round}
use Rattle.machine_messages.specs.Held.{sent, held_after}

module _ (s : Sizes) (cells : List Cell) where
  -- an exchange of another round leaves it
  pub held_same : (t : ℕ) (f : Fact) (u : ℕ) → (round f ≡ suc t → ⊥) → held_after s cells (suc t) f u ≡ held_after s cells t f u
  unfolding held_after
  held_same t f u h = rw (ne_eqb (round f) (suc t) h)

  -- in its round it is sent, by what was held before
  pub held_now : (t : ℕ) (f : Fact) (u : ℕ) → round f ≡ suc t → held_after s cells (suc t) f u ≡ sent s cells (held_after s cells t) f u
  unfolding held_after
  held_now t f u h = rw (eq-eqb (round f) (suc t) h)

  -- one more exchange after its round leaves it ..
  pub held_later : (t : ℕ) (f : Fact) (u : ℕ) → round f ≤ t → held_after s cells (suc t) f u ≡ held_after s cells t f u
  held_later t f u h = held_same t f u (λ e. omega arith)

  -- .. and so do any number of them
  pub held-settled : (t t' : ℕ) (f : Fact) (u : ℕ) → round f ≤ t → t ≤ t' → held_after s cells t' f u ≡ held_after s cells t f u
  held-settled t t' f u h l =
      le_ind (λ k. held_after s cells k f u ≡ held_after s cells t f u) refl (λ k m r. held_later k f u (omega arith) ∙ r) t' l

  -- nothing is held before its round
  pub held-before : (t : ℕ) (f : Fact) (u : ℕ) → t < round f → held_after s cells t f u ≡ None
  unfolding held_after
  held-before zero f u h = refl
  held-before (suc t) f u h = held_same t f u (λ e. omega arith) ∙ held-before t f u (omega arith)

  -- a fact without a line, which has round 0, is never held
  pub held_never : (t : ℕ) (f : Fact) (u : ℕ) → round f ≡ 0 → held_after s cells t f u ≡ None
  unfolding held_after
  held_never t f u h = held-settled 0 t f u (omega arith) (omega arith)
