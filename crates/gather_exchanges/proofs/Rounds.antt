-- What is held for a line after each exchange: nothing before its round, what is sent in it, and the same from then on.
use Rattle.std.specs.Prelude.{None}
use Prim.Native.Nat.{ℕ, zero, suc, ◌<◌}
use mathlib.Core.Path.{◌≡◌, refl, ◌∙◌}
use mathlib.Core.List.{List}
use mathlib.Core.Logic.{◌≢◌}
use native.Mathlib.Omega.{arith}
use borrow.Author.Tests.{eq-eqb, ne_eqb}
use Rattle.register.specs.declared.Sizes.{Sizes}
use Rattle.register.specs.declared.cells.Cell.{Cell}
use Rattle.plan_lines.specs.Held.{line_at}
use Rattle.plan_lines.specs.declared.Plan.{Plan}
use Rattle.gather_exchanges.specs.Exchanged.{sent_by, held_to}

module _ (s : Sizes) (cells : List Cell) (p : Plan) (t i u : ℕ) where
  pub held_now : (line_at p i).round ≡ suc t → held_to s cells p (suc t) i u ≡ sent_by s cells p (held_to s cells p t) i u
  unfolding held_to
  held_now e = rw (eq-eqb (line_at p i).round (suc t) e)

  pub held_same : (line_at p i).round ≢ suc t → held_to s cells p (suc t) i u ≡ held_to s cells p t i u
  unfolding held_to
  held_same e = rw (ne_eqb (line_at p i).round (suc t) e)

pub held-before : (s : Sizes) (cells : List Cell) (p : Plan) (t i u : ℕ) → t < (line_at p i).round → held_to s cells p t i u ≡ None
unfolding held_to
held-before s cells p zero i u h = refl
held-before s cells p (suc t) i u h = held_same s cells p t i u (λ e. omega arith) ∙ held-before s cells p t i u (omega arith)
