-- Tests: their sides compared, and what an answer tells of its test.
use Rattle.std.specs.Prelude.{Ok, Err}
use Prim.Native.Nat.{ℕ}
use mathlib.Core.Path.{◌≡◌, refl, sym, subst}
use mathlib.Core.Bool.{Bool, true, false, cond, ◌||◌}
use mathlib.Core.List.{List}
use Rattle.chain.specs.Reading.{Reading}
use Rattle.program.specs.declared.rule.Comparison.{Comparison}
use Rattle.program.specs.Program.{Expression, Test, when}
use Rattle.machine.specs.Value.{value, overflows, compare_readings, holds}
use Rattle.machine.specs.Local.{test_overflows}
use Rattle.step_operations.specs.Evaluated.{out_of_range, evaluated}
use Rattle.step_operations.specs.Tests.{Tested, tested, compared}

-- the answer for a test is that of its sides compared
answers_compared : (c : Comparison) (o p : Bool) (x y : Reading)
    → cond (o || p) (Err out_of_range) (Ok (compare_readings c x y)) ≡ compared c (cond o (Err out_of_range) (Ok x)) (cond p (Err out_of_range) (Ok y))
unfolding compared
answers_compared c true p x y = refl
answers_compared c false true x y = refl
answers_compared c false false x y = refl

module _ (read : List ℕ → Reading) where
  pub test_compared : (x : Expression) (c : Comparison) (y : Expression) → compared c (evaluated read x) (evaluated read y) ≡ tested read (when x c y)
  unfolding tested test_overflows holds evaluated
  test_compared x c y = sym (answers_compared c (overflows read x) (overflows read y) (value read x) (value read y))

  -- what an answer tells of its test
  abbrev pub TestTells : Test → Tested → Type 0
  TestTells t (Ok b) = (test_overflows read t ≡ false) × (holds read t ≡ b)
  TestTells t (Err e) = test_overflows read t ≡ true

  pub test-tells : (t : Test) {r : Tested} → r ≡ tested read t → TestTells t r
  unfolding tested
  test-tells t q = subst (TestTells t) (sym q) (go (test_overflows read t) refl)
    where
      go : (o : Bool) → test_overflows read t ≡ o → TestTells t (cond o (Err out_of_range) (Ok (holds read t)))
      go true a = a
      go false a = (a, refl)
