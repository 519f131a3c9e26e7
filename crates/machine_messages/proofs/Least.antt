-- Every reading of a step has, in its plan, the least number of rounds of all its derivations.
use Prim.Native.Nat.{ℕ, ◌≤◌, ◌<◌}
use mathlib.Core.Path.{◌≡◌, sym, ap, subst}
use mathlib.Core.Logic.{⊎_elim}
use mathlib.Core.List.{List, Memᴰ}
use native.Mathlib.Omega.{arith}
use lib.ListN.{length}
use Rattle.plan_theory.specs.Knows.{LeastRounds}
use Rattle.plan_theory.specs.Plan.{Fact, read, hops, line_from, round, line_index, line}
use Rattle.laws.proofs.Cases.{lt_or_le}
use Rattle.plan_theory.proofs.Facts.{round-none}
use Rattle.plan_theory.proofs.Least.{round_least}
use Rattle.plan_theory.proofs.Places.{place-line}
use Rattle.plan_theory.specs.Promise.{Promise}
use Rattle.plan_theory.proofs.Kept.{plan-promise}
use Rattle.program.specs.Program.{Step, readings, step_plan}
use Rattle.machine_messages.specs.Least.{RoundsInPlan, listed, unlisted, ReadingsLeast}

module _ {ws : List (List ℕ)} {l : List Fact} (p : Promise ws l) {w : List ℕ} (m : Memᴰ w ws) where
  -- a reading has its Read line exactly if it has two or more hops
  reading-line : 2 ≤ length w → (line_index l (read w) < length l) × (line l (line_index l (read w)) ≡ read w)
  reading-line h = let b = p.has_reading m h in (b, place-line l (read w) b)

  no_line : length w < 2 → (i : ℕ) → i < length l → line l i ≡ read w → ⊥
  no_line h i b e = omega (arith, subst (λ f. line_from f ≤ hops f) e (p.stands i b).has_line)

  -- so its rounds in the plan are the round of its fact, and nothing else is
  pub round_in_plan : RoundsInPlan l w (round (read w))
  round_in_plan =
      ⊎_elim
      (λ (h : length w < 2). rw (round-none (read w) h) (unlisted (no_line h)))
      (λ (h : 2 ≤ length w). let (b, e) = reading-line h in subst (RoundsInPlan l w) (ap round e) (listed (line_index l (read w)) b e))
      (lt_or_le (length w) 2)

  pub in_plan-round : {n : ℕ} → RoundsInPlan l w n → n ≡ round (read w)
  in_plan-round (listed i h e) = ap round e
  in_plan-round (unlisted none) =
      ⊎_elim
      (λ (h : length w < 2). sym (round-none (read w) h))
      (λ (h : 2 ≤ length w). let (b, e) = reading-line h in absurd (none (line_index l (read w)) b e))
      (lt_or_le (length w) 2)

-- each reading of a step
pub step_least : (x : Step) → ReadingsLeast x.rules
unfolding step_plan
step_least x =
    let promise = plan-promise (readings x.rules) in
    record {
      planned = λ {w} m. (round (read w), round_in_plan promise m);
      least = λ {w} m r. subst (LeastRounds w) (sym (in_plan-round promise m r)) (round_least w);
    }
