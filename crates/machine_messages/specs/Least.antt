-- What is claimed of the rounds that the readings of a step have in its plan: they are least.
use Rattle.std.specs.Prelude.{ℕ, ◌<◌, ◌≡◌, length}
use mathlib.Core.List.{List, Memᴰ}
use Rattle.plan_theory.specs.Knows.{LeastRounds}
use Rattle.plan_theory.specs.Plan.{Fact, read, round, line}
use Rattle.program.specs.Program.{Rule, readings, step_plan}

-- "a reading's rounds in the plan are the round of its Read line, 0 where it has none"
pub data RoundsInPlan (l : List Fact) (w : List ℕ) : ℕ → Type 0 where
  listed : (i : ℕ) → i < length l → line l i ≡ read w → RoundsInPlan l w (round (line l i))
  unlisted : ((i : ℕ) → i < length l → line l i ≡ read w → ⊥) → RoundsInPlan l w 0

-- for the readings of these rules: each has its rounds in their plan, and they are least: "Every other derivation of a reading .. has at
-- least as many rounds as that reading has in the plan."
pub record ReadingsLeast (rs : List Rule) : Type 0 where
  pub planned : {w : List ℕ} → Memᴰ w (readings rs) → (n : ℕ) × RoundsInPlan (step_plan rs) w n
  pub least : {w : List ℕ} → Memᴰ w (readings rs) → {n : ℕ} → RoundsInPlan (step_plan rs) w n → LeastRounds w n
