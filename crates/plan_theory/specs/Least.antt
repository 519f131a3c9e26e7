-- What is claimed of the plan's rounds, for every hop word: they are least.
use Rattle.std.specs.Prelude.{List, ℕ}
use Rattle.plan_theory.specs.Knows.{LeastRounds}
use Rattle.plan_theory.specs.Plan.{read, round}

-- "Every other derivation of a reading .. through the records at any chains at all, has at least as many rounds", and the plan's own
-- rounds can be had
abbrev pub PlanLeast : Type 0
PlanLeast = (c : List ℕ) → LeastRounds c (round (read c))
