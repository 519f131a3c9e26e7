-- What the plan of a step answers.
use Rattle.std.specs.Prelude.{ℕ, ◌≡◌, List, [], ◌∷◌, Result, Ok, Err, IfOk}
use Rattle.laws.specs.Outcome.{Outcome, done, refused}
use Rattle.plan_theory.specs.Plan.{Fact}
use Rattle.plan_lines.specs.Held.{facts, HoldsLines}
use Rattle.plan_lines.specs.declared.Plan.{Plan}
use Rattle.program.specs.Program.{Rule, Program, most_lines, step_plan}
use Rattle.text_rules.specs.Text.{check, rules_at, PlanResult}
use Rattle.op_limits.specs.Number.{refusal_number}
use Rattle.op_check.specs.declared.check.Refused.{Refused}
use Rattle.op_check.specs.declared.step.StepPlan.{StepPlan}

-- two lists side by side, as far as the first goes
unfoldable pub zip : List Fact → List ℕ → List (Fact × ℕ)
zip [] ns = []
zip (f ∷ fs) [] = []
zip (f ∷ fs) (n ∷ ns) = (f, n) ∷ zip fs ns

-- the lines of a plan, each with its round
unfoldable pub lines_of : Plan → List (Fact × ℕ)
lines_of p = zip (facts p) p.rounds

-- the outcome of the plan of a step
unfoldable pub plan_outcome : Result StepPlan Refused → Outcome PlanResult
plan_outcome (Ok r) = done (record { plan_lines = lines_of r.plan; remote = r.remote })
plan_outcome (Err r) = refused (refusal_number r.refusal) r.line

-- an answer of this outcome, with a plan whose arrays hold its lines where nothing is refused
pub record PlanAnswers (o : Outcome PlanResult) (r : Result StepPlan Refused) : Type 0 where
  pub outcome_is : plan_outcome r ≡ o
  pub sound : IfOk r (λ p. HoldsLines p.plan (facts p.plan))

-- what the look needs beside it where nothing is refused: the text's program, the step's rules, whose lines the plan has, and
-- the most lines of any step
pub record StepFound (file text : List ℕ) (k : ℕ) (r : StepPlan) : Type 0 where
  pub program : Program
  pub checked : check file text ≡ done program
  pub rules : List Rule
  pub there : rules_at program k ≡ done rules
  pub lines_are : facts r.plan ≡ step_plan rules
  pub most_is : r.most ≡ most_lines program
