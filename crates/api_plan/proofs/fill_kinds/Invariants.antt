-- `api_plan::fill_kinds` meets its contract. The loop's invariant: the places passed hold their kinds, the others 0.
use Rattle.api_plan.specs.PlanArrays.{kind_at, plan_lines}
use Rattle.api_plan.proofs.Filling.{Progress}
use Rattle.api_plan.proofs.fill_kinds.Given as goal

abbrev pub invariant-loop-i : goal.invariant-loop-i
invariant-loop-i l = Progress 0 (kind_at (plan_lines l.plan)) 64 l.i l.kinds
