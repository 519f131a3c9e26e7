-- `api_plan::fill_chains` meets its contract. The loop's invariant: the places passed hold their letters, the others 0.
use Rattle.api_plan.specs.PlanArrays.{letter_at, plan_lines}
use Rattle.api_plan.proofs.Filling.{Progress}
use Rattle.api_plan.proofs.fill_chains.Given as goal

abbrev pub invariant-loop-k : goal.invariant-loop-k
invariant-loop-k l = Progress 0 (letter_at (plan_lines l.plan)) 1024 l.k l.chains
