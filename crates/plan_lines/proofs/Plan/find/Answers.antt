-- `plan_lines::Plan::find` meets its contract.
use Rattle.std.proofs.Common.{rules}
use Rattle.plan_lines.specs.Held.{facts_in}
use Rattle.plan_lines.proofs.Plan.find.Goals as goal

pub returns : goal.returns
unfolding facts_in
returns c = search rules
