-- `plan_lines::Plan::last_round` meets its contract. The loop's invariant: the last of the rounds passed.
use Rattle.plan_lines.proofs.Rounds.{LastTo}
use Rattle.plan_lines.proofs.Plan.last_round.Given as goal

abbrev pub invariant-loop-i : goal.invariant-loop-i
invariant-loop-i l = LastTo l.self.rounds l.self.count l.i l.latest
