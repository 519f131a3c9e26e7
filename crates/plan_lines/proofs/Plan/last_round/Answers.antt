-- `plan_lines::Plan::last_round` meets its contract. The loop's invariant: the last of the rounds passed.
use mathlib.Core.Path.{sym}
use native.Mathlib.Omega.{arith}
use Rattle.plan_lines.proofs.Rounds.{last-round-none, last-next}
use Rattle.plan_lines.proofs.Plan.last_round.Goals as goal

pub loop-i-init : goal.loop-i-init
loop-i-init c l n h = sym (last-round-none l)

pub loop-i-preserved : goal.loop-i-preserved
loop-i-preserved c =
    let p = c.args.self.now in
    last-next p.rounds p.count c.loop-i.latest c.max-latest.result c.loop-i.i (omega arith) c.max-latest.ensures c.loop-i.invariant
