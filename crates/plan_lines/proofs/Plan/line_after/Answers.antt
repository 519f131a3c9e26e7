-- `plan_lines::Plan::line_after` meets its contract.
use mathlib.Core.Path.{refl}
use Rattle.plan_lines.proofs.Appending.{back_round<, read_round<, line-both}
use Rattle.plan_lines.proofs.Plan.line_after.Goals as goal

pub round_after-round-requires : goal.round_after-round-requires
round_after-round-requires c =
    let q = c.requires in
    (rw c.index_of-back.ensures (back_round< q.2 q.3), rw c.index_of-read.ensures (read_round< q.2 q.3))

pub returns : goal.returns
returns c =
    let q = c.requires in
    (refl, line-both q.2 q.3 c.index_of-back.ensures c.index_of-read.ensures c.round_after-round.ensures)
