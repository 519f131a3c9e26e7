-- `op_show::show` meets its contract: the lines' places are cleared, and the exchanges fill those of the rounds up to t.
use mathlib.Core.Path.{◌≡◌}
use native.Mathlib.Omega.{arith}
use Rattle.register.specs.View.{cells_in}
use Rattle.register.specs.File.{cells_of_file}
use Rattle.plan_theory.specs.Plan.{last_round}
use Rattle.plan_lines.specs.Held.{facts}
use Rattle.gather_exchanges.proofs.Planned.{planned-lines, planned_count, planned-rounds}
use Rattle.op_show.proofs.Showing.{shown}
use Rattle.op_show.proofs.show.Goals as goal

pub exchange_to-requires : goal.exchange_to-requires
unfolding cells_in cells_of_file
exchange_to-requires c =
    let parts = c.of-cells.ensures in
    let pre = c.requires in
    rw (parts.0, parts.1, parts.2) (
      pre.0,
      record {
        lines = planned-lines pre.2;
        values_room = omega (arith, c.clear.ensures.values_length);
        marks_room = omega (arith, c.clear.ensures.marks_length);
      },
    )

pub returns : goal.returns
unfolding cells_in cells_of_file
returns c =
    let parts = c.of-cells.ensures in
    let pre = c.requires in
    let last_is : c.last_round.result ≡ last_round (facts c.args.plan.now) = c.last_round.ensures.last-is _ (planned_count pre.2) (planned-rounds pre.2) in
    let made = rw c.from.ensures at c.min-last.ensures in
    shown pre.2 pre.0 made last_is c.clear.ensures (rw (parts.0, parts.1, parts.2) at c.exchange_to.ensures)
