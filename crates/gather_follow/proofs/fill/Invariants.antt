-- `gather_follow::fill` meets its contract. The loop's invariant: the lines passed are filled.
use Rattle.register.specs.View.{cells_in}
use Rattle.plan_lines.specs.Held.{facts}
use Rattle.gather_follow.specs.Filled.{Filled}
use Rattle.gather_follow.proofs.fill.Given as goal

abbrev pub invariant-loop-i : goal.invariant-loop-i
invariant-loop-i l = Filled l.cells.sizes (cells_in l.cells) (facts l.plan) l.wanted l.i l.initial.values l.initial.marks l.values l.marks
