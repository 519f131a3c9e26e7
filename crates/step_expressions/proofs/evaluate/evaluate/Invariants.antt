-- `step_expressions::evaluate::evaluate` meets its contract: a term waits until its operator comes.
use Prim.Native.Nat.{◌-◌}
use Rattle.register.specs.View.{cells_in}
use Rattle.step_expressions.proofs.Waiting.{WorkedTo}
use Rattle.step_expressions.proofs.evaluate.evaluate.Given as goal

abbrev pub invariant-loop-at : goal.invariant-loop-at
invariant-loop-at l = WorkedTo l.cells.sizes (cells_in l.cells) l.values l.marks l.u l.codes l.from l.to l.waiting l.count l.value l.at

abbrev pub decreases-loop-at : goal.decreases-loop-at
decreases-loop-at l = l.to - l.at
