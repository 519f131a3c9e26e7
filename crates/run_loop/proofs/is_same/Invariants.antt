-- `run_loop::is_same` meets its contract. The loop's invariant: the same is read of the records passed.
use mathlib.Core.Path.{◌≡◌}
use mathlib.Core.Bool.{true}
use mathlib.Core.List.{List}
use Rattle.register.specs.View.{cells_in}
use Rattle.register.specs.declared.cells.Cell.{Cell}
use Rattle.machine.specs.Run.{same_column}
use Rattle.run_loop.specs.Column.{LoopColumn}
use Rattle.run_loop.proofs.is_same.Given as goal

abbrev pub invariant-loop-u : goal.invariant-loop-u
invariant-loop-u l = (before : List Cell) → LoopColumn l.cells.sizes l.field before l.at l.values l.marks → same_column l.cells.sizes l.field before (cells_in l.cells) l.u ≡ true
