-- `run_loop::enter` meets its contract: the first step of a loop keeps the column.
use Rattle.register.specs.View.{cells_in}
use Rattle.register.specs.File.{cells_of_file}
use Rattle.run_loop.proofs.Passes.{entered-first}
use Rattle.run_loop.proofs.enter.Goals as goal

pub returns-then-is_first : goal.returns-then-is_first
unfolding cells_in cells_of_file
returns-then-is_first c =
    let parts = c.of-cells.ensures in
    entered-first _ _ c.in-Looped.is c.if-is_first.true (rw (parts.0, parts.1, parts.2) at c.copy_column.ensures)
