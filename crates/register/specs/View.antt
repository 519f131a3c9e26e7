-- The cells of a register that is held by its two parts.
use Rattle.std.specs.Prelude.{List}
use Rattle.register.specs.Cells.{cells_of}
use Rattle.register.specs.declared.cells.Cell.{Cell}
use Rattle.register.specs.declared.cells.Cells.{Cells}

unfoldable pub cells_in : Cells → List Cell
cells_in c = cells_of c.values.now c.marks.now
