-- What is read of a register's cells: nothing where a cell on the way is unfilled, or a value.
use Rattle.std.specs.Prelude.{ℤ, Option}

abbrev pub Reading : Type 0
Reading = Option ℤ
