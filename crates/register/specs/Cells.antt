-- A cell, and the two arrays of a register file as a list of cells.
use Rattle.std.specs.Prelude.{ℕ, ◌*◌, ◌≤◌, ◌≡◌, cond, List, [], ◌∷◌, ◌++◌, map, eqb, ℤ, pos, get_or, drop}
use Rattle.integers.specs.Bytes.{value_at, value_bytes}
use Rattle.register.specs.declared.cells.Cell.{Cell}
use Rattle.register.specs.declared.cells.Cell.TheVariants.{Missing, Measured, WorkedOut}

-- "An unfilled cell has value 0."
unfoldable pub value_of : Cell → ℤ
value_of Missing = pos 0
value_of (Measured z) = z
value_of (WorkedOut z) = z

-- the mark: 0 unfilled, 1 measured; "Mark 2 is "worked out", and a cell with mark 1 or 2 is filled." (M-107)
unfoldable pub mark_of : Cell → ℕ
mark_of Missing = 0
mark_of (Measured z) = 1
mark_of (WorkedOut z) = 2

-- the cell of a value and its mark
unfoldable pub cell_of : ℤ → ℕ → Cell
cell_of z mark = cond (eqb mark 0) Missing (cond (eqb mark 1) (Measured z) (WorkedOut z))

-- a value and a mark that a file may hold
pub record Canonical (z : ℤ) (mark : ℕ) : Type 0 where
  pub mark≤ : mark ≤ 2
  pub missing : mark ≡ 0 → z ≡ pos 0

-- cell j of the two parallel arrays, values and marks
unfoldable pub cell_at : List ℕ → List ℕ → ℕ → Cell
cell_at values marks j = cell_of (value_at values (4 * j)) (get_or marks j 0)

-- the cells of the two arrays
unfoldable pub cells_of : List ℕ → List ℕ → List Cell
cells_of values [] = []
cells_of values (mark ∷ marks) = cell_of (value_at values 0) mark ∷ cells_of (drop 4 values) marks

-- the array of values, and that of marks, of a list of cells
unfoldable pub values_of : List Cell → List ℕ
values_of [] = []
values_of (c ∷ cs) = value_bytes (value_of c) ++ values_of cs

unfoldable pub marks_of : List Cell → List ℕ
marks_of cs = map mark_of cs
