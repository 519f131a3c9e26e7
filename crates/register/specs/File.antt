-- The register file: sizes, then two parallel arrays, values and marks.
use Rattle.std.specs.Prelude.{ℕ, ◌+◌, ◌*◌, List, ◌++◌, ℤ, pos, ◌*ℤ◌, take, drop, set}
use Rattle.std.proofs.lemmas.List.Edits.{sets}
use Rattle.integers.specs.Bytes.{word_at, word_bytes, value_bytes}
use Rattle.integers.specs.Factor.{factor}
use Rattle.register.specs.Cells.{value_of, mark_of, cells_of, values_of, marks_of}
use Rattle.register.specs.declared.Sizes.{Sizes}
use Rattle.register.specs.declared.cells.Cell.{Cell}

-- the fields of a record, r + m
unfoldable pub width : Sizes → ℕ
width s = s.references + s.measures

-- the cells of a register, n × (r + m)
unfoldable pub cell_count : Sizes → ℕ
cell_count s = s.records * width s

-- where the cell of record u and field f stands: record by record
unfoldable pub cell_index : Sizes → ℕ → ℕ → ℕ
cell_index s u f = u * width s + f

-- the sizes that a file begins with
unfoldable pub sizes_of : List ℕ → Sizes
sizes_of file = record { records = word_at file 0; references = word_at file 4; measures = word_at file 8 }

-- the values and the marks, the parts of the file behind the sizes
unfoldable pub values_part : Sizes → List ℕ → List ℕ
values_part s file = take (4 * cell_count s) (drop 12 file)

unfoldable pub marks_part : Sizes → List ℕ → List ℕ
marks_part s file = drop (12 + 4 * cell_count s) file

-- the cells of a file
unfoldable pub cells_of_file : Sizes → List ℕ → List Cell
cells_of_file s file = cells_of (values_part s file) (marks_part s file)

-- the file of sizes and cells
unfoldable pub file_of : Sizes → List Cell → List ℕ
file_of s cells =
    word_bytes s.records ++ word_bytes s.references ++ word_bytes s.measures ++ values_of cells ++ marks_of cells

-- the file with another cell at place j
unfoldable pub put_cell : Sizes → ℕ → Cell → List ℕ → List ℕ
put_cell s j c file = set (sets file (12 + 4 * j) (value_bytes (value_of c))) (12 + 4 * cell_count s + j) (mark_of c)

-- the file with a value and its mark at place j: the four bytes are those of the value times the factor of its mark
unfoldable pub put_marked : Sizes → ℕ → ℤ → ℕ → List ℕ → List ℕ
put_marked s j z mark file = set (sets file (12 + 4 * j) (value_bytes (z *ℤ pos (factor mark)))) (12 + 4 * cell_count s + j) mark
