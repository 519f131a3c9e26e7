-- Which files load, and with which refusal the others do not.
use Rattle.std.specs.Prelude.{ℕ, ◌+◌, ◌*◌, Bool, cond, not, ◌&&◌, List, leb, ltb, eqb, ℤ, pos, length, get_or}
use Rattle.integers.specs.Bytes.{value_at}
use Rattle.integers.specs.Range.{eq_z, is_index}
use Rattle.laws.specs.Outcome.{Outcome, done, refused, unless, first}
use Rattle.register.specs.declared.Sizes.{Sizes}
use Rattle.register.specs.File.{width, cell_count, cell_index, sizes_of, values_part, marks_part}

-- "n (records, 0 to 4,096), r (reference fields, 0 to 8), m (measure fields, 0 to 8)"
unfoldable pub within_limits : Sizes → Bool
within_limits s = leb s.records 4096 && leb s.references 8 && leb s.measures 8

-- "Refusal 3 now begins above 2" (M-107); 4 unfilled with value not 0; 5 a filled reference outside 0 to n − 1; 0 for a cell with
-- none of these
unfoldable pub cell_refusal : ℕ → Bool → ℤ → ℕ → ℕ
cell_refusal n reference z mark =
    cond (ltb 2 mark) 3
    (cond (eqb mark 0 && not (eq_z z (pos 0))) 4
    (cond (not (eqb mark 0) && reference && not (is_index n z)) 5
    0))

-- the refusal of the cell of record u and field f
unfoldable pub refusal_at : Sizes → List ℕ → List ℕ → ℕ → ℕ → ℕ
refusal_at s values marks u f =
    let j = cell_index s u f in
    cell_refusal s.records (ltb f s.references) (value_at values (4 * j)) (get_or marks j 0)

-- the refusal of the first offending cell, record by record, reference fields first
unfoldable pub record_refusal : Sizes → List ℕ → List ℕ → ℕ → ℕ
record_refusal s values marks u = first (width s) (refusal_at s values marks u)

unfoldable pub cells_refusal : Sizes → List ℕ → List ℕ → ℕ
cells_refusal s values marks = first s.records (record_refusal s values marks)

-- a file with these sizes: "then 1, then cell by cell 3, 4, 5"
unfoldable pub load_sized : Sizes → List ℕ → Outcome Sizes
load_sized s file =
    cond (eqb (length file) (12 + 5 * cell_count s))
    (unless (cells_refusal s (values_part s file) (marks_part s file)) 0 (done s))
    (refused 1 0)

-- "Header shorter than 12 is 1; then 2, .."
unfoldable pub load : List ℕ → Outcome Sizes
load file =
    cond (ltb (length file) 12) (refused 1 0)
    (cond (within_limits (sizes_of file)) (load_sized (sizes_of file) file) (refused 2 0))
