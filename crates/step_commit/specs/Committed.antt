-- The working cells in the columns that a step writes, as cells of a register file, where all are in range.
use Rattle.std.specs.Prelude.{◌≡◌, Bool, true, false, cond, List, ℕ, zero, suc, ◌+◌, ◌<◌, ℤ, pos, get_or, Option as StdOption, Some, None, Ok, Err}
use Rattle.std.proofs.Math.Option.{Option, none, some}
use Rattle.integers.specs.Range.{in_range}
use Rattle.register.specs.File.{width, cell_index, put_cell}
use Rattle.register.specs.declared.Sizes.{Sizes}
use Rattle.register.specs.declared.cells.Cell.{Cell}
use Rattle.chain.specs.Word.{field_at}
use Rattle.machine.specs.Value.{cell_in_range}
use Rattle.machine.specs.Step.{Offence, total_offence}
use Rattle.scratch.specs.Places.{stored_at}
use Rattle.step_cells.specs.Stop.{Stop}

-- where an answer stops
abbrev pub offence_of : Stop → Option Offence
offence_of (Ok done) = none
offence_of (Err o) = some (record { row = o.row; column = o.column })

-- the working cell of place j
abbrev pub working : ℕ → List ℤ → List ℕ → ℕ → Cell
working base values marks j = stored_at values marks (base + j)

-- whether its value is in range
abbrev pub value_in_range : ℕ → List ℤ → ℕ → Bool
value_in_range base values j = in_range (get_or values (base + j) (pos 0))

-- cell j, or that it is out of range
abbrev pub OneCommitted : Sizes → ℕ → ℕ → List ℤ → List ℕ → List ℕ → List ℕ → StdOption Unit → Type 0
OneCommitted s base j values marks file file' (Some done) = let d = working base values marks j in (cell_in_range d ≡ true) × (file' ≡ put_cell s j d file)
OneCommitted s base j values marks file file' None = (cell_in_range (working base values marks j) ≡ false) × (file' ≡ file)

-- the file with the cells d in column c of the records below n
unfoldable pub put_column : Sizes → (ℕ → Cell) → ℕ → ℕ → List ℕ → List ℕ
put_column s d c zero file = file
put_column s d c (suc n) file = put_cell s (cell_index s n c) (d (cell_index s n c)) (put_column s d c n file)

-- whether the field of column c is one of those that are written
abbrev pub is_written : Sizes → List Bool → ℕ → Bool
is_written s fields c = get_or fields (field_at s c) false

-- the file with the cells d in those of the columns below k
unfoldable pub put_columns : Sizes → (ℕ → Cell) → List Bool → ℕ → List ℕ → List ℕ
put_columns s d fields zero file = file
put_columns s d fields (suc k) file =
    let before = put_columns s d fields k file in
    cond (is_written s fields k) (put_column s d k s.records before) before

-- one column, or a record of it whose working cell is out of range
pub record OneColumn (s : Sizes) (base c : ℕ) (values : List ℤ) (marks : List ℕ) (file file' : List ℕ) : Type 0 where
  pub in_range : (u : ℕ) → u < s.records → cell_in_range (working base values marks (cell_index s u c)) ≡ true
  pub file-is : file' ≡ put_column s (working base values marks) c s.records file

pub record ColumnStops (s : Sizes) (base c : ℕ) (values : List ℤ) (marks : List ℕ) : Type 0 where
  pub row : ℕ
  pub row< : row < s.records
  pub out_of_range : cell_in_range (working base values marks (cell_index s row c)) ≡ false

abbrev pub ColumnCommitted : Sizes → ℕ → ℕ → List ℤ → List ℕ → List ℕ → List ℕ → StdOption Unit → Type 0
ColumnCommitted s base c values marks file file' (Some done) = OneColumn s base c values marks file file'
ColumnCommitted s base c values marks file file' None = ColumnStops s base c values marks

-- all columns whose fields are written, or the first place whose working cell is out of range
pub record AllCommitted (s : Sizes) (base : ℕ) (fields : List Bool) (values : List ℤ) (marks : List ℕ) (file file' : List ℕ) : Type 0 where
  pub in_range : (u c : ℕ) → u < s.records → c < width s → is_written s fields c ≡ true → cell_in_range (working base values marks (cell_index s u c)) ≡ true
  pub file-is : file' ≡ put_columns s (working base values marks) fields (width s) file

abbrev pub Committed : Sizes → ℕ → List Bool → List ℤ → List ℕ → List ℕ → List ℕ → Stop → Type 0
Committed s base fields values marks file file' (Ok done) = AllCommitted s base fields values marks file file'
Committed s base fields values marks file file' (Err o) =
    total_offence s (λ j. cell_in_range (working base values marks j)) ≡ some (record { row = o.row; column = o.column })
