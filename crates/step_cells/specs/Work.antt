-- The working cells in the scratch buffers, from place `base` on; below it stand the places of the plan's lines.
use Rattle.std.specs.Prelude.{◌≡◌, List, ℕ, ◌+◌, ◌≤◌, ◌<◌, ℤ, pos, length, get_or, take, set}
use Rattle.std.specs.Int.Signed.{mag}
use Rattle.register.specs.Cells.{value_of, mark_of, cell_of, Canonical}
use Rattle.register.specs.declared.cells.Cell.{Cell}
use Rattle.register.specs.declared.cells.Cell.TheVariants.{Missing}
use Rattle.scratch.specs.Places.{stored_at}

-- the buffers have room for k cells from `base` on; before them stand at most 64 lines of 4,096 places and a column
pub record Room (base k : ℕ) (values : List ℤ) (marks : List ℕ) : Type 0 where
  pub base≤ : base ≤ 266240
  pub values_room : base + k ≤ length values
  pub marks_room : base + k ≤ length marks

-- the buffers hold these cells from `base` on, a missing one as value 0 and mark 0
pub record HoldsCells (base : ℕ) (cells : List Cell) (values : List ℤ) (marks : List ℕ) : Type 0 where
  pub value-is : (j : ℕ) → j < length cells → get_or values (base + j) (pos 0) ≡ value_of (get_or cells j Missing)
  pub mark_is : (j : ℕ) → j < length cells → get_or marks (base + j) 0 ≡ mark_of (get_or cells j Missing)

-- the buffers keep their lengths and what stands below `base`
pub record Same (base : ℕ) (values : List ℤ) (marks : List ℕ) (values' : List ℤ) (marks' : List ℕ) : Type 0 where
  pub values_length : length values' ≡ length values
  pub marks_length : length marks' ≡ length marks
  pub values_same : take base values' ≡ take base values
  pub marks_same : take base marks' ≡ take base marks

-- the k working cells are such as a file may hold
pub record CanonicalCells (base k : ℕ) (values : List ℤ) (marks : List ℕ) : Type 0 where
  pub each : (j : ℕ) → j < k → Canonical (get_or values (base + j) (pos 0)) (get_or marks (base + j) 0)

-- place j now holds cell c, and a value and a mark that a file may hold where it did so before
pub record Put (j : ℕ) (c : Cell) (values : List ℤ) (marks : List ℕ) (values' : List ℤ) (marks' : List ℕ) : Type 0 where
  pub value : ℤ
  pub mark : ℕ
  pub values_are : values' ≡ set values j value
  pub marks_are : marks' ≡ set marks j mark
  pub cell_is : cell_of value mark ≡ c
  pub proper : Canonical (get_or values j (pos 0)) (get_or marks j 0) → Canonical value mark

-- the values of the k working cells are below b; a missing cell counts as 0
pub record Small (b base k : ℕ) (values : List ℤ) (marks : List ℕ) : Type 0 where
  pub below : (j : ℕ) → j < k → mag (value_of (stored_at values marks (base + j))) < b
