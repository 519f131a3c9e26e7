-- The scratch buffers (document 01's working arrays) as places that hold readings, and working cells.
use Rattle.std.specs.Prelude.{None, Some}
use Rattle.std.specs.Prelude.{◌≡◌, List, ℕ, ◌+◌, ◌≤◌, ◌<◌, ℤ, pos, length, get_or}
use Rattle.std.specs.Int.{w32}
use Rattle.std.proofs.Common.{SFits}
use Rattle.register.specs.Cells.{cell_of}
use Rattle.register.specs.declared.cells.Cell.{Cell}
use Rattle.chain.specs.Reading.{Reading}
use Rattle.chain.specs.Word.{read_of}

-- the working cell at place j of the two buffers
unfoldable pub stored_at : List ℤ → List ℕ → ℕ → Cell
stored_at values marks j = cell_of (get_or values j (pos 0)) (get_or marks j 0)

-- what is read at place j
unfoldable pub place_at : List ℤ → List ℕ → ℕ → Reading
place_at values marks j = read_of (stored_at values marks j)

-- the mark of a reading: 1 where there is a value
unfoldable pub reading_mark : Reading → ℕ
reading_mark None = 0
reading_mark (Some z) = 1

-- place j is as it was
pub record Kept (j : ℕ) (values : List ℤ) (marks : List ℕ) (values' : List ℤ) (marks' : List ℕ) : Type 0 where
  pub value-is : get_or values' j (pos 0) ≡ get_or values j (pos 0)
  pub mark_is : get_or marks' j 0 ≡ get_or marks j 0

-- the first n places from `at` on hold the readings x 0, x 1 and so on, in values of 32 bits; every other place is as it was
pub record StoredFrom (at n : ℕ) (x : ℕ → Reading) (values : List ℤ) (marks : List ℕ) (values' : List ℤ) (marks' : List ℕ) : Type 0 where
  pub values_length : length values' ≡ length values
  pub marks_length : length marks' ≡ length marks
  pub place_is : (u : ℕ) → u < n → place_at values' marks' (at + u) ≡ x u
  pub fits : (u : ℕ) → u < n → SFits w32 (get_or values' (at + u) (pos 0))
  pub before : (j : ℕ) → j < at → Kept j values marks values' marks'
  pub behind : (j : ℕ) → at + n ≤ j → Kept j values marks values' marks'
