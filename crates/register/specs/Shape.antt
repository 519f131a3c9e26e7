-- What is known of a register that loads, for the code that works on it.
use Rattle.std.specs.Prelude.{ℕ, ◌+◌, ◌*◌, ◌≤◌, ◌<◌, ◌≡◌, Bool, true, List, length, get_or}
use Rattle.std.specs.Int.{w32}
use Rattle.std.proofs.Common.{SFits}
use Rattle.integers.specs.Range.{is_index}
use Rattle.register.specs.Cells.{value_of}
use Rattle.register.specs.declared.Sizes.{Sizes}
use Rattle.register.specs.declared.cells.Cell.{Cell}
use Rattle.register.specs.declared.cells.Cell.TheVariants.{Missing, Measured, WorkedOut}
use Rattle.register.specs.File.{cell_count, cell_index, file_of, cells_of_file}

-- the limits of the sizes, as bounds
pub record Limits (s : Sizes) : Type 0 where
  pub records≤ : s.records ≤ 4096
  pub references≤ : s.references ≤ 8
  pub measures≤ : s.measures ≤ 8

-- two lists of bytes that are the values and the marks of a register of these sizes
pub record Parts (s : Sizes) (values marks : List ℕ) : Type 0 where
  pub limits : Limits s
  pub values_length : length values ≡ 4 * cell_count s
  pub marks_length : length marks ≡ cell_count s

-- "A filled reference is 0 to n − 1."
unfoldable pub refers_within : ℕ → Cell → Bool
refers_within n Missing = true
refers_within n (Measured z) = is_index n z
refers_within n (WorkedOut z) = is_index n z

-- cells that a register of these sizes may hold
pub record Valid (s : Sizes) (cells : List Cell) : Type 0 where
  pub limits : Limits s
  pub count : length cells ≡ cell_count s
  pub values : (j : ℕ) → SFits w32 (value_of (get_or cells j Missing))
  pub references : (u f : ℕ) → u < s.records → f < s.references → refers_within s.records (get_or cells (cell_index s u f) Missing) ≡ true

-- a file that is a register of these sizes
pub record Register (s : Sizes) (file : List ℕ) : Type 0 where
  pub valid : Valid s (cells_of_file s file)
  pub file-is : file ≡ file_of s (cells_of_file s file)
  pub whole : length file ≡ 12 + 5 * cell_count s
