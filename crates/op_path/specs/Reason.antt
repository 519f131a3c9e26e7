-- What is claimed of the path behind a reading: "Its list must be the reason" (M-109).
use Rattle.std.specs.Prelude.{None, Some}
use Rattle.std.specs.Prelude.{ℕ, ◌<◌, ◌≡◌, pos, get_or, set}
use mathlib.Core.List.{List, Memᴰ}
use Rattle.laws.specs.Outcome.{done, after}
use Rattle.register.specs.File.{cells_of_file, file_of}
use Rattle.register.specs.Load.{load}
use Rattle.register.specs.declared.Sizes.{Sizes}
use Rattle.register.specs.declared.cells.Cell.TheVariants.{Missing as Unfilled}
use Rattle.chain_path.specs.declared.Hop.{Hop}
use Rattle.chain_path.specs.Path.{read_behind, AgreesOn, cell_place}
use Rattle.op_read.specs.Reading.{reading}
use Rattle.op_path.specs.Path.{reading_path, path_shows}

-- the reading is the last cell of the path, at `u` alone the record's own number, and refused where the path is
abbrev pub ReadingIsLast : Type 0
ReadingIsLast = (file text : List ℕ) (u : ℕ) → reading file text u ≡ after (reading_path file text u) (λ hs. done (read_behind (Some (pos u)) hs))

-- two registers in which a chain at record u has the same path and the same outcome
pub record SameAt (file other text : List ℕ) (u : ℕ) : Type 0 where
  pub path_same : path_shows (reading_path other text u) ≡ path_shows (reading_path file text u)
  pub reading_same : reading other text u ≡ reading file text u

-- "in every register with the same sizes that agrees on the listed cells, the reading has the same outcome", whatever its other cells are
abbrev pub PathIsReason : Type 0
PathIsReason =
    (s : Sizes) (file other text : List ℕ) (u : ℕ) → load file ≡ done s → load other ≡ done s
    → ((hs : List Hop) → reading_path file text u ≡ done hs → AgreesOn s (cells_of_file s other) hs) → SameAt file other text u

-- no cell is listed for nothing: with a listed one made unfilled, all else as it was, a register of bytes loads and the reading is unfilled
abbrev pub ListedNeeded : Type 0
ListedNeeded =
    (s : Sizes) (file text : List ℕ) (u : ℕ) (hs : List Hop) (h : Hop) → ((i : ℕ) → get_or file i 0 < 256) → load file ≡ done s
    → reading_path file text u ≡ done hs → Memᴰ h hs
    → let other = file_of s (set (cells_of_file s file) (cell_place s h) Unfilled) in (load other ≡ done s) × (reading other text u ≡ done None)
