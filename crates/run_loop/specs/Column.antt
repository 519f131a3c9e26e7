-- The column of a loop's field, kept in the scratch buffers from place `at` on.
use Rattle.std.specs.Prelude.{◌≡◌, Bool, false, cond, List, ℕ, suc, ◌+◌, ◌≤◌, ◌<◌, ℤ, pos, length, get_or}
use Rattle.std.specs.Int.{w32}
use Rattle.std.proofs.Common.{SFits}
use Rattle.register.specs.declared.Sizes.{Sizes}
use Rattle.register.specs.declared.cells.Cell.{Cell}
use Rattle.chain.specs.Word.{read_cell}
use Rattle.program.specs.declared.setting.Setting.{Setting}
use Rattle.program.specs.declared.setting.Setting.TheVariants.{Single, Looped}
use Rattle.machine.specs.Run.{same_column, begins, goes_on}
use Rattle.scratch.specs.Places.{place_at, Kept}

-- there is room for a column from `at` on
pub record Space (s : Sizes) (at : ℕ) (values : List ℤ) (marks : List ℕ) : Type 0 where
  pub values_room : at + s.records ≤ length values
  pub marks_room : at + s.records ≤ length marks

-- the places from `at` on hold values of 32 bits
pub record HasColumn (s : Sizes) (at : ℕ) (values : List ℤ) : Type 0 where
  pub fits : (u : ℕ) → u < s.records → SFits w32 (get_or values (at + u) (pos 0))

-- field f of these cells stands from `at` on
pub record LoopColumn (s : Sizes) (f : ℕ) (cells : List Cell) (at : ℕ) (values : List ℤ) (marks : List ℕ) : Type 0 where
  pub column : HasColumn s at values
  pub place_is : (u : ℕ) → u < s.records → place_at values marks (at + u) ≡ read_cell s cells u f

-- the answer whether field f of these cells is as it was kept
pub record SameAs (s : Sizes) (f : ℕ) (after : List Cell) (at : ℕ) (values : List ℤ) (marks : List ℕ) (r : Bool) : Type 0 where
  pub same-is : (before : List Cell) → LoopColumn s f before at values marks → r ≡ same_column s f before after s.records

-- the column of a step's loop as the pass began, where the step stands in one
abbrev pub InPass : Sizes → Setting → List Cell → ℕ → List ℤ → List ℕ → Type 0
InPass s Single before at values marks = Unit {0}
InPass s (Looped f first last) before at values marks = LoopColumn s f before at values marks

-- and that its places hold values of 32 bits
abbrev pub HasPass : Sizes → Setting → ℕ → List ℤ → Type 0
HasPass s Single at values = Unit {0}
HasPass s (Looped f first last) at values = HasColumn s at values

-- the buffers keep their lengths and every place behind the column
pub record Behind (s : Sizes) (at : ℕ) (values : List ℤ) (marks : List ℕ) (values' : List ℤ) (marks' : List ℕ) : Type 0 where
  pub values_length : length values' ≡ length values
  pub marks_length : length marks' ≡ length marks
  pub kept : (j : ℕ) → at + s.records ≤ j → Kept j values marks values' marks'

-- before a step: its pass began over these cells, or before, over those that are kept
pub record Entered (s : Sizes) (g : Setting) (cells : List Cell) (at : ℕ) (values : List ℤ) (marks : List ℕ) (values' : List ℤ) (marks' : List ℕ) : Type 0 where
  pub in_pass : (before : List Cell) → (begins g ≡ false → InPass s g before at values marks) → InPass s g (cond (begins g) cells before) at values' marks'
  pub behind : Behind s at values marks values' marks'

-- behind a step: the one that comes next
pub record NextIs (s : Sizes) (g : Setting) (after : List Cell) (at : ℕ) (values : List ℤ) (marks : List ℕ) (step first next : ℕ) : Type 0 where
  pub next_is : (before : List Cell) → InPass s g before at values marks → next ≡ cond (goes_on s g before after) (suc step) first
