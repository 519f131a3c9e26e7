-- What holds at the place that 21 names.
use Rattle.std.specs.Prelude.{◌≡◌, ◌⊎◌, true, false, ℕ, ◌<◌, get_or}
use mathlib.Core.List.{List, Memᴰ}
use Rattle.register.specs.File.{width, cell_index}
use Rattle.register.specs.declared.Sizes.{Sizes}
use Rattle.register.specs.declared.cells.Cell.{Cell}
use Rattle.register.specs.declared.cells.Cell.TheVariants.{Missing}
use Rattle.chain.specs.Reading.{Reading}
use Rattle.chain.specs.Word.{column}
use Rattle.program.specs.Program.{Rule, target_field}
use Rattle.machine.specs.Value.{cell_in_range}
use Rattle.machine.specs.Local.{offends}
use Rattle.machine.specs.Step.{step_cells, Offence}

-- a rule of these forms a sum out of range, in its test or where that holds, and writes column c
abbrev pub SumThere : Sizes → (List ℕ → Reading) → List Rule → ℕ → Type 0
SumThere s read rs c = (r : Rule) × Memᴰ r rs × (offends read r ≡ true) × (column s (target_field r.target) ≡ c)

-- a record and column of the register, "where a sum formed for the named record and field, or the total of that cell, is out of
-- range"
pub record Named (s : Sizes) (read : ℕ → List ℕ → Reading) (rs : List Rule) (cells : List Cell) (x : Offence) : Type 0 where
  pub row< : x.row < s.records
  pub column< : x.column < width s
  pub offends_there :
      SumThere s (read x.row) rs x.column
      ⊎ (cell_in_range (get_or (step_cells s read rs cells) (cell_index s x.row x.column) Missing) ≡ false)
