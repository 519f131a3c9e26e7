-- A whole step over the register in the output buffer, where it goes through.
use Rattle.std.specs.Prelude.{◌≡◌, List, ℕ, ℤ, length}
use Rattle.std.proofs.Math.Option.{none}
use Rattle.register.specs.File.{file_of, cells_of_file}
use Rattle.register.specs.declared.Sizes.{Sizes}
use Rattle.chain.specs.Reading.{Reading}
use Rattle.program.specs.Program.{Rule}
use Rattle.machine.specs.Remote.{record_messages}
use Rattle.machine.specs.Step.{step_cells, offence}
use Rattle.step_cells.specs.Work.{HoldsCells}

-- a step that goes through: the file and the working cells hold the cells behind it, and it has sent n messages
pub record GoesThrough (s : Sizes) (read : ℕ → List ℕ → Reading) (rs : List Rule) (file file' : List ℕ) (base : ℕ)
    (values : List ℤ) (marks : List ℕ) (n : ℕ) : Type 0 where
  pub file-is : file' ≡ file_of s (step_cells s read rs (cells_of_file s file))
  pub holds : HoldsCells base (step_cells s read rs (cells_of_file s file)) values marks
  pub sent_is : n ≡ length (record_messages read rs s.records)
  pub stops_not : offence s read rs (cells_of_file s file) ≡ none
