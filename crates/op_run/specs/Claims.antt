-- What is claimed of the output of whole runs, by either machine: of cells that were filled (M-103), and of marks (M-107).
use Rattle.std.specs.Prelude.{ℕ, ◌<◌, ◌≡◌, List, ℤ, get_or}
use Rattle.laws.specs.Outcome.{done}
use Rattle.register.specs.File.{sizes_of, cells_of_file}
use Rattle.register.specs.declared.Sizes.{Sizes}
use Rattle.program.specs.Program.{Program}
use Rattle.text_rules.specs.Text.{check}
use Rattle.machine.specs.Filled.{StayFilled}
use Rattle.machine.specs.Run.{direct, run}
use Rattle.machine_messages.specs.declared.Machine.{Machine}
use Rattle.run_steps.specs.declared.RunAnswer.{RunAnswer}
use Rattle.op_run.specs.Answer.{RunAnswered}
use Rattle.op_run.specs.Marks.{MeasuredBefore, UnfilledBefore}

-- for every register of bytes that loads, text that passes and budget, by either machine, what holds of the sizes, the register, the output
-- and the answer
abbrev pub EveryRun : (Sizes → List ℕ → List ℕ → RunAnswer → Type 0) → Type 0
EveryRun P =
    (m : Machine) (file text : List ℕ) (p : Program) → check file text ≡ done p → ((i : ℕ) → get_or file i 0 < 256) → (budget : ℕ)
    → (out : List ℕ) (values values' : List ℤ) (marks marks' : List ℕ) (r : RunAnswer)
    → RunAnswered m (run (sizes_of file) (direct (sizes_of file)) p budget (cells_of_file (sizes_of file) file)) file out values marks values' marks' r
    → P (sizes_of file) file out r

-- "a rule that reads nothing must not erase a depth somebody measured": what is filled in the register is filled in the output of a run
-- that finishes
abbrev pub OutputFills : Type 0
OutputFills = EveryRun (λ s file out r. r.refusal ≡ 0 → StayFilled (cells_of_file s file) (cells_of_file s out))

-- "It must hold for whole runs: a cell marked 1 at the end was marked 1 at the start, with the same value", however the run ends
abbrev pub OutputMeasured : Type 0
OutputMeasured = EveryRun (λ s file out r. MeasuredBefore s file out)

-- and one marked 0 at the end was marked 0
abbrev pub OutputUnfilled : Type 0
OutputUnfilled = EveryRun (λ s file out r. UnfilledBefore s file out)
