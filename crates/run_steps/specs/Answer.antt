-- How the code's answer tells a run.
use Rattle.std.specs.Prelude.{◌≡◌, List, ℕ, ◌≤◌, ◌<◌, ℤ, length}
use Rattle.register.specs.File.{file_of, cells_of_file}
use Rattle.register.specs.declared.Sizes.{Sizes}
use Rattle.register.specs.declared.cells.Cell.{Cell}
use Rattle.program.specs.Program.{Step, Program}
use Rattle.program.specs.declared.location.Located.{Located}
use Rattle.program.specs.declared.frame.Frame.{Frame}
use Rattle.program.specs.declared.Program as R
use Rattle.machine.specs.Run.{Ending, complete, exhausted, offended, Run, direct, run, scratch}
use Rattle.machine_messages.specs.By.{exchanges_by, messages_by}
use Rattle.machine_messages.specs.declared.Machine.{Machine}
use Rattle.std.specs.Prelude.{Ok, Err}
use Rattle.step_cells.specs.Stop.{Stop}
use Rattle.gather.specs.declared.counts.Counts.{Counts}
use Rattle.run_steps.specs.declared.RunAnswer.{RunAnswer}

-- an answer that names no place
abbrev pub ended_with : ℕ → ℕ → Counts → RunAnswer
ended_with refusal finished counts = record { refusal = refusal; line = 0; finished = finished; counts = counts; row = 0; column = 0 }

-- an answer that names one
abbrev pub stopped_at : ℕ → Counts → ℕ → ℕ → RunAnswer
stopped_at finished counts row column = record { refusal = 21; line = 0; finished = finished; counts = counts; row = row; column = column }

-- the answer of a run that has come before step `step`: it stops there, or a step is left, or none
abbrev pub AnswerIs : Stop → ℕ → ℕ → ℕ → Counts → RunAnswer → Type 0
AnswerIs (Ok done) step steps finished counts r = (step < steps → r ≡ ended_with 20 finished counts) × (steps ≤ step → r ≡ ended_with 0 finished counts)
AnswerIs (Err o) step steps finished counts r = r ≡ stopped_at finished counts o.row o.column

-- the program that these arrays hold
abbrev pub in_arrays : List Located → List Frame → ℕ → ℕ → R.Program
in_arrays slots frames steps lines = record { slots = slots; frames = frames; steps = steps; lines = lines }

-- the buffers are long enough for plans of this many lines
pub record Scratch (s : Sizes) (lines : ℕ) (values : List ℤ) (marks : List ℕ) : Type 0 where
  pub lines≤ : lines ≤ 64
  pub values_room : scratch s lines ≤ length values
  pub marks_room : scratch s lines ≤ length marks

-- the exchanges and messages of the finished steps
abbrev pub counts_of : Machine → Sizes → List (Step × List Cell) → Counts
counts_of m s trace = record { exchanges = exchanges_by m trace; messages = messages_by m s trace }

-- the refusal, and no place but for 21; where there is none the file holds the cells at the end
abbrev pub EndsBy : Sizes → Ending → List Cell → List ℕ → RunAnswer → Type 0
EndsBy s complete cells file r = (r ≡ ended_with 0 r.finished r.counts) × (file ≡ file_of s cells)
EndsBy s exhausted cells file r = r ≡ ended_with 20 r.finished r.counts
EndsBy s (offended x) cells file r = r ≡ stopped_at r.finished r.counts x.row x.column

-- a run as the code tells it
pub record EndsAs (m : Machine) (s : Sizes) (x : Run) (file : List ℕ) (r : RunAnswer) : Type 0 where
  pub finished_is : r.finished ≡ length x.trace
  pub counts_are : r.counts ≡ counts_of m s x.trace
  pub ends_by : EndsBy s x.ending x.cells file r

-- the run of a program from the register in a file on
abbrev pub Ends : Machine → Sizes → Program → ℕ → List ℕ → List ℕ → RunAnswer → Type 0
Ends m s p budget file file' r = EndsAs m s (run s (direct s) p budget (cells_of_file s file)) file' r
