-- What the operation answers, and what it leaves in the caller's buffers.
use Rattle.std.specs.Prelude.{◌≡◌, List, ℕ, ℤ, length}
use Rattle.laws.specs.Outcome.{Outcome, done, refused}
use Rattle.register.specs.File.{sizes_of, file_of}
use Rattle.register.specs.declared.Sizes.{Sizes}
use Rattle.register.specs.declared.cells.Cell.{Cell}
use Rattle.machine.specs.Run.{Ending, complete, exhausted, offended, Run}
use Rattle.machine_messages.specs.declared.Machine.{Machine}
use Rattle.gather.specs.Counted.{no_counts}
use Rattle.run_steps.specs.Answer.{counts_of, ended_with, stopped_at}
use Rattle.run_steps.specs.declared.RunAnswer.{RunAnswer}
use Rattle.op_run.specs.Direct.{Lengths}

-- the lengths of the lent buffers
abbrev pub lengths : List ℕ → List ℤ → List ℕ → Lengths
lengths out values marks = record { out = length out; values = length values; marks = length marks }

-- a refusal before running
abbrev pub refused_with : ℕ → ℕ → RunAnswer
refused_with refusal line = record { refusal = refusal; line = line; finished = 0; counts = no_counts; row = 0; column = 0 }

-- how a run ended: "The file holds the cells at the end; after 20 or 21 it is the register as loaded."
abbrev pub Ended : Sizes → Ending → List Cell → List ℕ → List ℕ → RunAnswer → Type 0
Ended s complete cells file out r = (r ≡ ended_with 0 r.finished r.counts) × (out ≡ file_of s cells)
Ended s exhausted cells file out r = (r ≡ ended_with 20 r.finished r.counts) × (out ≡ file)
Ended s (offended x) cells file out r = (r ≡ stopped_at r.finished r.counts x.row x.column) × (out ≡ file)

-- a run: its finished steps, what they count by this machine, how it ended, and the output; the scratch buffers keep their lengths
pub record RunAnswered (m : Machine) (x : Run) (file out' : List ℕ) (values : List ℤ) (marks : List ℕ) (values' : List ℤ) (marks' : List ℕ) (r : RunAnswer) : Type 0 where
  pub finished_is : r.finished ≡ length x.trace
  pub counts_are : r.counts ≡ counts_of m (sizes_of file) x.trace
  pub ended : Ended (sizes_of file) x.ending x.cells file out' r
  pub values_length : length values' ≡ length values
  pub marks_length : length marks' ≡ length marks

-- "both before running, .. nothing written"
pub record RefusalAnswered (n k : ℕ) (out : List ℕ) (values : List ℤ) (marks : List ℕ) (out' : List ℕ) (values' : List ℤ) (marks' : List ℕ) (r : RunAnswer) : Type 0 where
  pub answer_is : r ≡ refused_with n k
  pub out_same : out' ≡ out
  pub values_same : values' ≡ values
  pub marks_same : marks' ≡ marks

-- an outcome as the caller sees it: the answer, and what its buffers hold then
abbrev pub Answered : Machine → Outcome Run → List ℕ → List ℕ → List ℤ → List ℕ → List ℕ → List ℤ → List ℕ → RunAnswer → Type 0
Answered m (done x) file out values marks out' values' marks' r = RunAnswered m x file out' values marks values' marks' r
Answered m (refused n k) file out values marks out' values' marks' r = RefusalAnswered n k out values marks out' values' marks' r
