-- What the look answers, and what it leaves in the caller's buffers.
use Rattle.std.specs.Prelude.{◌≡◌, List, ℕ, ℤ, length}
use Rattle.laws.specs.Outcome.{Outcome, done, refused}
use Rattle.register.specs.File.{sizes_of, cells_of_file}
use Rattle.plan_theory.specs.Plan.{Fact}
use Rattle.op_show.specs.Shown.{Shown}
use Rattle.op_inspect.specs.declared.InspectAnswer.{InspectAnswer}

-- a refusal
abbrev pub inspect_refusal : ℕ → ℕ → InspectAnswer
inspect_refusal refusal line = record { refusal = refusal; line = line; lines = 0 }

-- a step of this many lines
abbrev pub shown_lines : ℕ → InspectAnswer
shown_lines lines = record { refusal = 0; line = 0; lines = lines }

-- "over the register as loaded"
pub record StepAnswered (l : List Fact) (file : List ℕ) (t : ℕ) (values : List ℤ) (marks : List ℕ) (values' : List ℤ) (marks' : List ℕ) (r : InspectAnswer) : Type 0 where
  pub answer_is : r ≡ shown_lines (length l)
  pub shown : Shown (sizes_of file) (cells_of_file (sizes_of file) file) l t values marks values' marks'

-- "Nothing lent is written."
pub record InspectRefused (n k : ℕ) (values : List ℤ) (marks : List ℕ) (values' : List ℤ) (marks' : List ℕ) (r : InspectAnswer) : Type 0 where
  pub answer_is : r ≡ inspect_refusal n k
  pub values_same : values' ≡ values
  pub marks_same : marks' ≡ marks

-- an outcome as the caller sees it: the answer, and what its buffers hold then
abbrev pub InspectAnswered : Outcome (List Fact) → List ℕ → ℕ → List ℤ → List ℕ → List ℤ → List ℕ → InspectAnswer → Type 0
InspectAnswered (done l) file t values marks values' marks' r = StepAnswered l file t values marks values' marks' r
InspectAnswered (refused n k) file t values marks values' marks' r = InspectRefused n k values marks values' marks' r
