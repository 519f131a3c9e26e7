-- What is asked of the caller's buffers before a run, and what they hold then.
use Rattle.std.specs.Prelude.{ℕ, ◌≡◌, cond, List, eqb, ℤ, length, Result, Ok, Err}
use Rattle.machine.specs.Run.{is_short}
use Rattle.op_limits.specs.Number.{check_number}
use Rattle.op_limits.specs.declared.Refusal.{Refusal}

-- "18 output not as long as the register file ..; 19 a working array too short: both before running, 18 first"; 0 for neither
unfoldable pub length_refusal : ℕ → ℕ → ℕ → ℕ → ℕ → ℕ
length_refusal places file out values marks = cond (eqb out file) (cond (is_short places values marks) 19 0) 18

-- the output behind the question: the register where nothing is refused, otherwise "nothing written"
abbrev pub out_behind : Result (Unit {0}) Refusal → List ℕ → List ℕ → List ℕ
out_behind (Ok _) file out = file
out_behind (Err _) file out = out

-- the buffers before and after the question
pub record Readied (places : ℕ) (file out : List ℕ) (values : List ℤ) (marks : List ℕ) (out' : List ℕ) (values' : List ℤ) (marks' : List ℕ) (r : Result (Unit {0}) Refusal) : Type 0 where
  pub refusal_is : check_number r ≡ length_refusal places (length file) (length out) (length values) (length marks)
  pub out_is : out' ≡ out_behind r file out
  pub values_same : values' ≡ values
  pub marks_same : marks' ≡ marks
