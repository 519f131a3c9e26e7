-- What the check answers.
use Rattle.std.specs.Prelude.{ℕ, ◌≡◌, List, Result, Ok, Err, IfOk}
use Rattle.laws.specs.Outcome.{Outcome, done, refused}
use Rattle.program.specs.Kept.{program_of, Complete}
use Rattle.program.specs.Program.{Program}
use Rattle.program.specs.declared.Program as R
use Rattle.op_limits.specs.Number.{refusal_number}
use Rattle.op_check.specs.declared.check.Refused.{Refused}

-- the outcome of a check, with the codes beside the rules
unfoldable pub check_outcome : List ℕ → Result R.Program Refused → Outcome Program
check_outcome codes (Ok p) = done (program_of codes p)
check_outcome codes (Err r) = refused (refusal_number r.refusal) r.line

-- an answer of this outcome, with all that is kept beside a program that passed
pub record Answers (codes : List ℕ) (o : Outcome Program) (r : Result R.Program Refused) : Type 0 where
  pub outcome_is : check_outcome codes r ≡ o
  pub complete : IfOk r (λ p. Complete codes p)

-- an answer of this outcome, with some codes beside its program
pub record Checks (o : Outcome Program) (r : Result R.Program Refused) : Type 0 where
  pub codes : List ℕ
  pub answers : Answers codes o r
