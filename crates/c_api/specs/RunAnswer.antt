-- A run as the numbers of the C interface.
use Rattle.std.specs.Prelude.{◌≡◌, List, ℕ, ℤ}
use Rattle.laws.specs.Outcome.{Outcome}
use Rattle.machine.specs.Run.{Run}
use Rattle.machine_messages.specs.declared.Machine.{Machine}
use Rattle.op_run.specs.Answer.{Answered}
use Rattle.run_steps.specs.declared.RunAnswer.{RunAnswer}
use Rattle.api_answer.specs.Numbers.{run_numbers}

-- what a run by a machine answers: its result and its answer array are those of the answer of this outcome
pub record RunCalled (m : Machine) (o : Outcome Run) (file out : List ℕ) (values : List ℤ) (marks : List ℕ) (out' : List ℕ) (values' : List ℤ) (marks' : List ℕ) (result : ℕ) (answer : List ℕ) : Type 0 where
  pub ran : RunAnswer
  pub answered : Answered m o file out values marks out' values' marks' ran
  pub result_is : result ≡ ran.refusal
  pub answer_is : answer ≡ run_numbers ran
