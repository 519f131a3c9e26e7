-- A look as the numbers of the C interface.
use Rattle.std.specs.Prelude.{◌≡◌, List, ℕ, ℤ}
use Rattle.laws.specs.Outcome.{Outcome}
use Rattle.plan_theory.specs.Plan.{Fact}
use Rattle.op_inspect.specs.Answer.{InspectAnswered}
use Rattle.op_inspect.specs.declared.InspectAnswer.{InspectAnswer}
use Rattle.api_answer.specs.Numbers.{inspect_numbers}

-- what `plot_inspect` answers: its result and its answer array are those of the answer of this outcome
pub record InspectCalled (o : Outcome (List Fact)) (file : List ℕ) (t : ℕ) (values : List ℤ) (marks : List ℕ) (values' : List ℤ) (marks' : List ℕ) (result : ℕ) (answer : List ℕ) : Type 0 where
  pub inspected : InspectAnswer
  pub answered : InspectAnswered o file t values marks values' marks' inspected
  pub result_is : result ≡ inspected.refusal
  pub answer_is : answer ≡ inspect_numbers inspected
