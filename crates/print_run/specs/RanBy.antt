-- What the program has of the run that is printed.
use Rattle.std.specs.Prelude.{◌≡◌, List, ℕ, ℤ}
use Rattle.machine_messages.specs.declared.Machine.TheVariants.{Messages}
use Rattle.run_steps.specs.declared.RunAnswer.{RunAnswer}
use Rattle.op_run.specs.Answer.{Answered}
use Rattle.print_listing.specs.declared.Ran.{Ran}
use Rattle.print_run.specs.Page.{printed_run}

-- what is printed of an answer: "records, finished steps, exchanges, letters", or the refusal with its line
abbrev pub ran_of : RunAnswer → Ran
ran_of a = record { refusal = a.refusal; line = a.line; finished = a.finished; exchanges = a.counts.exchanges; letters = a.counts.messages }

-- the answer of that run over some scratch buffers
pub record RanBy (file text out out' : List ℕ) (r : Ran) : Type 0 where
  pub answer : RunAnswer
  pub values : List ℤ
  pub marks : List ℕ
  pub values' : List ℤ
  pub marks' : List ℕ
  pub answered : Answered Messages (printed_run file text) file out values marks out' values' marks' answer
  pub numbers : r ≡ ran_of answer
