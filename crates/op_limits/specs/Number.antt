-- Document 01's numbers of refusals, and the outcome of an answer that may be one.
use Rattle.std.specs.Prelude.{ℕ, Result, Ok, Err}
use Rattle.laws.specs.Outcome.{Outcome, done, refused}
use Rattle.register_check.specs.Number as C
use Rattle.text_refusals.specs.Number as T
use Rattle.op_limits.specs.declared.Refusal.{Refusal}
use Rattle.op_limits.specs.declared.Refusal.TheVariants.{Register, TextLength, Text, Step, Output, Scratch}

unfoldable pub refusal_number : Refusal → ℕ
refusal_number (Register r) = C.refusal_number r
refusal_number TextLength = 6
refusal_number (Text r) = T.refusal_number r
refusal_number Step = 17
refusal_number Output = 18
refusal_number Scratch = 19

-- a refusal that names no line
unfoldable pub outcome_of : {A : Type 0} → Result A Refusal → Outcome A
outcome_of (Ok a) = done a
outcome_of (Err r) = refused (refusal_number r) 0

-- the number of a refusal, 0 where there is none
unfoldable pub check_number : Result (Unit {0}) Refusal → ℕ
check_number (Ok _) = 0
check_number (Err r) = refusal_number r
