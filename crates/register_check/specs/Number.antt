-- Document 01's numbers of refusals.
use Rattle.std.specs.Prelude.{ℕ, Result, Ok, Err}
use Rattle.register_check.specs.declared.Refusal.{Refusal}
use Rattle.register_check.specs.declared.Refusal.TheVariants.{Length, SizeLimit, Mark, MissingValue, Reference}

-- the number of each refusal, and that of a check, 0 where it passes
unfoldable pub refusal_number : Refusal → ℕ
refusal_number Length = 1
refusal_number SizeLimit = 2
refusal_number Mark = 3
refusal_number MissingValue = 4
refusal_number Reference = 5

unfoldable pub check_number : Result (Unit {0}) Refusal → ℕ
check_number (Ok _) = 0
check_number (Err r) = refusal_number r
