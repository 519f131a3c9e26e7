-- Document 01's numbers of refusals.
use Rattle.std.specs.Prelude.{ℕ, Result, Ok, Err}
use Rattle.text_refusals.specs.declared.Refusal.{Refusal}
use Rattle.text_refusals.specs.declared.Refusal.TheVariants.{Form, Place, Field, Kind, Hops, Range, Limit, Sort, Lines, Depth, Operators}

-- the number of each refusal, and that of a check, 0 where it passes
unfoldable pub refusal_number : Refusal → ℕ
refusal_number Form = 7
refusal_number Place = 8
refusal_number Field = 9
refusal_number Kind = 10
refusal_number Hops = 11
refusal_number Range = 12
refusal_number Limit = 13
refusal_number Sort = 14
refusal_number Lines = 15
refusal_number Depth = 24
refusal_number Operators = 25

unfoldable pub check_number : Result (Unit {0}) Refusal → ℕ
check_number (Ok _) = 0
check_number (Err r) = refusal_number r
