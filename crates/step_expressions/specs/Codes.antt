-- A code at a record.
use Rattle.std.specs.Prelude.{ℕ, cond, List, eqb, ℤ, Some, Ok}
use Rattle.register.specs.declared.Sizes.{Sizes}
use Rattle.register.specs.declared.cells.Cell.{Cell}
use Rattle.program.specs.Code.{kind_in, location_in, number_in}
use Rattle.step_terms.specs.Found.{found_at}
use Rattle.step_operations.specs.Evaluated.{Evaluated}

-- what record u finds for a code that is a chain or a number
unfoldable pub term_at : Sizes → List Cell → List ℤ → List ℕ → ℕ → ℕ → Evaluated
term_at s cells values marks u c = cond (eqb (kind_in c) 0) (Ok (found_at s cells values marks u (location_in c))) (Ok (Some (number_in c)))
