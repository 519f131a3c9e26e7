-- What is read on the way of a chain, in the order in which the cells are reached.
use Rattle.std.specs.Prelude.{None, Some}
use Rattle.std.specs.Prelude.{ℕ, Bool, true, false, ◌&&◌, List, [], ◌∷◌}
use Rattle.register.specs.declared.Sizes.{Sizes}
use Rattle.register.specs.declared.cells.Cell.{Cell}
use Rattle.chain.specs.Reading.{Reading}
use Rattle.chain.specs.Word.{hop}

-- what is read by each hop
unfoldable pub way : Sizes → List Cell → Reading → List ℕ → List Reading
way s cells x [] = []
way s cells x (f ∷ w) = hop s cells x f ∷ way s cells (hop s cells x f) w

-- whether a value is read: "filled"
unfoldable pub is_filled : Reading → Bool
is_filled None = false
is_filled (Some z) = true

-- whether each of these has a value
unfoldable pub all_filled : List Reading → Bool
all_filled [] = true
all_filled (x ∷ xs) = is_filled x && all_filled xs
