-- Demand 2 about the definition that the contract of `reading` cites: a reading is filled exactly when every cell on the
-- way is filled, and at `u` alone it is the record's own number.
use Rattle.std.specs.Prelude.{None, Some}
use Prim.Native.Nat.{ℕ}
use mathlib.Core.Path.{◌≡◌, refl}
use mathlib.Core.Bool.{Bool, true, false, ◌&&◌}
use mathlib.Core.List.{List, [], ◌∷◌}
use lib.IntN.{pos}
use Rattle.register.specs.declared.Sizes.{Sizes}
use Rattle.register.specs.declared.cells.Cell.{Cell}
use Rattle.chain.specs.Reading.{Reading}
use Rattle.chain.specs.Word.{hop, follow, value_at_record}
use Rattle.chain.specs.Way.{way, is_filled, all_filled}

and-end : (a : Bool) → a ≡ a && true
and-end true = refl
and-end false = refl

-- from nothing nothing is reached; from a value, what the rest of the way gives
filled-from : (s : Sizes) (cells : List Cell) (x : Reading) (w : List ℕ) → is_filled (follow s cells x w) ≡ is_filled x && all_filled (way s cells x w)
unfolding follow way all_filled is_filled hop
filled-from s cells x [] = and-end (is_filled x)
filled-from s cells None (f ∷ w) = filled-from s cells None w
filled-from s cells (Some z) (f ∷ w) = filled-from s cells (hop s cells (Some z) f) w

-- "It is filled exactly when every cell on the way is filled, and a measured zero is filled."
pub filled_exactly : (s : Sizes) (cells : List Cell) (w : List ℕ) (u : ℕ) → is_filled (value_at_record s cells w u) ≡ all_filled (way s cells (Some (pos u)) w)
unfolding value_at_record is_filled
filled_exactly s cells w u = filled-from s cells (Some (pos u)) w

-- ".. and at `u` alone the record's own number"
pub own_number : (s : Sizes) (cells : List Cell) (u : ℕ) → value_at_record s cells [] u ≡ Some (pos u)
unfolding value_at_record follow
own_number s cells u = refl
