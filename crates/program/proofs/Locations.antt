-- Where words are found, by their hops.
use Prim.Native.Nat.{ℕ, ◌≤◌}
use mathlib.Core.Path.{◌≡◌, refl}
use mathlib.Core.List.{List, [], ◌∷◌}
use native.Mathlib.Omega.{arith}
use lib.ListN.{length}
use Rattle.plan_theory.specs.Plan.{Fact, read, line_index}
use Rattle.program.specs.declared.location.Location.TheVariants.{Line}
use Rattle.program.specs.Location.{location_of}

pub location_line : (l : List Fact) (w : List ℕ) → 2 ≤ length w → location_of l w ≡ Line (line_index l (read w))
unfolding location_of
location_line l [] h = absurd (omega arith)
location_line l (f ∷ []) h = absurd (omega arith)
location_line l (f ∷ g ∷ w) h = refl
