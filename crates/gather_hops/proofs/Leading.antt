-- Where the reading at a place leads.
use Rattle.std.specs.Prelude.{None, Some}
use Prim.Native.Nat.{ℕ}
use mathlib.Core.Path.{◌≡◌, refl}
use mathlib.Core.List.{List}
use Rattle.register.specs.declared.Sizes.{Sizes}
use Rattle.register.specs.declared.cells.Cell.{Cell}
use Rattle.chain.specs.Reading.{Reading}
use Rattle.chain.specs.Word.{column, read_cell, hop}
use Rattle.gather_hops.specs.Hopped.{referred}

-- a hop is to the column of its field
pub hop-referred : (s : Sizes) (cells : List Cell) (f : ℕ) (x : Reading) → referred s cells (column s f) x ≡ hop s cells x f
unfolding referred hop read_cell
hop-referred s cells f None = refl
hop-referred s cells f (Some z) = refl
