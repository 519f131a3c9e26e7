-- Readings are retained, hop by hop.
use Rattle.std.specs.Prelude.{None, Some}
use Prim.Native.Nat.{ℕ}
use mathlib.Core.Path.{refl}
use mathlib.Core.List.{List, [], ◌∷◌}
use lib.IntN.{pos, nat_abs}
use Rattle.register.specs.File.{cell_index}
use Rattle.register.specs.declared.Sizes.{Sizes}
use Rattle.register.specs.declared.cells.Cell.{Cell}
use Rattle.chain.specs.Reading.{Reading}
use Rattle.chain.specs.Word.{column, read_cell, hop, follow, value_at_record}
use Rattle.fuller.specs.Fuller.{Retained, Fuller}
use Rattle.fuller.specs.Claims.{ReadingsRetained}

module _ (s : Sizes) {cells cells' : List Cell} (fuller : Fuller cells cells') where
  -- what is read of one cell
  pub cell_retained : (u f : ℕ) → Retained (read_cell s cells u f) (read_cell s cells' u f)
  unfolding read_cell
  cell_retained u f = fuller.retained (cell_index s u (column s f))

  -- one hop: from a value that is retained to the same record
  hop_retained : (x y : Reading) → Retained x y → (f : ℕ) → Retained (hop s cells x f) (hop s cells' y f)
  unfolding hop
  hop_retained None y r f = tt
  hop_retained (Some z) y r f = rw r (cell_retained (nat_abs z) f)

  follow_retained : (x y : Reading) → Retained x y → (w : List ℕ) → Retained (follow s cells x w) (follow s cells' y w)
  unfolding follow
  follow_retained x y r [] = r
  follow_retained x y r (f ∷ w) = follow_retained (hop s cells x f) (hop s cells' y f) (hop_retained x y r f) w

  -- every chain at every record
  pub readings_retained : ReadingsRetained s cells cells'
  unfolding value_at_record
  readings_retained w u = follow_retained (Some (pos u)) (Some (pos u)) refl w
