-- The path behind a reading: "lists each hop's record, field and cell, stopping at the value or the first gap" (M-109).
use Rattle.std.specs.Prelude.{None, Some}
use Rattle.std.specs.Prelude.{ℕ, ◌<◌, ◌≡◌, List, [], ◌∷◌, pos, nat_abs, length, take}
use Rattle.laws.specs.Lists.{Each}
use Rattle.register.specs.File.{cell_index}
use Rattle.register.specs.declared.Sizes.{Sizes}
use Rattle.register.specs.declared.cells.Cell.{Cell}
use Rattle.chain.specs.Reading.{Reading}
use Rattle.chain.specs.Word.{column, field_cell, read_of, read_cell}
use Rattle.chain_path.specs.declared.Hop.{Hop}
use Rattle.chain_path.specs.declared.Path.{Path}

-- the hop at record u by field f: "each hop's record, field and cell", the cell as the register has it
abbrev pub hop_at : Sizes → List Cell → ℕ → ℕ → Hop
hop_at s cells u f = record { u = u; field = f; cell = field_cell s cells u f }

-- the hops from a reading on; behind a gap there are none
unfoldable pub path : Sizes → List Cell → Reading → List ℕ → List Hop
path s cells x [] = []
path s cells None (f ∷ w) = []
path s cells (Some z) (f ∷ w) = hop_at s cells (nat_abs z) f ∷ path s cells (read_cell s cells (nat_abs z) f) w

-- the path of a chain at record u: "At `u` alone the list is empty."
unfoldable pub path_at_record : Sizes → List Cell → List ℕ → ℕ → List Hop
path_at_record s cells w u = path s cells (Some (pos u)) w

-- what is read at the end of a path: its last cell; with no hop, what was there
unfoldable pub read_behind : Reading → List Hop → Reading
read_behind x [] = x
read_behind x (h ∷ hs) = read_behind (read_of h.cell) hs

-- what a hop shows: the record, the field, and of the cell its value and whether it is filled
abbrev pub shows : Hop → ℕ × ℕ × Reading
shows h = (h.u, h.field, read_of h.cell)

-- these cells agree with a hop's, and with those of each hop: in value and whether filled
abbrev pub AgreesAt : Sizes → List Cell → Hop → Type 0
AgreesAt s cells h = read_cell s cells h.u h.field ≡ read_of h.cell

abbrev pub AgreesOn : Sizes → List Cell → List Hop → Type 0
AgreesOn s cells = Each (AgreesAt s cells)

-- where a hop's cell stands
abbrev pub cell_place : Sizes → Hop → ℕ
cell_place s h = cell_index s h.u (column s h.field)

-- the hops of a path of the code
abbrev pub hops_of : Path → List Hop
hops_of p = take p.count p.hops

-- the path p of the code holds these hops, whose fields have a letter
pub record HoldsPath (p : Path) (hs : List Hop) : Type 0 where
  pub hops_are : hops_of p ≡ hs
  pub places : length p.hops ≡ 16
  pub lettered : Each (λ h. h.field < 16) (hops_of p)
