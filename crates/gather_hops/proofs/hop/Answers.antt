-- `gather_hops::hop` meets its contract: the place names a record, and the cell of that record is copied to it.
use mathlib.Core.Path.{◌≡◌, sym, ap, ◌∙◌}
use borrow.Author.Rules.{rules}
use lib.IntN.{nat_abs}
use Rattle.integers.proofs.Complement.{kept}
use Prim.Native.Nat.{◌<◌}
use native.Mathlib.Omega.{arith}
use Rattle.register.specs.File.{cell_index, cell_count}
use Rattle.register.specs.View.{cells_in}
use Rattle.register.proofs.Bounds.{cell_index-below}
use Rattle.chain.proofs.Following.{named-index, named-below}
use Rattle.scratch.proofs.Storing.{stored-left, copied-one}
use Rattle.gather_hops.specs.Hopped.{referred}
use Rattle.gather_hops.proofs.hop.Goals as goal

pub returns-in_default : goal.returns-in_default
unfolding referred
returns-in_default c =
    let none = sym c.read_at.ensures ∙ c.in_default.is in
    rw none (rw none at (stored-left c.args.j c.args.values.now c.args.marks.now c.requires.3))

pub index-v-requires : goal.index-v-requires
index-v-requires c = rw (kept c.in-Some.number (search rules)) (named-index _ _ (sym c.in-Some.ensures) c.requires.4)

pub cell_index-requires : goal.cell_index-requires
cell_index-requires c =
    let index_is : c.index-v.result ≡ nat_abs c.in-Some.number = c.index-v.ensures ∙ ap nat_abs (kept c.in-Some.number (search rules)) in
    (c.args.cells.now.parts.limits, rw index_is (named-below _ _ (sym c.in-Some.ensures) c.requires.4), c.requires.0)

pub copy_cell-requires : goal.copy_cell-requires
copy_cell-requires c =
    let index_is : c.index-v.result ≡ nat_abs c.in-Some.number = c.index-v.ensures ∙ ap nat_abs (kept c.in-Some.number (search rules)) in
    let below = named-below _ _ (sym c.in-Some.ensures) c.requires.4 in
    let inside : c.cell_index.result < cell_count c.args.cells.now.sizes =
    rw (c.cell_index.ensures, index_is) (cell_index-below c.args.cells.now.sizes _ _ below c.requires.0) in
    let parts = c.args.cells.now.parts in
    (omega (arith, inside, parts.values_length), omega (arith, inside, parts.marks_length), c.requires.1, c.requires.2)

pub returns : goal.returns
unfolding referred cells_in
returns c =
    let cells = c.args.cells.now in
    let index_is : c.index-v.result ≡ nat_abs c.in-Some.number = c.index-v.ensures ∙ ap nat_abs (kept c.in-Some.number (search rules)) in
    let place : c.cell_index.result ≡ cell_index cells.sizes (nat_abs c.in-Some.number) c.args.column = rw index_is at c.cell_index.ensures in
    let below = named-below _ _ (sym c.in-Some.ensures) c.requires.4 in
    let copied = c.copy_cell.ensures in
    rw (copied.0, copied.1, ← c.in-Some.ensures)
    (copied-one cells.parts _ _ below c.requires.0 _ place copied.2 _ _ _ c.requires.1 c.requires.2)
