-- `scratch::column::copy_column` meets its contract. The loop's invariant: the cells of the records passed are stored.
use mathlib.Core.Path.{◌≡◌, refl, ap, ◌∙◌}
use native.Mathlib.Omega.{arith}
use Rattle.register.specs.View.{cells_in}
use Prim.Native.Nat.{◌<◌}
use Rattle.register.specs.File.{cell_index, cell_count}
use Rattle.register.proofs.Bounds.{cell_index-below}
use Rattle.chain.specs.Word.{column, read_cell}
use Rattle.chain.proofs.Following.{column-below}
use Rattle.chain.proofs.Fields.{field_below}
use Rattle.scratch.proofs.Storing.{stored-none, stored_more, copied-one}
use Rattle.scratch.proofs.column.copy_column.Goals as goal
use Rattle.scratch.proofs.column.copy_column.Goals.{After-cell_index}

pub column-column-requires : goal.column-column-requires
column-column-requires c =
    let limits = c.args.cells.now.parts.limits in
    (limits.references≤, field_below _ limits _ c.requires.0)

pub loop-u-init : goal.loop-u-init
loop-u-init c = stored-none _ _ _ _

pub cell_index-requires : goal.cell_index-requires
cell_index-requires c =
    let limits = c.args.cells.now.parts.limits in
    (limits, c.loop-u-test.true, rw c.column-column.ensures (column-below _ limits _ c.requires.0))

pub copy_cell-requires : goal.copy_cell-requires
copy_cell-requires c =
    let cells = c.args.cells.now in
    let inside = column-below _ cells.parts.limits _ c.requires.0 in
    let below : c.cell_index.result < cell_count cells.sizes =
    rw (c.cell_index.ensures, c.column-column.ensures) (cell_index-below cells.sizes c.loop-u.u _ c.loop-u-test.true inside) in (
      omega (arith, below, cells.parts.values_length),
      omega (arith, below, cells.parts.marks_length),
      omega (arith, c.loop-u.invariant.values_length),
      omega (arith, c.loop-u.invariant.marks_length),
    )

pub loop-u-preserved : goal.loop-u-preserved
unfolding read_cell cells_in
loop-u-preserved c =
    let cells = c.args.cells.now in
    let inside = column-below _ cells.parts.limits _ c.requires.0 in
    let place : c.cell_index.result ≡ cell_index cells.sizes c.loop-u.u (column cells.sizes c.args.field) = c.cell_index.ensures ∙ ap (cell_index _ _) c.column-column.ensures in
    let copied = c.copy_cell.ensures in
    rw (copied.0, copied.1)
    (stored_more c.loop-u.invariant
    (copied-one cells.parts _ _ c.loop-u-test.true inside _ place copied.2 _ _ _ (omega (arith, c.loop-u.invariant.values_length)) (omega (arith, c.loop-u.invariant.marks_length)))
    refl)

pub returns : goal.returns
returns c =
    let e : c.loop-u.u ≡ c.args.cells.now.sizes.records = omega arith in
    rw e at c.loop-u.invariant
