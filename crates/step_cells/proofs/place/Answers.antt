-- `step_cells::place` meets its contract: the working cells stand as those of the register do.
use mathlib.Core.Path.{◌≡◌, ap, ◌∙◌}
use native.Mathlib.Omega.{arith}
use Rattle.register.specs.File.{cell_index}
use Rattle.register.proofs.Bounds.{cell_index-below, cell_count≤}
use Rattle.chain.specs.Word.{column}
use Rattle.chain.proofs.Fields.{field_below}
use Rattle.chain.proofs.Following.{column-below}
use Rattle.step_cells.proofs.place.Goals as goal

pub column-requires : goal.column-requires
column-requires c = (c.requires.0.references≤, field_below c.args.sizes c.requires.0 c.args.field c.requires.2)

pub cell_index-requires : goal.cell_index-requires
cell_index-requires c =
    (c.requires.0, c.requires.1, rw c.column.ensures (column-below c.args.sizes c.requires.0 c.args.field c.requires.2))

pub overflow_add-result : goal.overflow_add-result
overflow_add-result c =
    let index : c.cell_index.result ≡ cell_index c.args.sizes c.args.u (column c.args.sizes c.args.field) =
    c.cell_index.ensures ∙ ap (cell_index c.args.sizes c.args.u) c.column.ensures in
    let below = cell_index-below c.args.sizes c.args.u _ c.requires.1 (column-below c.args.sizes c.requires.0 c.args.field c.requires.2) in
    omega (arith, index, below, cell_count≤ c.requires.0)
