-- `chain::follow::field_index` meets its contract: the cell of a column of a record.
use mathlib.Core.Path.{◌∙◌, ap}
use Rattle.register.specs.File.{cell_index}
use Rattle.register.proofs.Bounds.{cell_index-below}
use Rattle.chain.proofs.Fields.{field_below}
use Rattle.chain.proofs.Following.{column-below}
use Rattle.chain.proofs.follow.field_index.Goals as goal

pub column-requires : goal.column-requires
column-requires c =
    (c.requires.0.references≤, field_below c.args.sizes c.requires.0 c.args.field c.requires.2)

pub cell_index-requires : goal.cell_index-requires
cell_index-requires c =
    let s = c in
    (s.requires.0, s.requires.1, rw c.column.ensures (column-below s.args.sizes s.requires.0 s.args.field s.requires.2))

pub returns : goal.returns
returns c =
    let s = c in
    let e = c.cell_index.ensures ∙ ap (cell_index s.args.sizes s.args.u) c.column.ensures in
    (e, rw e (cell_index-below s.args.sizes s.args.u _ s.requires.1 (column-below s.args.sizes s.requires.0 s.args.field s.requires.2)))
