-- `chain::follow::read_cell` meets its contract: what is read of the cell of a field of a record.
use mathlib.Core.Path.{◌∙◌, ap}
use Rattle.register.specs.View.{cells_in}
use Rattle.chain.specs.Word.{read_of, read_cell}
use Rattle.chain.proofs.Following.{cell_field}
use Rattle.chain.proofs.follow.read_cell.Goals as goal

pub returns : goal.returns
unfolding read_cell cells_in
returns c =
    let cells = c.args.cells.now in
    c.reading_at.ensures
    ∙ ap read_of
    (cell_field cells.sizes cells.values.now cells.marks.now cells.parts c.args.u c.args.field _ c.requires.0 c.requires.1 c.field_index.ensures.0)
