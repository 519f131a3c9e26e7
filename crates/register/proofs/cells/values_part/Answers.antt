-- `register::cells::values_part` meets its contract.
use Rattle.register.proofs.Loading.{values_cut}
use Rattle.register.proofs.cells.values_part.Goals as goal

pub returns : goal.returns
returns c = let a = c.args in values_cut a.file.now a.sizes c.cell_count.result c.cell_count.ensures
