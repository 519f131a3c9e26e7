-- `register::cells::marks_part` meets its contract.
use Rattle.register.proofs.Loading.{marks_cut}
use Rattle.register.proofs.cells.marks_part.Goals as goal

pub returns : goal.returns
returns c = let a = c.args in marks_cut a.file.now a.sizes c.cell_count.result c.cell_count.ensures
