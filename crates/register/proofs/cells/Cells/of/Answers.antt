-- `register::cells::Cells::of` meets its contract: the two parts of a file of these sizes have their lengths.
use Rattle.register.proofs.Loading.{file-parts}
use Rattle.register.proofs.cells.Cells.of.Goals as goal

pub invariant_of-result : goal.invariant_of-result
invariant_of-result c = record { parts = rw (c.values_part.ensures, c.marks_part.ensures) (file-parts c.args.file.now c.args.sizes c.requires.0 c.requires.1) }
