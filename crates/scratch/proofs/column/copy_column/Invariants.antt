-- `scratch::column::copy_column` meets its contract. The loop's invariant: the cells of the records passed are stored.
use Rattle.register.specs.View.{cells_in}
use Rattle.chain.specs.Word.{read_cell}
use Rattle.scratch.specs.Places.{StoredFrom}
use Rattle.scratch.proofs.column.copy_column.Given as goal

abbrev pub invariant-loop-u : goal.invariant-loop-u
invariant-loop-u l = StoredFrom l.at l.u (λ k. read_cell l.cells.sizes (cells_in l.cells) k l.field) l.initial.values l.initial.marks l.values l.marks
