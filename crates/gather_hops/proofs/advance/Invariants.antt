-- `gather_hops::advance` meets its contract. The loop's invariant: the places of the records passed are one hop on.
use Rattle.register.specs.View.{cells_in}
use Rattle.gather_hops.specs.Hopped.{Hopped}
use Rattle.gather_hops.proofs.advance.Given as goal

abbrev pub invariant-loop-u : goal.invariant-loop-u
invariant-loop-u l = Hopped l.cells.sizes (cells_in l.cells) l.field l.first l.u l.initial.values l.initial.marks l.values l.marks
