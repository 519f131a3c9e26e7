-- `gather_hops::fill_line` meets its contract. The loop's invariant: the places are underway, with the rest of the chain to follow.
use lib.ListN.{length}
use Rattle.register.specs.View.{cells_in}
use Rattle.chain.specs.Word.{unpack}
use Rattle.gather_hops.proofs.Hopping.{LineUnderway}
use Rattle.gather_hops.proofs.fill_line.Given as goal

abbrev pub invariant-loop-rest : goal.invariant-loop-rest
invariant-loop-rest l = LineUnderway l.cells.sizes (cells_in l.cells) (unpack l.chain) l.first (unpack l.rest) l.initial.values l.initial.marks l.values l.marks

abbrev pub decreases-loop-rest : goal.decreases-loop-rest
decreases-loop-rest l = length (unpack l.rest)
