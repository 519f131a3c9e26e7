-- `chain::follow::follow` meets its contract. The loop's invariant: following what is left from the reading reached gives the same reading.
use mathlib.Core.Path.{◌≡◌}
use mathlib.Core.Bool.{true}
use lib.ListN.{length}
use Rattle.register.specs.View.{cells_in}
use Rattle.chain.specs.Word.{readable, value_at_record, unpack}
use Rattle.chain.proofs.Following.{Underway}
use Rattle.chain.proofs.follow.follow.Given as goal

abbrev pub invariant-loop-rest : goal.invariant-loop-rest
invariant-loop-rest l = (readable l.cells.sizes (unpack l.rest) ≡ true) × Underway l.cells.sizes (cells_in l.cells) (value_at_record l.cells.sizes (cells_in l.cells) (unpack l.chain) l.u) (unpack l.rest) l.reading

abbrev pub decreases-loop-rest : goal.decreases-loop-rest
decreases-loop-rest l = length (unpack l.rest)
