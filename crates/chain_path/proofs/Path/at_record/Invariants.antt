-- `chain_path::Path::at_record` meets its contract. The loop's invariant: the hops noted and those still to come are the
-- whole path, and the reading reached is underway as in `chain::follow`.
use mathlib.Core.Path.{◌≡◌}
use mathlib.Core.Bool.{true}
use lib.ListN.{length}
use Rattle.register.specs.View.{cells_in}
use Rattle.chain.specs.Word.{readable, value_at_record, unpack}
use Rattle.chain.proofs.Following.{Underway}
use Rattle.chain_path.specs.Path.{path_at_record}
use Rattle.chain_path.proofs.Walking.{Walking}
use Rattle.chain_path.proofs.Path.at_record.Given as goal

abbrev pub invariant-loop-rest : goal.invariant-loop-rest
invariant-loop-rest l =
    let s = l.cells.sizes in
    let cells = cells_in l.cells in
    (readable s (unpack l.rest) ≡ true)
    × Underway s cells (value_at_record s cells (unpack l.chain) l.u) (unpack l.rest) l.reading
    × Walking s cells (path_at_record s cells (unpack l.chain) l.u) (unpack l.rest) l.reading l.path

abbrev pub decreases-loop-rest : goal.decreases-loop-rest
decreases-loop-rest l = length (unpack l.rest)
