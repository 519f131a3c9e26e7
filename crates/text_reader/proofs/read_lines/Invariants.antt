-- The loop's invariant: some state of the definition has been reached, and the arrays, the open step's plan, its wanted lines and what is
-- kept beside them stand for it.
use Prim.Native.Nat.{◌-◌}
use lib.ListN.{length}
use Rattle.text_reader.proofs.Reading.{Read}
use Rattle.text_reader.proofs.read_lines.Given as goal

abbrev pub invariant-loop-at : goal.invariant-loop-at
invariant-loop-at l =
    Read l.scope l.text l.open_step l.codes l.slots l.frames l.state l.used l.at l.line

abbrev pub decreases-loop-at : goal.decreases-loop-at
decreases-loop-at l = length l.text - l.at
