-- `text_scan::scan` meets its contract.
use Prim.Native.Nat.{◌-◌}
use lib.ListN.{length}
use Rattle.text_scan.proofs.Turning.{Scanning}
use Rattle.text_scan.proofs.scan.Given as goal

abbrev pub invariant-loop-state : goal.invariant-loop-state
invariant-loop-state l = Scanning l.sizes l.line l.at l.state

abbrev pub decreases-loop-state : goal.decreases-loop-state
decreases-loop-state l = length l.line - l.state.at
