-- `chain_text::text::open_letters` meets its contract. The loop's invariant: what is left from i on comes to the same as the whole.
use Prim.Native.Nat.{◌-◌}
use lib.ListN.{length}
use Rattle.chain_text.proofs.Scanning.{Passed}
use Rattle.chain_text.proofs.text.open_letters.Given as goal

abbrev pub invariant-loop-sizes : goal.invariant-loop-sizes
invariant-loop-sizes l = Passed l.sizes l.initial.seen l.at l.text l.seen l.i

abbrev pub decreases-loop-sizes : goal.decreases-loop-sizes
decreases-loop-sizes l = length l.text - l.i
