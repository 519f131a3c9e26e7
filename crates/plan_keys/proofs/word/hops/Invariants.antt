-- `plan_keys::word::hops` meets its contract. The loop's invariant: the hops counted and those left are those of the chain.
use Prim.Native.Nat.{◌+◌}
use mathlib.Core.Path.{◌≡◌}
use lib.ListN.{length}
use Rattle.chain.specs.Word.{unpack}
use Rattle.plan_keys.proofs.word.hops.Given as goal

abbrev pub invariant-loop-left : goal.invariant-loop-left
invariant-loop-left l = l.count + length (unpack l.left) ≡ length (unpack l.chain)

abbrev pub decreases-loop-left : goal.decreases-loop-left
decreases-loop-left l = length (unpack l.left)
