-- `plan_keys::word::rest` meets its contract. The loop's invariant: what is left is behind as many hops as turns are done.
use Prim.Native.Nat.{◌-◌, ◌≤◌}
use mathlib.Core.Path.{◌≡◌}
use lib.ListN.{drop}
use Rattle.chain.specs.Word.{unpack}
use Rattle.plan_keys.proofs.word.rest.Given as goal

abbrev pub invariant-loop : goal.invariant-loop
invariant-loop l = (l.counter ≤ l.h) × (unpack l.left ≡ drop l.counter (unpack l.chain))

abbrev pub decreases-loop : goal.decreases-loop
decreases-loop l = l.h - l.counter
