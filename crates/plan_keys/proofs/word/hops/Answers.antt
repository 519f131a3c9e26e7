-- `plan_keys::word::hops` meets its contract. The loop's invariant: the hops counted and those left are those of the chain.
use Rattle.plan_keys.proofs.Words.{hops-none, hops-pos, hops_le, hops-tail}
use Prim.Native.Nat.{ℕ}
use mathlib.Core.Path.{ap}
use native.Mathlib.Omega.{arith}
use lib.ListN.{length}
use Rattle.chain.specs.Word.{unpack}
use Rattle.plan_keys.proofs.word.hops.Goals as goal

pub overflow_add-count : goal.overflow_add-count
overflow_add-count c = omega (arith, c.loop-left.invariant, hops-pos _ c.loop-left-test.true, hops_le c.args.chain)

pub loop-left-smaller : goal.loop-left-smaller
loop-left-smaller c = omega (arith, hops-tail _ _ c.rest_hops-left.ensures c.loop-left-test.true)

pub loop-left-preserved : goal.loop-left-preserved
loop-left-preserved c = omega (arith, hops-tail _ _ c.rest_hops-left.ensures c.loop-left-test.true)

pub returns : goal.returns
returns c = omega (arith, hops-none, ap (λ (n : ℕ). length (unpack n)) c.loop-left-test.false)
