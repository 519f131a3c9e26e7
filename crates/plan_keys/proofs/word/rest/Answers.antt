-- `plan_keys::word::rest` meets its contract. The loop's invariant: what is left is behind as many hops as turns are done.
use Rattle.plan_keys.proofs.Words.{tail-rest}
use mathlib.Core.Path.{◌≡◌, refl}
use native.Mathlib.Omega.{arith}
use Rattle.plan_keys.proofs.word.rest.Goals as goal

pub loop-init : goal.loop-init
loop-init c = (omega arith, refl)

pub loop-preserved : goal.loop-preserved
loop-preserved c = (omega arith, tail-rest _ _ c.args.chain c.loop.counter c.rest_hops-left.ensures c.loop.invariant.1)

pub returns : goal.returns
returns c = let e : c.loop.counter ≡ c.args.h = omega arith in rw (← e) c.loop.invariant.1
