-- `plan_keys::key::read` meets its contract.
use native.Mathlib.Omega.{arith}
use Rattle.plan_keys.proofs.Words.{packed_small}
use Rattle.plan_keys.proofs.Keys.{fact-read}
use Rattle.plan_keys.proofs.key.read.Goals as goal

pub overflow_mul-result : goal.overflow_mul-result
overflow_mul-result c = omega (arith, packed_small c.args.chain 16 c.requires)

pub overflow_add-result : goal.overflow_add-result
overflow_add-result c = omega (arith, packed_small c.args.chain 16 c.requires)

pub returns : goal.returns
returns c = fact-read c.args.chain
