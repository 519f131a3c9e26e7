-- `plan_keys::key::chain_of` meets its contract.
use mathlib.Core.Path.{sym}
use Rattle.plan_keys.proofs.Keys.{fact-word}
use Rattle.plan_keys.proofs.key.chain_of.Goals as goal

pub returns : goal.returns
returns c = sym (fact-word _)
