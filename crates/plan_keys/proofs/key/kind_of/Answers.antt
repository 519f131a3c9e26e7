-- `plan_keys::key::kind_of` meets its contract.
use mathlib.Core.Path.{sym, ap}
use Rattle.plan_keys.specs.Keys.{kind}
use Rattle.plan_keys.proofs.Keys.{fact_even, fact_odd}
use Rattle.plan_keys.proofs.key.kind_of.Goals as goal

pub returns-then-key-eq0 : goal.returns-then-key-eq0
returns-then-key-eq0 c = sym (ap kind (fact_even _ c.if-key-eq0.true))

pub returns-else-key-eq0 : goal.returns-else-key-eq0
returns-else-key-eq0 c = sym (ap kind (fact_odd _ c.if-key-eq0.false))
