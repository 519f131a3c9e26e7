-- `plan_builder::add_fact` calls itself for the two needs of a fact, which have fewer hops.
use Rattle.plan_theory.specs.Plan.{hops}
use Rattle.plan_keys.specs.Keys.{fact_of}
use Rattle.plan_builder.proofs.+add_fact.Given as goal

abbrev pub decreases-add_fact : goal.decreases-add_fact
decreases-add_fact l = hops (fact_of l.key)
