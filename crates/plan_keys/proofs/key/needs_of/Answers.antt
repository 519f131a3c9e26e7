-- `plan_keys::key::needs_of` meets its contract.
use mathlib.Core.Path.{sym, ap, ◌∙◌}
use native.Mathlib.Omega.{arith}
use Rattle.plan_theory.specs.Plan.{back, read, front as frontOf, rest as rest_of}
use Rattle.plan_keys.proofs.Keys.{fact-word, fact-back, fact-read, front_small, rest_small}
use Rattle.plan_keys.proofs.key.needs_of.Goals as goal

pub split-halves-requires : goal.split-halves-requires
split-halves-requires c = rw (← fact-word c.args.key) c.requires

pub overflow_mul-result : goal.overflow_mul-result
overflow_mul-result c = omega (arith, front_small c.args.key _ c.requires c.split-halves.ensures.front-is)

pub overflow_mul-result-2 : goal.overflow_mul-result-2
overflow_mul-result-2 c = omega (arith, rest_small c.args.key _ c.requires c.split-halves.ensures.rest-is)

pub overflow_add-result : goal.overflow_add-result
overflow_add-result c = omega (arith, rest_small c.args.key _ c.requires c.split-halves.ensures.rest-is)

pub returns : goal.returns
returns c =
    let halves = c.split-halves.result in
    record {
      back_is = fact-back halves.front ∙ ap back (c.split-halves.ensures.front-is ∙ ap frontOf (sym (fact-word c.args.key)));
      read_is = fact-read halves.rest ∙ ap read (c.split-halves.ensures.rest-is ∙ ap rest_of (sym (fact-word c.args.key)));
    }
