-- `gather_exchanges::field_of` meets its contract.
use mathlib.Core.Path.{sym, ap, ◌∙◌}
use native.Mathlib.Omega.{arith}
use Rattle.plan_theory.specs.Plan.{word}
use Rattle.plan_keys.proofs.Keys.{hops_long, hops-short}
use Rattle.gather_exchanges.proofs.Held.{needed-one, needed-rest, field-some, field_is}
use Rattle.gather_exchanges.proofs.field_of.Goals as goal

pub first_hop-requires : goal.first_hop-requires
first_hop-requires c =
    field-some _ _ (c.chain_of.ensures ∙ sym (needed-one _ (hops-short _ c.if-key-le-ONE_HOP.true))) c.requires.0

pub returns-then-key-le-ONE_HOP : goal.returns-then-key-le-ONE_HOP
returns-then-key-le-ONE_HOP c =
    field_is _ _ (c.chain_of.ensures ∙ sym (needed-one _ (hops-short _ c.if-key-le-ONE_HOP.true))) c.first_hop.ensures

pub needs_of-requires : goal.needs_of-requires
needs_of-requires c = (hops_long _ (omega (arith, c.if-key-le-ONE_HOP.false)), c.requires.1)

-- the packed word that the writer has to know is the rest of the line's own
pub first_hop-requires-2 : goal.first_hop-requires-2
first_hop-requires-2 c =
    field-some _ _
    (c.chain_of-2.ensures ∙ ap word c.needs_of.ensures.read_is ∙ sym (needed-rest _ (hops_long _ (omega (arith, c.if-key-le-ONE_HOP.false)))))
    c.requires.0

pub returns : goal.returns
returns c =
    field_is _ _
    (c.chain_of-2.ensures ∙ ap word c.needs_of.ensures.read_is ∙ sym (needed-rest _ (hops_long _ (omega (arith, c.if-key-le-ONE_HOP.false)))))
    c.first_hop-2.ensures
