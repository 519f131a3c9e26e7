-- `step_rules::local::perform` meets its contract: it stores what a rule stores, or stops where its sum is out of range.
use mathlib.Core.Path.{subst, ◌∙◌}
use mir.Syntax.{w32}
use mir.Val.{SFits}
use Rattle.integers.proofs.Complement.{kept}
use Rattle.chain.proofs.Fields.{field_below}
use Rattle.step_rules.specs.Ready.{WritesField}
use Rattle.step_rules.proofs.Locals.{rule_idles, rule-offends, rule-stores}
use borrow.Author.Rules.{rules}
use Rattle.step_rules.proofs.local.perform.Goals as goal

pub store-requires : goal.store-requires
store-requires c = (c.requires.0, c.requires.1, subst (WritesField c.args.sizes) c.in-Store.is c.requires.2, c.requires.3)

pub column-requires : goal.column-requires
column-requires c =
    (c.requires.0.references≤, field_below c.args.sizes c.requires.0 _ (subst (WritesField c.args.sizes) c.in-OutOfRange.is c.requires.2))

pub returns-in-Nothing : goal.returns-in-Nothing
returns-in-Nothing c read r e field = rule_idles _ _ _ _ _ _ _ (e ∙ c.in-Nothing.is)

pub returns-in-Store : goal.returns-in-Store
returns-in-Store c read r e field =
    let p = c.requires in
    let z = c.in-Store.value in
    let fits : SFits w32 z = search rules in
    rule-stores _ _ _ _ _ _ _ _ z (e ∙ c.in-Store.is) p.0 p.1 field p.3 (rw (kept z fits.sfits) at c.store.ensures) fits

pub returns-in-OutOfRange : goal.returns-in-OutOfRange
returns-in-OutOfRange c read r e field = rw c.column.ensures (rule-offends _ _ _ _ _ _ _ (e ∙ c.in-OutOfRange.is))
