-- `text_actions::action::read_local` meets its contract.
use mathlib.Core.Path.{sym, subst, ◌∙◌}
use native.Mathlib.Omega.{arith}
use Rattle.chain_text.proofs.Steps.{capital-low}
use Rattle.text_places.specs.Word.{PassesAssigned}
use Rattle.text_sides.specs.Expression.{ExpressionAt}
use Rattle.text_sides.proofs.Expressions.{codes-inside}
use Rattle.text_actions.proofs.Forms.{no_action, whole-more, local-formed, local-none}
use Rattle.text_actions.proofs.Actions.{local-read}
use Rattle.text_actions.proofs.action.read_local.Goals as goal

pub returns-in_default : goal.returns-in_default
returns-in_default c =
    let v = subst (PassesAssigned _ _) c.in_default.is c.assigned.ensures in
    no_action (v.none _)

pub read-requires : goal.read-requires
read-requires c =
    let p = c.requires in
    let v = subst (PassesAssigned _ _) c.in-Some.is c.assigned.ensures in
    (p.0, v.behind.inside, omega (arith, v.behind.onward, p.3))

pub returns-in_default-read : goal.returns-in_default-read
returns-in_default-read c =
    let v = subst (PassesAssigned _ _) c.in-Some.is c.assigned.ensures in
    no_action (local-none _ v (subst (ExpressionAt _ _ _ _ _ _) c.in_default-read.is c.read.ensures))

pub ends-requires : goal.ends-requires
ends-requires c = let w = subst (ExpressionAt _ _ _ _ _ _) c.in-Some-read.is c.read.ensures in w.inside

pub returns-then-not-ends : goal.returns-then-not-ends
returns-then-not-ends c =
    let v = subst (PassesAssigned _ _) c.in-Some.is c.assigned.ensures in
    let w = subst (ExpressionAt _ _ _ _ _ _) c.in-Some-read.is c.read.ensures in
    record { none = whole-more _ (local-formed _ v w.form_is) (sym c.ends.ensures ∙ c.if-not-ends.true) }

pub field_of-field-requires : goal.field_of-field-requires
field_of-field-requires c = capital-low _ c.requires.2

pub set_in-requires : goal.set_in-requires
set_in-requires c = codes-inside (subst (ExpressionAt _ _ _ _ _ _) c.in-Some-read.is c.read.ensures) (omega (arith, c.requires.4, c.read.auto.codes))

pub codes_behind_set-requires : goal.codes_behind_set-requires
codes_behind_set-requires c = (codes-inside (subst (ExpressionAt _ _ _ _ _ _) c.in-Some-read.is c.read.ensures) (omega (arith, c.requires.4, c.read.auto.codes))).0

pub returns : goal.returns
returns c =
    let v = subst (PassesAssigned _ _) c.in-Some.is c.assigned.ensures in
    let w = subst (ExpressionAt _ _ _ _ _ _) c.in-Some-read.is c.read.ensures in
    local-read c.requires.0 _ v w (sym c.ends.ensures ∙ c.if-not-ends.false) c.field_of-field.ensures
    c.set_in.ensures c.names_field.ensures c.local.ensures c.codes_behind_set.ensures
