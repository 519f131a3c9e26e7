-- `text_actions::action::read_sent` meets its contract.
use mathlib.Core.Path.{sym, subst, ◌∙◌}
use native.Mathlib.Omega.{arith}
use Rattle.chain_text.proofs.Steps.{capital-low}
use Rattle.text_places.specs.Word.{PassesWrite}
use Rattle.text_sides.specs.Side.{SideAt}
use Rattle.text_actions.proofs.Forms.{no_action, whole-more, not-sent, sent-formed, sent-none}
use Rattle.text_actions.proofs.Actions.{sent-read}
use Rattle.text_actions.proofs.action.read_sent.Goals as goal

pub returns-in_default : goal.returns-in_default
returns-in_default c chain e = no_action (not-sent _ chain (subst (PassesWrite _ _) c.in_default.is c.write.ensures))

pub read-requires : goal.read-requires
read-requires c =
    let p = c.requires in
    let v = subst (PassesWrite _ _) c.in-Some.is c.write.ensures in
    (p.0, v.behind.inside, omega (arith, v.behind.onward, p.3), p.4)

pub returns-in_default-read : goal.returns-in_default-read
returns-in_default-read c chain e =
    let v = subst (PassesWrite _ _) c.in-Some.is c.write.ensures in
    no_action (sent-none _ chain v (subst (SideAt _ _ _ _ _ _) c.in_default-read.is c.read.ensures))

pub ends-requires : goal.ends-requires
ends-requires c = let w = subst (SideAt _ _ _ _ _ _) c.in-Some-read.is c.read.ensures in w.inside

pub returns-then-not-ends : goal.returns-then-not-ends
returns-then-not-ends c chain e =
    let v = subst (PassesWrite _ _) c.in-Some.is c.write.ensures in
    let w = subst (SideAt _ _ _ _ _ _) c.in-Some-read.is c.read.ensures in
    record { none = whole-more _ (sent-formed _ chain v w.form_is) (sym c.ends.ensures ∙ c.if-not-ends.true) }

pub field_of-field-requires : goal.field_of-field-requires
field_of-field-requires c = capital-low _ c.requires.2

pub returns : goal.returns
returns c chain e =
    let v = subst (PassesWrite _ _) c.in-Some.is c.write.ensures in
    let w = subst (SideAt _ _ _ _ _ _) c.in-Some-read.is c.read.ensures in
    sent-read c.requires.0 _ chain _ e v w (sym c.ends.ensures ∙ c.if-not-ends.false)
    c.field_of-field.ensures c.chain.ensures c.names_field-named.ensures c.remote.ensures
