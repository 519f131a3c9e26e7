-- `text_actions::action::read` meets its contract.
use mathlib.Core.Path.{ap, subst, ◌∙◌}
use native.Mathlib.Omega.{arith}
use Rattle.text_syntax.specs.Token as S
use Rattle.text_syntax.specs.Kind.{letter_in}
use Rattle.text_syntax.proofs.TokenKinds.{letter_token}
use Rattle.text_words.specs.Tokens.{token_code}
use Rattle.text_lexer.proofs.Lexemes.{lexed}
use Rattle.text_places.proofs.Places.{passed, goes_on_lem, absent, none_of, letter-capital, behind-behind}
use Rattle.text_actions.specs.Action.{action_form, TargetAt}
use Rattle.text_actions.proofs.Forms.{no_action, action_local, action_remote, action_none, target-then}
use Rattle.text_actions.proofs.Actions.{action_from}
use Rattle.text_actions.proofs.action.read.Goals as goal

pub read_local-requires : goal.read_local-requires
read_local-requires c =
    let p = c.requires in
    let w = lexed _ _ _ c.requires.1 c.next_token-first.ensures in
    let e = c.in-Letter.is in
    (p.0, w.inside, letter-capital _ _ (passed w e), omega (arith, (goes_on_lem w _ e tt).onward, p.2), p.3)

pub read_target-requires : goal.read_target-requires
read_target-requires c =
    let w = lexed _ _ _ c.requires.1 c.next_token-first.ensures in
    (c.requires.0, w.inside)

pub read_sent-requires : goal.read_sent-requires
read_sent-requires c =
    let p = c.requires in
    let w = lexed _ _ _ c.requires.1 c.next_token-first.ensures in
    let t = subst (TargetAt _ _ _) c.in-Some.is c.read_target.ensures in
    (p.0, t.behind.inside, t.capital, omega (arith, (goes_on_lem w _ c.in-Remote.is tt).onward, t.behind.onward, p.2), p.3)

pub returns-in-Letter : goal.returns-in-Letter
returns-in-Letter c =
    let w = lexed _ _ _ c.requires.1 c.next_token-first.ensures in
    let e = c.in-Letter.is in
    let r = c.read_local in
    action_from _ _ _ _ _ (goes_on_lem w _ e tt) (ap action_form (passed w e) ∙ action_local _ _) r.result r.ensures

pub returns-in-Some : goal.returns-in-Some
returns-in-Some c =
    let w = lexed _ _ _ c.requires.1 c.next_token-first.ensures in
    let e = c.in-Remote.is in
    let t = subst (TargetAt _ _ _) c.in-Some.is c.read_target.ensures in
    let r = c.read_sent in
    action_from _ _ _ _ _ (behind-behind (goes_on_lem w _ e tt) t.behind)
    (ap action_form (passed w e) ∙ action_remote _ ∙ target-then t.form_is) r.result (r.ensures t.inner t.parts_are)

pub returns-in_default-read_target : goal.returns-in_default-read_target
returns-in_default-read_target c =
    let w = lexed _ _ _ c.requires.1 c.next_token-first.ensures in
    let t = subst (TargetAt _ _ _) c.in_default-read_target.is c.read_target.ensures in
    no_action (ap action_form (passed w c.in-Remote.is) ∙ action_remote _ ∙ t.none)

pub returns-in_default : goal.returns-in_default
unfolding token_code
returns-in_default c =
    let w = lexed _ _ _ c.requires.1 c.next_token-first.ensures in
    no_action (action_none _ (absent w S.remoteWord c.in_default.not-Remote).absent
    (none_of w letter_in S.letter letter_token c.in_default.not-Letter))
