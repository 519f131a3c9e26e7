-- `text_plan::walk_rule` meets its contract.
use mathlib.Core.Path.{refl, subst}
use lib.ListN.{length}
use Rattle.program.specs.declared.rule.Rule.{Rule}
use Rattle.program.specs.Terms.{TermInside, RuleTerms}
use Rattle.text_readings.specs.Readings.{Short}
use Rattle.text_readings.proofs.Codes.{walked_as}
use Rattle.text_plan.specs.Walked.{term_words, rule_words}
use Rattle.text_plan.proofs.walk_rule.Goals as goal

pub walk_term-requires : goal.walk_term-requires
unfolding rule_words
walk_term-requires c =
    let k = c.args.codes.now in
    (subst (λ (x : Rule). Short (rule_words k x)) c.in-Set.is c.requires.0, subst (RuleTerms (TermInside (length k))) c.in-Set.is c.requires.1)

pub walk_terms-requires : goal.walk_terms-requires
unfolding rule_words
walk_terms-requires c =
    let k = c.args.codes.now in
    let inside = subst (RuleTerms (TermInside (length k))) c.in-Combine.is c.requires.1 in
    (subst (λ (x : Rule). Short (rule_words k x)) c.in-Combine.is c.requires.0, inside.0, inside.1)

pub walk_terms-requires-in-Remote : goal.walk_terms-requires-in-Remote
unfolding term_words rule_words
walk_terms-requires-in-Remote c =
    let k = c.args.codes.now in
    (subst (λ (x : Rule). Short (rule_words k x)) c.in-Remote.is c.requires.0, tt, subst (RuleTerms (TermInside (length k))) c.in-Remote.is c.requires.1)

pub returns-in-Set : goal.returns-in-Set
unfolding rule_words
returns-in-Set c = rw c.in-Set.is c.walk_term.ensures

pub returns-in-Combine : goal.returns-in-Combine
unfolding rule_words
returns-in-Combine c = rw c.in-Combine.is c.walk_terms.ensures

-- a target has no tree
pub returns-in-Remote : goal.returns-in-Remote
unfolding term_words rule_words
returns-in-Remote c = rw c.in-Remote.is (walked_as refl (λ n f. (tt, f)) (λ p. p) c.walk_terms-in-Remote.ensures)
