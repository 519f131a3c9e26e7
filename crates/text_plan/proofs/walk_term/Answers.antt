-- `text_plan::walk_term` meets its contract.
use mathlib.Core.Path.{subst}
use lib.ListN.{length}
use Rattle.program.specs.declared.term.Term.{Term}
use Rattle.program.specs.Terms.{TermInside}
use Rattle.text_readings.proofs.Codes.{walked_none, walked_chain}
use Rattle.text_readings.specs.Readings.{Short}
use Rattle.text_plan.specs.Walked.{term_words}
use Rattle.text_plan.proofs.walk_term.Goals as goal

pub add_chain-requires : goal.add_chain-requires
unfolding term_words
add_chain-requires c = (subst (λ (x : Term). Short (term_words c.args.codes.now x)) c.in-Chain.is c.requires.0).0

pub add_codes-requires : goal.add_codes-requires
unfolding term_words
add_codes-requires c =
    let e = c.in-Tree.is in
    (subst (λ (x : Term). Short (term_words c.args.codes.now x)) e c.requires.0, subst (TermInside (length c.args.codes.now)) e c.requires.1)

pub returns-in-Chain : goal.returns-in-Chain
unfolding term_words
returns-in-Chain c = rw c.in-Chain.is (walked_chain c.args.codes.now c.add_chain.ensures (λ x p. p))

pub returns-in-Number : goal.returns-in-Number
unfolding term_words
returns-in-Number c = rw c.in-Number.is (walked_none tt)

pub returns-in-Tree : goal.returns-in-Tree
unfolding term_words
returns-in-Tree c = rw c.in-Tree.is c.add_codes.ensures
