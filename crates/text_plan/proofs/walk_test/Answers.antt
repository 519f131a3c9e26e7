-- `text_plan::walk_test` meets its contract.
use mathlib.Core.Path.{subst}
use lib.ListN.{length}
use Rattle.program.specs.Terms.{TermInside, TestTerms}
use Rattle.text_readings.proofs.Codes.{walked_none}
use Rattle.text_plan.specs.Walked.{test_words}
use Rattle.text_plan.proofs.walk_test.Goals as goal

pub walk_terms-requires : goal.walk_terms-requires
unfolding test_words
walk_terms-requires c =
    let inside = subst (TestTerms (TermInside (length c.args.codes.now))) c.in-When.is c.requires.1 in
    (rw c.in-When.is at c.requires.0, inside.0, inside.1)

pub returns-in-Always : goal.returns-in-Always
unfolding test_words
returns-in-Always c = rw c.in-Always.is (walked_none tt)

pub returns-in-When : goal.returns-in-When
unfolding test_words
returns-in-When c = rw c.in-When.is c.walk_terms.ensures
