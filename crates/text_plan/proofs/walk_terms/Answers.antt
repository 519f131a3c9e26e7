-- `text_plan::walk_terms` meets its contract.
use lib.ListN.{length}
use Rattle.laws.proofs.Lists.{each_back}
use Rattle.text_plan.specs.Walked.{term_words}
use Rattle.text_plan.proofs.Words.{term_words-same}
use Rattle.text_plan.proofs.Placing.{walked_terms}
use Rattle.text_plan.proofs.walk_terms.Goals as goal

pub walk_term-requires-2 : goal.walk_term-requires-2
walk_term-requires-2 c =
    let k = c.args.codes.now in
    let w = c.walk_term.ensures in (
      rw (term_words-same k _ w.same c.args.y) (each_back _ (term_words k c.args.x) (term_words k c.args.y) c.requires.0),
      rw w.sized c.requires.2,
    )

pub returns : goal.returns
returns c = walked_terms (length c.args.codes.now) c.args.x c.args.y _ c.requires.1 c.walk_term.ensures c.walk_term-2.ensures
