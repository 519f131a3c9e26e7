-- `text_terms::term::read_term` meets its contract.
use Rattle.text_terms.proofs.Terms.{chain_term_lem}
use Rattle.text_terms.proofs.term.read_term.Goals as goal

pub returns-in-Some : goal.returns-in-Some
returns-in-Some c = chain_term_lem c.in-Some.ensures
