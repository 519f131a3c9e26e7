-- `text_terms::chains::closes` meets its contract.
use Rattle.text_terms.proofs.ChainForms.{Closing}
use Rattle.text_terms.proofs.chains.closes.Given as goal

abbrev pub invariant-loop : goal.invariant-loop
invariant-loop l = Closing l.n l.line l.at l.counter l.end
