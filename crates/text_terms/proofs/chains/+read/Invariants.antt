-- `text_terms::chains::read` calls itself on the inner chain, with room for one hop less.
use Rattle.text_terms.proofs.chains.+read.Given as goal

abbrev pub decreases-read : goal.decreases-read
decreases-read l = l.room
