-- `chain_text::text::read` calls itself on the inner chain, with room for one hop less.
use Rattle.chain_text.proofs.text.+read.Given as goal

abbrev pub decreases-read : goal.decreases-read
decreases-read l = l.room
