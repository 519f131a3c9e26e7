-- `plan_keys::word::split_at` calls itself on the chain behind the first hop, for one hop less.
use Rattle.plan_keys.proofs.word.+split_at.Given as goal

abbrev pub decreases-split_at : goal.decreases-split_at
decreases-split_at l = l.h
