-- `op_read::chain_of` meets its contract: each way out has its law in `Judging`.
use mathlib.Core.Path.{sym, ap, ◌∙◌}
use Rattle.op_read.specs.Reading.{chain_outcome, chain_refusal_number}
use Rattle.op_read.proofs.Judging.{chain_none, chain_rest, chain_whole}
use Rattle.op_read.proofs.chain_of.Goals as goal

pub returns-in_default : goal.returns-in_default
unfolding chain_outcome chain_refusal_number
returns-in_default c = chain_none _ _ (sym c.scan.ensures ∙ c.in_default.is)

pub returns-then-end-text : goal.returns-then-end-text
returns-then-end-text c = ap chain_outcome c.judged.ensures ∙ chain_whole _ _ (sym c.in-Some.ensures) c.requires c.if-end-text.true

pub returns-else-end-text : goal.returns-else-end-text
unfolding chain_outcome chain_refusal_number
returns-else-end-text c = chain_rest _ _ (sym c.in-Some.ensures) c.if-end-text.false
