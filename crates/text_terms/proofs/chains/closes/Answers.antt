-- `text_terms::chains::closes` meets its contract.
use Rattle.text_syntax.specs.Lexing.{operand_behind}
use Rattle.text_terms.proofs.ChainForms.{closing-more, closing-none, closing-done}
use Rattle.text_terms.proofs.chains.closes.Goals as goal

pub returns-in_err-end : goal.returns-in_err-end
unfolding operand_behind
returns-in_err-end c = rw c.from_residual.ensures (closing-none c.loop.invariant c.loop-test.true c.in_err-end.ensures)

pub loop-preserved : goal.loop-preserved
unfolding operand_behind
loop-preserved c = closing-more c.loop.invariant c.loop-test.true c.in_ok-end.ensures

pub returns : goal.returns
returns c = closing-done c.loop.invariant c.loop-test.false
