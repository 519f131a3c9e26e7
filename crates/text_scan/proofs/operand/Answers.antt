-- `text_scan::operand` meets its contract.
use Rattle.text_syntax.specs.Lexing.{operand_behind}
use Rattle.text_scan.proofs.Turning.{turn_term, turn_open, turn-none}
use Rattle.text_scan.proofs.operand.Goals as goal

pub returns-in-Some : goal.returns-in-Some
returns-in-Some c = turn_term _ _ c.requires.1 c.requires.2 c.in-Some.ensures c.with_term.ensures

pub returns-in_err-end : goal.returns-in_err-end
unfolding operand_behind
returns-in_err-end c = rw c.from_residual.ensures (turn-none _ _ c.requires.1 c.requires.2 c.in_default.ensures c.in_err-end.ensures)

pub returns : goal.returns
unfolding operand_behind
returns c = turn_open _ _ c.requires.1 c.requires.2 c.in_ok-end.ensures
