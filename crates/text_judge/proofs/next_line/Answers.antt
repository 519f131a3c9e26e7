-- `text_judge::next_line` meets its contract.
use Rattle.text_refusals.specs.Number.{check_number}
use Rattle.text_judge.proofs.next_line.Goals as goal

pub returns-in-Ok : goal.returns-in-Ok
unfolding check_number
returns-in-Ok c = record { end_is = c.line_end-end.ensures; read = c.read_first-first.ensures; refusal_is = c.in-Ok.ensures }

pub returns-in-Err : goal.returns-in-Err
unfolding check_number
returns-in-Err c = record { end_is = c.line_end-end.ensures; read = c.read_first-first.ensures; refusal_is = c.in-Err.ensures }
