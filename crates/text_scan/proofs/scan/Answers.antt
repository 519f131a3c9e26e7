-- `text_scan::scan` meets its contract.
use Rattle.text_syntax.specs.Lexing.{operand_behind}
use Rattle.text_scan.proofs.Turning.{turn_operator, turn_end, turn_close, turn_unclosed, scanning_start, scanning_more, scanning_done, scanning_none}
use Rattle.text_scan.proofs.scan.Goals as goal

pub loop-state-init : goal.loop-state-init
loop-state-init c = scanning_start _ c.requires.1 c.nothing.ensures

pub returns-in_err-state : goal.returns-in_err-state
returns-in_err-state c = rw c.from_residual.ensures (scanning_none c.loop-state.invariant c.in_err-state.ensures)

pub returns-then-state-eq0 : goal.returns-then-state-eq0
returns-then-state-eq0 c =
    let w = c.loop-state.invariant in
    scanning_done w (turn_end _ _ w.stands c.if-state.false c.in_default.ensures c.if-state-eq0.true)

pub returns-in_err-end : goal.returns-in_err-end
unfolding operand_behind
returns-in_err-end c =
    let w = c.loop-state.invariant in
    rw c.from_residual-in_err-end.ensures
    (scanning_none w (turn_unclosed _ _ w.stands c.if-state.false c.in_default.ensures c.if-state-eq0.false c.in_err-end.ensures))

pub loop-state-preserved-in-Some : goal.loop-state-preserved-in-Some
loop-state-preserved-in-Some c =
    let w = c.loop-state.invariant in
    scanning_more w (turn_operator _ _ w.stands c.if-state.false c.in-Some.ensures c.with_operator.ensures)

pub loop-state-preserved : goal.loop-state-preserved
unfolding operand_behind
loop-state-preserved c =
    let w = c.loop-state.invariant in
    rw c.if-state.false
    (scanning_more w (turn_close _ _ w.stands c.if-state.false c.in_default.ensures c.if-state-eq0.false c.in_ok-end.ensures))
