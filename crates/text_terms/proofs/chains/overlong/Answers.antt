-- `text_terms::chains::overlong` meets its contract.
use native.Mathlib.Omega.{arith}
use Rattle.text_terms.proofs.ChainForms.{opening-start, opening-more, opening-none, opening-closed, opening_unclosed}
use Rattle.text_terms.proofs.chains.overlong.Goals as goal

pub loop-letter-init : goal.loop-letter-init
loop-letter-init c = opening-start _ _ c.requires.2

pub returns-in_err-letter : goal.returns-in_err-letter
returns-in_err-letter c = rw c.from_residual.ensures (opening-none c.loop-letter.invariant c.in_err-letter.ensures)

pub loop-letter-preserved : goal.loop-letter-preserved
loop-letter-preserved c =
    let opens = rw c.in-Letter.is at c.in_ok-letter.ensures in
    opening-more c.loop-letter.invariant opens c.step-seen.ensures

pub returns-in_err-last-in-Own : goal.returns-in_err-last-in-Own
returns-in_err-last-in-Own c =
    let own = rw c.in-Own.is at c.in_ok-letter.ensures in
    rw c.from_residual-in_err-last-in-Own.ensures (opening_unclosed c.loop-letter.invariant own c.in_err-last-in-Own.ensures)

pub returns-in-Own : goal.returns-in-Own
returns-in-Own c =
    let own = rw c.in-Own.is at c.in_ok-letter.ensures in
    opening-closed c.loop-letter.invariant own (omega (arith, c.requires.1)) c.in_ok-last-in-Own.ensures
