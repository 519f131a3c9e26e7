-- `text_terms::term::read_chain` meets its contract.
use native.Mathlib.Omega.{arith}
use Rattle.text_syntax.specs.Lexing.{operand_behind}
use Rattle.chain_text.proofs.Steps.{start}
use Rattle.chain_text.proofs.Scanning.{step_small}
use Rattle.text_terms.proofs.ChainForms.{chain_unopened, chain_unclosed, chain_closed}
use Rattle.text_terms.proofs.Terms.{own_chain, letter_chain}
use Rattle.text_terms.proofs.term.read_chain.Goals as goal

pub read-requires : goal.read-requires
read-requires c =
    let opens = rw c.in-Letter.is at c.in_ok-end.ensures in
    let small = step_small c.args.sizes 16 start c.in-Letter.letter opens.capital (λ e. omega arith) (omega arith) (omega arith) in
    (c.requires.0, omega arith, rw c.step-next.ensures (omega (arith, small)), opens.behind.inside)

pub returns-in_err-letters-in-Letter : goal.returns-in_err-letters-in-Letter
returns-in_err-letters-in-Letter c =
    let opens = rw c.in-Letter.is at c.in_ok-end.ensures in
    rw c.from_residual-in_err-letters-in-Letter.ensures (chain_unopened c.args.sizes 16 start opens c.in_err-letters-in-Letter.ensures)

pub returns-in_err-last-in-Letter : goal.returns-in_err-last-in-Letter
unfolding operand_behind
returns-in_err-last-in-Letter c =
    let opens = rw c.in-Letter.is at c.in_ok-end.ensures in
    let inner = rw c.step-next.ensures at c.in_ok-letters-in-Letter.ensures in
    rw c.from_residual-in_err-last-in-Letter.ensures (chain_unclosed c.args.sizes 16 start opens inner c.in_err-last-in-Letter.ensures)

pub returns-in-Own : goal.returns-in-Own
returns-in-Own c = rw c.chain_parts.ensures (own_chain (rw c.in-Own.is at c.in_ok-end.ensures))

pub returns-in_ok-last-in-Letter : goal.returns-in_ok-last-in-Letter
unfolding operand_behind
returns-in_ok-last-in-Letter c =
    let opens = rw c.in-Letter.is at c.in_ok-end.ensures in
    let inner = rw c.step-next.ensures at c.in_ok-letters-in-Letter.ensures in
    rw c.chain_parts-in-Letter.ensures (letter_chain opens (chain_closed c.args.sizes 16 start opens inner c.in_ok-last-in-Letter.ensures))
