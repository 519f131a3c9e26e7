-- `text_terms::chains::first_link` meets its contract.
use mathlib.Core.Bool.{false}
use Rattle.text_syntax.specs.Lexing.{operand_behind}
use Rattle.text_terms.proofs.ChainForms.{link_letter, link_none, link_other}
use Rattle.text_terms.proofs.chains.first_link.Goals as goal

pub mark-requires : goal.mark-requires
mark-requires c = (c.in-Some.ensures false).passing.behind.inside

pub returns-in_err-end : goal.returns-in_err-end
unfolding operand_behind
returns-in_err-end c =
    let p = c.in-Some.ensures c.args.due in
    rw c.from_residual.ensures (link_none _ _ _ _ p.passing.text c.in_err-end.ensures)

pub returns-in-Some : goal.returns-in-Some
unfolding operand_behind
returns-in-Some c =
    let p = c.in-Some.ensures c.args.due in
    link_letter _ _ _ _ p.passing.text p.passing.behind c.in_ok-end.ensures

pub returns-in_err-end-2 : goal.returns-in_err-end-2
unfolding operand_behind
returns-in_err-end-2 c = rw c.from_residual-in_err-end-2.ensures (link_other (c.in_default.ensures c.args.due) c.in_err-end-2.ensures)

pub returns : goal.returns
unfolding operand_behind
returns c = c.in_ok-end-2.ensures
