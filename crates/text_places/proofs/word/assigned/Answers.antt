-- `text_places::word::assigned` meets its contract.
use mathlib.Core.Path.{subst}
use mathlib.Core.Bool.{false}
use Rattle.text_syntax.specs.Lexing.{operand_behind}
use Rattle.text_syntax.specs.Token.{own, openSquare, closeSquare}
use Rattle.text_places.specs.Place.{Passes}
use Rattle.text_places.proofs.Words.{not_opened, not_own, not-closed, assigns}
use Rattle.text_places.proofs.word.assigned.Goals as goal

pub returns-in_default : goal.returns-in_default
unfolding operand_behind
returns-in_default c = not_opened (subst (Passes false false openSquare _ _) c.in_default.is c.mark.ensures)

pub mark-requires-2 : goal.mark-requires-2
unfolding operand_behind
mark-requires-2 c = (subst (Passes false false openSquare _ _) c.in-Some.is c.mark.ensures).behind.inside

pub returns-in_default-mark : goal.returns-in_default-mark
unfolding operand_behind
returns-in_default-mark c =
    not_own
    (subst (Passes false false openSquare _ _) c.in-Some.is c.mark.ensures)
    (subst (Passes false false own _ _) c.in_default-mark.is c.mark-2.ensures)

pub mark-requires-3 : goal.mark-requires-3
unfolding operand_behind
mark-requires-3 c = (subst (Passes false false own _ _) c.in-Some-mark.is c.mark-2.ensures).behind.inside

pub returns-in_default-mark-2 : goal.returns-in_default-mark-2
unfolding operand_behind
returns-in_default-mark-2 c =
    not-closed
    (subst (Passes false false openSquare _ _) c.in-Some.is c.mark.ensures)
    (subst (Passes false false own _ _) c.in-Some-mark.is c.mark-2.ensures)
    (subst (Passes false false closeSquare _ _) c.in_default-mark-2.is c.mark-3.ensures)

pub mark-requires-4 : goal.mark-requires-4
unfolding operand_behind
mark-requires-4 c = (subst (Passes false false closeSquare _ _) c.in-Some-mark-2.is c.mark-3.ensures).behind.inside

pub returns : goal.returns
unfolding operand_behind
returns c =
    assigns
    (subst (Passes false false openSquare _ _) c.in-Some.is c.mark.ensures)
    (subst (Passes false false own _ _) c.in-Some-mark.is c.mark-2.ensures)
    (subst (Passes false false closeSquare _ _) c.in-Some-mark-2.is c.mark-3.ensures)
    c.mark-4.result
    c.mark-4.ensures
