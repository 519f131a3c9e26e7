-- `text_joins::close_group` meets its contract.
use mathlib.Core.Path.{refl, subst}
use mathlib.Core.Bool.{false}
use Rattle.text_syntax.specs.Lexing.{operand_behind}
use Rattle.text_syntax.specs.Token.{closeRound}
use Rattle.text_places.specs.Place.{Passes}
use Rattle.text_joins.specs.Join.{EndInside}
use Rattle.text_joins.proofs.close_group.Goals as goal

pub mark-requires : goal.mark-requires
mark-requires c = subst (EndInside _) c.in_ok-read.was c.requires

pub returns-in_default : goal.returns-in_default
unfolding operand_behind
returns-in_default c = rw c.in_ok-read.was (subst (Passes false false closeRound _ _) c.in_default.is c.mark.ensures)

pub returns : goal.returns
unfolding operand_behind
returns c = rw c.in_ok-read.was (record { seen_is = refl; used_is = refl; closes = subst (Passes false false closeRound _ _) c.in-Some.is c.mark.ensures })
