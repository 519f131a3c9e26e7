-- `text_actions::action::read_target` meets its contract.
use mathlib.Core.Path.{subst}
use mathlib.Core.Bool.{false}
use Rattle.text_syntax.specs.Lexing.{operand_behind}
use Rattle.text_syntax.specs.Token.{openSquare, closeSquare}
use Rattle.text_places.specs.Place.{Passes}
use Rattle.text_places.specs.Word.{PassesLetter}
use Rattle.text_terms.specs.Term.{ChainPartsAt}
use Rattle.text_places.proofs.Places.{behind-behind}
use Rattle.text_actions.proofs.Forms.{target_none, target_unopened, target_unread, target_unclosed, target-closed}
use Rattle.text_actions.proofs.action.read_target.Goals as goal

pub returns-in_default : goal.returns-in_default
returns-in_default c = target_none (subst (PassesLetter false _ _) c.in_default.is (c.letter.ensures false))

pub mark-requires : goal.mark-requires
mark-requires c = let l = subst (PassesLetter false _ _) c.in-Some.is (c.letter.ensures false) in l.passing.behind.inside

pub returns-in_default-mark : goal.returns-in_default-mark
unfolding operand_behind
returns-in_default-mark c =
    let l = subst (PassesLetter false _ _) c.in-Some.is (c.letter.ensures false) in
    target_unopened l.passing (subst (Passes false false openSquare _ _) c.in_default-mark.is c.mark.ensures)

pub read_chain-requires : goal.read_chain-requires
unfolding operand_behind
read_chain-requires c =
    let o = subst (Passes false false openSquare _ _) c.in-Some-mark.is c.mark.ensures in
    (c.requires.0, o.behind.inside)

pub returns-in_default-read_chain : goal.returns-in_default-read_chain
unfolding operand_behind
returns-in_default-read_chain c =
    let l = subst (PassesLetter false _ _) c.in-Some.is (c.letter.ensures false) in
    let o = subst (Passes false false openSquare _ _) c.in-Some-mark.is c.mark.ensures in
    target_unread l.passing o (subst (ChainPartsAt _ false _ _) c.in_default-read_chain.is c.read_chain.ensures)

pub mark-requires-2 : goal.mark-requires-2
mark-requires-2 c = let w = subst (ChainPartsAt _ false _ _) c.in-Some-read_chain.is c.read_chain.ensures in w.behind.inside

pub returns-in_default-mark-2 : goal.returns-in_default-mark-2
unfolding operand_behind
returns-in_default-mark-2 c =
    let l = subst (PassesLetter false _ _) c.in-Some.is (c.letter.ensures false) in
    let o = subst (Passes false false openSquare _ _) c.in-Some-mark.is c.mark.ensures in
    let w = subst (ChainPartsAt _ false _ _) c.in-Some-read_chain.is c.read_chain.ensures in
    target_unclosed l.passing o w.form_is (subst (Passes false false closeSquare _ _) c.in_default-mark-2.is c.mark-2.ensures)

pub returns : goal.returns
unfolding operand_behind
returns c =
    let l = subst (PassesLetter false _ _) c.in-Some.is (c.letter.ensures false) in
    let o = subst (Passes false false openSquare _ _) c.in-Some-mark.is c.mark.ensures in
    let w = subst (ChainPartsAt _ false _ _) c.in-Some-read_chain.is c.read_chain.ensures in
    let x = subst (Passes false false closeSquare _ _) c.in-Some-mark-2.is c.mark-2.ensures in
    record {
      inner = w.letters;
      form_is = target-closed l.passing o w.form_is x;
      parts_are = w.parts_are;
      capital = l.capital;
      behind = behind-behind (behind-behind l.passing.behind o.behind) (behind-behind w.behind x.behind);
    }
