-- `text_lines::line::read_loop` meets its contract.
use mathlib.Core.Path.{subst}
use mathlib.Core.Bool.{false}
use Rattle.chain_text.proofs.Steps.{capital-low}
use Rattle.text_places.specs.Word.{PassesLetter}
use Rattle.text_lines.proofs.Lines.{no_letter, loop_letter}
use Rattle.text_lines.proofs.line.read_loop.Goals as goal

pub returns-in_default : goal.returns-in_default
returns-in_default c =
    let n = subst (PassesLetter false _ _) c.in_default.is (c.letter.ensures false) in
    no_letter _ _ _ n.none

pub field_of-field-requires : goal.field_of-field-requires
field_of-field-requires c = let l = subst (PassesLetter false _ _) c.in-Some.is (c.letter.ensures false) in capital-low _ l.capital

pub word_line-requires : goal.word_line-requires
word_line-requires c = let l = subst (PassesLetter false _ _) c.in-Some.is (c.letter.ensures false) in l.passing.behind.inside

pub returns : goal.returns
returns c =
    let l = subst (PassesLetter false _ _) c.in-Some.is (c.letter.ensures false) in
    loop_letter _ _ l.passing c.field_of-field.ensures c.names_field-named.ensures c.word_line.ensures
