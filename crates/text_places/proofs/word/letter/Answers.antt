-- `text_places::word::letter` meets its contract.
use Prim.Native.Nat.{◌≤◌, ◌<◌}
use mathlib.Core.Path.{◌≡◌, subst, sym, ap, ◌∙◌}
use borrow.Author.Rules.{rules}
use lib.ListN.{length, get_or}
use Rattle.chain_text.specs.Text.{is_capital}
use Rattle.text_places.specs.Word.{PassesLetter}
use Rattle.text_places.proofs.Bytes.{letter-passed, letter-end, letter-absent}
use Rattle.text_places.proofs.word.letter.Goals as goal

pub returns-in_err-b : goal.returns-in_err-b
returns-in_err-b c due =
    let past : length c.args.line.now ≤ c.args.at = search rules in
    subst (PassesLetter due _ _) (sym c.from_residual.ensures) (letter-end due _ _ past)

pub returns-then-not-is_capital : goal.returns-then-not-is_capital
returns-then-not-is_capital c due =
    let inside : c.args.at < length c.args.line.now = search rules in
    let here : c.in_ok-b.field-0.now ≡ get_or c.args.line.now c.args.at 0 = search rules in
    letter-absent due _ _ inside (ap is_capital (sym here) ∙ sym c.is_capital.ensures ∙ c.if-not-is_capital.true)

pub returns : goal.returns
returns c due =
    let inside : c.args.at < length c.args.line.now = search rules in
    let here : c.in_ok-b.field-0.now ≡ get_or c.args.line.now c.args.at 0 = search rules in
    rw here (letter-passed due _ _ inside (ap is_capital (sym here) ∙ sym c.is_capital.ensures ∙ c.if-not-is_capital.false) c.skip_spaces.ensures)
