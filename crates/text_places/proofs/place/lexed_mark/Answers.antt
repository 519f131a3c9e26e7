-- `text_places::place::lexed_mark` meets its contract.
use Rattle.std.specs.Prelude.{◌≡◌, Some}
use mathlib.Core.Path.{sym, ◌∙◌}
use mathlib.Core.Logic.{◌≢◌}
use borrow.Author.Rules.{rules}
use Rattle.text_lexer.proofs.Lexemes.{lexed}
use Rattle.text_places.proofs.Places.{mark_passed, mark_absent}
use Rattle.text_places.proofs.place.lexed_mark.Goals as goal

pub returns-then-ne : goal.returns-then-ne
returns-then-ne c =
    let other : c.of.result ≢ Some c.args.mark = search rules in
    mark_absent (lexed _ _ _ c.requires c.next_token-read.ensures) _ (λ e. other (c.of.ensures ∙ e))

pub returns : goal.returns
returns c =
    let same : c.of.result ≡ Some c.args.mark = search rules in
    mark_passed (lexed _ _ _ c.requires c.next_token-read.ensures) _ (sym c.of.ensures ∙ same)
