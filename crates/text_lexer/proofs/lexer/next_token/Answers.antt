-- `text_lexer::lexer::next_token` meets its contract.
use Prim.Native.Nat.{◌+◌, ◌≤◌}
use mathlib.Core.Path.{sym, ◌∙◌}
use native.Mathlib.Omega.{arith}
use lib.ListN.{length}
use Rattle.text_lexer.proofs.Lexemes.{lexeme-end, lexeme_unknown, lexeme-known, sized_inside}
use Rattle.text_lexer.proofs.lexer.next_token.Goals as goal

pub returns-then-at-length : goal.returns-then-at-length
returns-then-at-length c = sym (lexeme-end _ _ _ (omega arith))

pub first_token-requires : goal.first_token-requires
first_token-requires c = omega arith

pub returns-in_default : goal.returns-in_default
returns-in_default c = lexeme_unknown _ _ _ (omega arith) (sym c.first_token.ensures ∙ c.in_default.is)

pub overflow_add-at : goal.overflow_add-at
overflow_add-at c =
    let inside : c.args.at + c.in-Some.size ≤ length c.args.line.now = sized_inside _ _ _ (omega arith) (sym c.first_token.ensures ∙ c.in-Some.is) in
    record { fits = omega arith }

pub skip_spaces-requires : goal.skip_spaces-requires
skip_spaces-requires c = sized_inside _ _ _ (omega arith) (sym c.first_token.ensures ∙ c.in-Some.is)

pub returns : goal.returns
returns c = lexeme-known _ _ _ (omega arith) (sym c.first_token.ensures ∙ c.in-Some.is) c.skip_spaces.ensures
