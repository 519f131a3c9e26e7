-- `text_lexer::lexer::first_token` meets its contract.
use mathlib.Core.Path.{sym, ap, ◌∙◌}
use mathlib.Core.Bool.{Bool, ◌&&◌, ◌||◌}
use lib.Dec.{eqb}
use lib.ListN.{get_or}
use Rattle.text_numerals.specs.Numeral.{is_digit}
use Rattle.text_words.specs.Tokens.{sized_first}
use Rattle.text_lexer.proofs.Firsts.{letter-first, number-first, table-first}
use Rattle.text_lexer.proofs.lexer.first_token.Goals as goal

pub returns-then-is_capital : goal.returns-then-is_capital
returns-then-is_capital c = letter-first _ _ _ c.requires (sym c.is_capital.ensures ∙ c.if-is_capital.true)

pub returns-then-is_ascii_digit-b : goal.returns-then-is_ascii_digit-b
unfolding is_digit
returns-then-is_ascii_digit-b c =
    let same = ap (λ (x : Bool). x || (eqb (get_or c.args.line.now c.args.at 0) 45 && c.args.operand)) c.is_ascii_digit.ensures.value in
    c.number_at.ensures ∙ ap sized_first (number-first _ _ _ c.requires (sym same ∙ c.if-is_ascii_digit-b.true))

pub returns : goal.returns
unfolding is_digit
returns c =
    let same = ap (λ (x : Bool). x || (eqb (get_or c.args.line.now c.args.at 0) 45 && c.args.operand)) c.is_ascii_digit.ensures.value in
    c.sign_at.ensures ∙ ap sized_first (table-first _ _ _ c.requires (sym c.is_capital.ensures ∙ c.if-is_capital.false) (sym same ∙ c.if-is_ascii_digit-b.false))
