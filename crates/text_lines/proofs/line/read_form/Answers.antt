-- `text_lines::line::read_form` meets its contract.
use mathlib.Core.Path.{refl, ap, ◌∙◌}
use mathlib.Core.Bool.{false}
use native.Mathlib.Omega.{arith}
use Rattle.text_syntax.specs.Token.{stepWord, end_word, doneWord, loopWord, ifWord}
use Rattle.text_syntax.specs.Lexing.{tokens}
use Rattle.text_syntax.specs.Written.{step, end, done}
use Rattle.text_syntax.specs.Grammar.{any_form}
use Rattle.text_syntax.proofs.Lines.{step-first, end-first, done_first, loop_first}
use Rattle.text_words.specs.Tokens.{token_code}
use Rattle.text_lexer.specs.Lexeme.{Lexed}
use Rattle.text_lexer.proofs.Lexemes.{lexed}
use Rattle.text_rules.specs.declared.line.LineRead.TheVariants.{Step, End, Done}
use Rattle.text_rules.specs.LineRead.{step_line, end_line, done-line}
use Rattle.text_places.proofs.Places.{passed, goes_on_lem, absent}
use Rattle.text_lines.proofs.Lines.{word_at, loop_at, if_line, rule-line-at}
use Rattle.text_lines.proofs.line.read_form.Goals as goal

pub word_line-requires : goal.word_line-requires
word_line-requires c = (lexed _ _ _ (omega arith) c.next_token-first.ensures).inside

pub word_line-requires-in-End : goal.word_line-requires-in-End
word_line-requires-in-End c = (lexed _ _ _ (omega arith) c.next_token-first.ensures).inside

pub word_line-requires-in-Done : goal.word_line-requires-in-Done
word_line-requires-in-Done c = (lexed _ _ _ (omega arith) c.next_token-first.ensures).inside

pub read_loop-requires : goal.read_loop-requires
read_loop-requires c = (c.requires.0, (lexed _ _ _ (omega arith) c.next_token-first.ensures).inside)

pub read_tested-requires : goal.read_tested-requires
read_tested-requires c =
    let first : Lexed false c.args.line.now 0 c.next_token-first.result = lexed _ _ _ (omega arith) c.next_token-first.ensures in
    let p = c.requires in
    let h = goes_on_lem first _ c.in-If.is tt in
    (p.0, h.inside, omega (arith, h.onward, p.1), p.2)

pub returns-in-If : goal.returns-in-If
returns-in-If c =
    let first : Lexed false c.args.line.now 0 c.next_token-first.result = lexed _ _ _ (omega arith) c.next_token-first.ensures in
    if_line _ _ _ _ _ _ _ (passed first c.in-If.is) c.read_tested.ensures

pub returns-in_default : goal.returns-in_default
unfolding token_code
returns-in_default c =
    let w : Lexed false c.args.line.now 0 c.next_token-first.result = lexed _ _ _ (omega arith) c.next_token-first.ensures in
    let d = c.in_default in
    rule-line-at _ _ _ _ _ _ (absent w stepWord d.not-Step) (absent w end_word d.not-End) (absent w doneWord d.not-Done)
    (absent w loopWord d.not-Loop) (absent w ifWord d.not-If) c.always.ensures c.read_ruled.ensures

pub returns-in-Step : goal.returns-in-Step
unfolding tokens
returns-in-Step c =
    let first : Lexed false c.args.line.now 0 c.next_token-first.result = lexed _ _ _ (omega arith) c.next_token-first.ensures in
    word_at _ _ _ _ step Step _ (ap any_form (passed first c.in-Step.is) ∙ step-first _) step_line
    (λ i l. refl) c.word_line.ensures

pub returns-in-End : goal.returns-in-End
unfolding tokens
returns-in-End c =
    let first : Lexed false c.args.line.now 0 c.next_token-first.result = lexed _ _ _ (omega arith) c.next_token-first.ensures in
    word_at _ _ _ _ end End _ (ap any_form (passed first c.in-End.is) ∙ end-first _) end_line
    (λ i l. refl) c.word_line-in-End.ensures

pub returns-in-Done : goal.returns-in-Done
unfolding tokens
returns-in-Done c =
    let first : Lexed false c.args.line.now 0 c.next_token-first.result = lexed _ _ _ (omega arith) c.next_token-first.ensures in
    word_at _ _ _ _ done Done _ (ap any_form (passed first c.in-Done.is) ∙ done_first _) done-line
    (λ i l. refl) c.word_line-in-Done.ensures

pub returns-in-Loop : goal.returns-in-Loop
unfolding tokens
returns-in-Loop c =
    let first : Lexed false c.args.line.now 0 c.next_token-first.result = lexed _ _ _ (omega arith) c.next_token-first.ensures in
    loop_at _ _ _ _ _ (ap any_form (passed first c.in-Loop.is) ∙ loop_first _)
    c.read_loop.ensures
