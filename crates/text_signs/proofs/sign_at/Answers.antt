-- `text_signs::sign_at` meets its contract.
use mathlib.Core.Path.{refl, ap, ◌∙◌}
use mathlib.Core.List.{◌++◌}
use borrow.Author.Rules.{rules}
use lib.ListN.{get_or}
use Rattle.program.specs.declared.rule.Comparison.TheVariants.{Equal, Unequal}
use Rattle.program.specs.declared.rule.Sort.TheVariants.{Total}
use Rattle.text_numerals.specs.Word.{opens_with}
use Rattle.program.specs.declared.rule.Operator.TheVariants.{Plus}
use Rattle.text_syntax.specs.Token.{becomes, colon, write, operator, comparison}
use Rattle.text_syntax.specs.Lexing.{spelled, words, signs, first, none, fixed_token}
use Rattle.text_words.specs.Tokens.{token_code, sized_first}
use Rattle.text_words.proofs.Tables.{table_at}
use Rattle.text_signs.proofs.Signs.{longer_is, only-word, NoSign}
use Rattle.text_signs.proofs.sign_at.Goals as goal

pub returns-in-117 : goal.returns-in-117
unfolding fixed_token words signs spelled opens_with sized_first token_code
returns-in-117 c = table_at _ _ 117 c.requires c.in-117.is (words ++ signs) refl

pub returns-in-91 : goal.returns-in-91
unfolding fixed_token words signs spelled opens_with sized_first token_code
returns-in-91 c = table_at _ _ 91 c.requires c.in-91.is (words ++ signs) refl

pub returns-in-93 : goal.returns-in-93
unfolding fixed_token words signs spelled opens_with sized_first token_code
returns-in-93 c = table_at _ _ 93 c.requires c.in-93.is (words ++ signs) refl

pub returns-in-40 : goal.returns-in-40
unfolding fixed_token words signs spelled opens_with sized_first token_code
returns-in-40 c = table_at _ _ 40 c.requires c.in-40.is (words ++ signs) refl

pub returns-in-41 : goal.returns-in-41
unfolding fixed_token words signs spelled opens_with sized_first token_code
returns-in-41 c = table_at _ _ 41 c.requires c.in-41.is (words ++ signs) refl

pub returns-in-45 : goal.returns-in-45
unfolding fixed_token words signs spelled opens_with sized_first token_code
returns-in-45 c = table_at _ _ 45 c.requires c.in-45.is (words ++ signs) refl

pub returns-in-58 : goal.returns-in-58
unfolding fixed_token words signs spelled opens_with sized_first token_code
returns-in-58 c = table_at _ _ 58 c.requires c.in-58.is (words ++ signs) (longer_is _ (first becomes _) (first colon _) c.longer.ensures refl)

pub returns-in-43 : goal.returns-in-43
unfolding fixed_token words signs spelled opens_with sized_first token_code
returns-in-43 c = table_at _ _ 43 c.requires c.in-43.is (words ++ signs) (longer_is _ (first (write Total) _) (first (operator Plus) _) c.longer-in-43.ensures refl)

pub returns-in-61 : goal.returns-in-61
unfolding fixed_token words signs spelled opens_with sized_first token_code
returns-in-61 c = table_at _ _ 61 c.requires c.in-61.is (words ++ signs) (longer_is _ (first (comparison Equal) _) none c.longer-in-61.ensures refl)

pub returns-in-33 : goal.returns-in-33
unfolding fixed_token words signs spelled opens_with sized_first token_code
returns-in-33 c = table_at _ _ 33 c.requires c.in-33.is (words ++ signs) (longer_is _ (first (comparison Unequal) _) none c.longer-in-33.ensures refl)

pub returns-in-60 : goal.returns-in-60
unfolding fixed_token words signs spelled opens_with sized_first token_code
returns-in-60 c = table_at _ _ 60 c.requires c.in-60.is (words ++ signs) c.less_at.ensures

pub returns-in_default : goal.returns-in_default
returns-in_default c =
    let none : NoSign (get_or c.args.line.now c.args.at 0) = search rules in
    c.word_at.ensures ∙ ap sized_first (only-word _ _ c.requires none)
