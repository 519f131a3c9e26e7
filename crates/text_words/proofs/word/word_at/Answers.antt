-- `text_words::word::word_at` meets its contract.
use mathlib.Core.Path.{refl, sym, ap}
use borrow.Author.Rules.{rules}
use lib.ListN.{get_or}
use Rattle.text_numerals.specs.Word.{opens_with}
use Rattle.text_syntax.specs.Token.{stepWord, end_word, doneWord, loopWord, ifWord, remoteWord}
use Rattle.text_syntax.specs.Lexing.{spelled, words, fixed_token}
use Rattle.text_words.specs.Tokens.{token_code, sized_first}
use Rattle.text_words.proofs.Tables.{table_at, word-is, no_word, NoWord}
use Rattle.text_words.proofs.word.word_at.Goals as goal

pub returns-in-105 : goal.returns-in-105
unfolding fixed_token words spelled opens_with token_code
returns-in-105 c = word-is _ _ 105 c.requires c.in-105.is ifWord (λ r. refl) c.word.ensures

pub returns-in-114 : goal.returns-in-114
unfolding fixed_token words spelled opens_with token_code
returns-in-114 c = word-is _ _ 114 c.requires c.in-114.is remoteWord (λ r. refl) c.word-in-114.ensures

pub returns-in-115 : goal.returns-in-115
unfolding fixed_token words spelled opens_with token_code
returns-in-115 c = word-is _ _ 115 c.requires c.in-115.is stepWord (λ r. refl) c.word-in-115.ensures

pub returns-in-101 : goal.returns-in-101
unfolding fixed_token words spelled opens_with token_code
returns-in-101 c = word-is _ _ 101 c.requires c.in-101.is end_word (λ r. refl) c.word-in-101.ensures

pub returns-in-108 : goal.returns-in-108
unfolding fixed_token words spelled opens_with token_code
returns-in-108 c = word-is _ _ 108 c.requires c.in-108.is loopWord (λ r. refl) c.word-in-108.ensures

pub returns-in-100 : goal.returns-in-100
unfolding fixed_token words spelled opens_with token_code
returns-in-100 c = word-is _ _ 100 c.requires c.in-100.is doneWord (λ r. refl) c.word-in-100.ensures

pub returns-in_default : goal.returns-in_default
unfolding sized_first
returns-in_default c =
    let none : NoWord (get_or c.args.line.now c.args.at 0) = search rules in
    table_at _ _ _ c.requires refl words (sym (ap sized_first (no_word _ _ none)))
