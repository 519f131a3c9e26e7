-- `text_places::place::operator` meets its contract.
use Rattle.text_syntax.specs.Token as S
use Rattle.text_syntax.specs.Kind.{operator_in}
use Rattle.text_syntax.proofs.TokenKinds.{operator_token}
use Rattle.text_words.specs.Tokens.{token_code}
use Rattle.text_lexer.proofs.Lexemes.{lexed}
use Rattle.text_places.proofs.Places.{passed, goes_on_lem, none_of}
use Rattle.text_places.proofs.place.operator.Goals as goal

pub returns-in_default : goal.returns-in_default
unfolding token_code
returns-in_default c =
    record {
      none = none_of (lexed _ _ _ c.requires c.next_token-read.ensures) operator_in S.operator operator_token
          c.in_default.not-Operator;
    }

pub returns : goal.returns
returns c =
    let w = lexed _ _ _ c.requires c.next_token-read.ensures in
    record { text = passed w c.in-Operator.is; behind = goes_on_lem w _ c.in-Operator.is tt }
