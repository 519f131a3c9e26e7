-- A token is known by its kind.
use Prim.Native.Nat.{ℕ}
use mathlib.Core.Path.{◌≡◌, refl, sym, ap, ◌∙◌}
use mathlib.Core.Bool.{true}
use mathlib.Core.List.{List, [], ◌∷◌}
use mathlib.Core.Option.{Option, none, some}
use borrow.Author.Tests.{eqb-true}
use lib.ListN.{get_or}
use Rattle.laws.proofs.Bools.{true_false}
use Rattle.program.specs.declared.rule.Comparison.{Comparison}
use Rattle.program.specs.declared.rule.Sort.{Sort}
use Rattle.text_syntax.specs.Token as T
use Rattle.program.specs.declared.rule.Operator.{Operator}
use Rattle.text_syntax.specs.Token.{Token}
use Rattle.text_syntax.specs.Kind.{Kind, fixed, letter, number, write, operator, comparison, kind, fixed_in, letter_in, write_in, operator_in, comparison_in, same, is}

-- the tokens that stand for themselves, by their numbers
unfoldable pub fixed_tokens : List Token
fixed_tokens =
    T.unknown ∷ T.stepWord ∷ T.end_word ∷ T.doneWord ∷ T.loopWord ∷ T.ifWord ∷ T.remoteWord ∷ T.own ∷ T.becomes ∷ T.colon ∷ T.openSquare ∷ T.closeSquare
    ∷ T.openRound ∷ T.closeRound ∷ []

-- the token of a kind
unfoldable pub token_of : Kind → Token
token_of (fixed n) = get_or fixed_tokens n T.unknown
token_of (letter l) = T.letter l
token_of (number negative x) = T.number negative x
token_of (write k) = T.write k
token_of (operator o) = T.operator o
token_of (comparison c) = T.comparison c

pub token_kind : (t : Token) → token_of (kind t) ≡ t
unfolding token_of kind fixed_tokens
token_kind T.unknown = refl
token_kind T.stepWord = refl
token_kind T.end_word = refl
token_kind T.doneWord = refl
token_kind T.loopWord = refl
token_kind T.ifWord = refl
token_kind T.remoteWord = refl
token_kind T.own = refl
token_kind T.becomes = refl
token_kind T.colon = refl
token_kind T.openSquare = refl
token_kind T.closeSquare = refl
token_kind T.openRound = refl
token_kind T.closeRound = refl
token_kind (T.letter l) = refl
token_kind (T.number negative x) = refl
token_kind (T.write k) = refl
token_kind (T.operator o) = refl
token_kind (T.comparison c) = refl

fixed_kind : (k : Kind) (n : ℕ) → fixed_in k ≡ some n → k ≡ fixed n
unfolding fixed_in
fixed_kind (fixed m) n e = cc
fixed_kind (letter l) n e = cc
fixed_kind (number negative x) n e = cc
fixed_kind (write k) n e = cc
fixed_kind (operator o) n e = cc
fixed_kind (comparison c) n e = cc

-- a token that is found is the one that was asked for
pub is_true : (w t : Token) → is w t ≡ true → t ≡ w
unfolding is same
is_true w t h = sym (token_kind t) ∙ ap token_of (go (fixed_in (kind t)) refl (fixed_in (kind w)) refl h) ∙ token_kind w
  where
    go : (n : Option ℕ) → fixed_in (kind t) ≡ n → (m : Option ℕ) → fixed_in (kind w) ≡ m → same m n ≡ true → kind t ≡ kind w
    go none e none d h = true_false h refl
    go none e (some m) d h = true_false h refl
    go (some n) e none d h = true_false h refl
    go (some n) e (some m) d h = fixed_kind (kind t) n e ∙ ap fixed (eqb-true n m h) ∙ sym (fixed_kind (kind w) m d)

-- the token that holds a letter, a sort of write, an operator, a comparison
pub letter_token : (k : Kind) (l : ℕ) → letter_in k ≡ some l → token_of k ≡ T.letter l
unfolding letter_in token_of
letter_token (fixed n) l e = cc
letter_token (letter m) l e = cc
letter_token (number negative x) l e = cc
letter_token (write k) l e = cc
letter_token (operator o) l e = cc
letter_token (comparison c) l e = cc

pub write_token : (k : Kind) (w : Sort) → write_in k ≡ some w → token_of k ≡ T.write w
unfolding write_in token_of
write_token (fixed n) w e = cc
write_token (letter l) w e = cc
write_token (number negative x) w e = cc
write_token (write k) w e = cc
write_token (operator o) w e = cc
write_token (comparison c) w e = cc

pub operator_token : (k : Kind) (o : Operator) → operator_in k ≡ some o → token_of k ≡ T.operator o
unfolding operator_in token_of
operator_token (fixed n) o e = cc
operator_token (letter l) o e = cc
operator_token (number negative x) o e = cc
operator_token (write k) o e = cc
operator_token (operator p) o e = cc
operator_token (comparison c) o e = cc

pub comparison_token : (k : Kind) (c : Comparison) → comparison_in k ≡ some c → token_of k ≡ T.comparison c
unfolding comparison_in token_of
comparison_token (fixed n) c e = cc
comparison_token (letter l) c e = cc
comparison_token (number negative x) c e = cc
comparison_token (write k) c e = cc
comparison_token (operator o) c e = cc
comparison_token (comparison d) c e = cc
