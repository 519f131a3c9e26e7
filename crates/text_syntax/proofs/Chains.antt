-- A list of tokens begins with a term exactly when it begins with the tokens of one.
use Prim.Native.Nat.{ℕ}
use mathlib.Core.Path.{◌≡◌, refl, sym, ap, ◌∙◌}
use mathlib.Core.Bool.{false}
use mathlib.Core.Option.{none}
use mathlib.Core.List.{List, [], ◌∷◌, ◌++◌, append_assoc}
use Rattle.text_syntax.specs.Token as T
use Rattle.text_syntax.specs.Token.{Token, own, letter, openSquare, closeSquare, openRound}
use Rattle.text_syntax.specs.Kind as K
use Rattle.text_syntax.specs.Kind.{Kind, kind, letter_in, fixed_in, same, is}
use Rattle.text_syntax.specs.Form.{Form, formed, unformed, held, one_of, past, then, or}
use Rattle.text_syntax.specs.Written.{Term, chain, number}
use Rattle.text_syntax.specs.Grammar.{linked, chain_form, number_in, term_form}
use Rattle.text_syntax.specs.Printed.{printed_chain, printed_term}
use Rattle.text_syntax.proofs.TokenKinds.{token_of, token_kind, letter_token}
use Rattle.text_syntax.proofs.Readers.{All, or-none, behind_all, or_all, past_all, one_all}

-- a list that begins with a chain begins with its tokens
abbrev pub ChainSpelled : List Token → List ℕ → List Token → Type 0
ChainSpelled ts ls r = ts ≡ printed_chain ls ++ r

linked_all : (t w : Token) (ts : List Token) (f : Form (List ℕ)) → All (ChainSpelled ts) f → All (ChainSpelled (t ∷ w ∷ ts)) (linked t w f)
unfolding linked printed_chain
linked_all t w ts f h =
    let P : List ℕ → List Token → Type 0 = ChainSpelled (t ∷ w ∷ ts) in
    behind_all (λ (l : ℕ) r. t ∷ w ∷ [] ≡ letter l ∷ r) P _ _ (one_all _ letter_in letter letter_token (t ∷ w ∷ []) (λ l r e. e)) (λ l r e.
    past_all P openSquare r _ (λ r₁ e₁.
    behind_all (ChainSpelled ts) P f _ h (λ ls r₂ e₂.
    past_all P closeSquare r₂ _ (λ r₃ e₃. spelled l ls r r₁ r₂ r₃ e e₁ e₂ e₃))))
  where
    spelled : (l : ℕ) (ls : List ℕ) (r r₁ r₂ r₃ : List Token) → t ∷ w ∷ [] ≡ letter l ∷ r → r ≡ openSquare ∷ r₁ → ts ≡ printed_chain ls ++ r₂
        → r₂ ≡ closeSquare ∷ r₃
        → t ∷ w ∷ ts ≡ letter l ∷ openSquare ∷ ((printed_chain ls ++ (closeSquare ∷ [])) ++ r₃)
    spelled l ls r r₁ r₂ r₃ e e₁ e₂ e₃ = cc (append_assoc (printed_chain ls) (closeSquare ∷ []) r₃)

pub chain_all : (ts : List Token) → All (ChainSpelled ts) (chain_form ts)
unfolding chain_form printed_chain
chain_all [] = tt
chain_all (t ∷ []) = past_all _ own (t ∷ []) (formed []) (λ r e. e)
chain_all (t ∷ w ∷ ts) = or_all _ _ _ (past_all _ own (t ∷ w ∷ ts) (formed []) (λ r e. e)) (linked_all t w ts (chain_form ts) (chain_all ts))

-- and the tokens of a chain are read
pub chain_read : (ls : List ℕ) (r : List Token) → chain_form (printed_chain ls ++ r) ≡ formed ls r
unfolding printed_chain chain_form past is same fixed_in kind or linked one_of held letter_in then
chain_read [] [] = refl
chain_read [] (t ∷ r) = refl
chain_read (l ∷ ls) r = rw (append_assoc (printed_chain ls) (closeSquare ∷ []) r, chain_read ls (closeSquare ∷ r))

-- by its first token
pub chain_own : (r : List Token) → chain_form (own ∷ r) ≡ formed [] r
unfolding printed_chain
chain_own r = chain_read [] r

pub chain_letter : (l : ℕ) (r : List Token)
    → chain_form (letter l ∷ r) ≡ past openSquare r (λ r. then (chain_form r) (λ ls r. past closeSquare r (formed (l ∷ ls))))
unfolding chain_form past is same fixed_in kind or linked one_of held letter_in then
chain_letter l [] = refl
chain_letter l (t ∷ r) = refl

pub chain_none : (t : Token) (r : List Token) → is own t ≡ false → letter_in (kind t) ≡ none → chain_form (t ∷ r) ≡ unformed
unfolding chain_form past or linked one_of held then
chain_none t [] h k = rw h
chain_none t (w ∷ r) h k = rw (h, k)

-- the same of terms
abbrev pub TermSpelled : List Token → Term → List Token → Type 0
TermSpelled ts x r = ts ≡ printed_term x ++ r

number_all : (ts : List Token) → All (TermSpelled ts) (one_of number_in ts)
unfolding one_of held number_in kind printed_term token_of
number_all [] = tt
number_all (t ∷ r) = go (kind t) refl
  where
    go : (k : Kind) → kind t ≡ k → All (TermSpelled (t ∷ r)) (held (number_in k) r)
    go (K.fixed n) e = tt
    go (K.letter l) e = tt
    go (K.number negative x) e = ap (λ (u : Token). u ∷ r) (sym (token_kind t) ∙ ap token_of e)
    go (K.write k) e = tt
    go (K.operator o) e = tt
    go (K.comparison c) e = tt

pub term_all : (ts : List Token) → All (TermSpelled ts) (term_form ts)
unfolding term_form printed_term
term_all ts = or_all (TermSpelled ts) _ _ (behind_all (ChainSpelled ts) (TermSpelled ts) (chain_form ts) _ (chain_all ts) (λ ls r e. e)) (number_all ts)

pub term_read : (x : Term) (r : List Token) → term_form (printed_term x ++ r) ≡ formed x r
unfolding term_form printed_term or then one_of held number_in kind is same fixed_in letter_in
term_read (chain ls) r = rw (chain_read ls r)
term_read (number negative x) r = rw (chain_none (T.number negative x) r refl refl)

pub term_letter : (l : ℕ) (r : List Token) → term_form (letter l ∷ r) ≡ then (chain_form (letter l ∷ r)) (λ ls. formed (chain ls))
unfolding term_form or one_of held number_in kind then
term_letter l r = or-none (then (chain_form (letter l ∷ r)) (λ ls. formed (chain ls)))

pub term_none : (t : Token) (r : List Token) → is own t ≡ false → letter_in (kind t) ≡ none → number_in (kind t) ≡ none → term_form (t ∷ r) ≡ unformed
unfolding term_form or one_of held then
term_none t r h k n = rw (chain_none t r h k, n)

pub round_term : (r : List Token) → term_form (openRound ∷ r) ≡ unformed
unfolding is same fixed_in kind letter_in number_in
round_term r = term_none openRound r refl refl refl
