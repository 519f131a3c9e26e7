-- Terms: a chain or a number, as it is answered.
use Prim.Native.Nat.{ℕ}
use mathlib.Core.Path.{◌≡◌, refl, sym, ap, ◌∙◌}
use mathlib.Core.Logic.{◌≢◌}
use mathlib.Core.Bool.{Bool, true, false, not}
use mathlib.Core.List.{List, [], ◌∷◌}
use native.Mathlib.Omega.{arith}
use lib.Dec.{leb, ltb}
use lib.IntN.{ℤ}
use lib.ListN.{length}
use Rattle.std.proofs.lemmas.Bool.Decides.{nat_tests}
use Rattle.register.specs.declared.Sizes.{Sizes}
use Rattle.integers.specs.Range.{in_range, sum_of}
use Rattle.chain_text.specs.Text.{is_reference_letter}
use Rattle.chain_text.specs.Scan.{summary, steps}
use Rattle.chain_text.specs.declared.letters.Letters.{Letters}
use Rattle.chain_text.proofs.Steps.{start, steps-summary}
use Rattle.text_numerals.specs.Numeral.{Numeral, number_value, capped_value}
use Rattle.text_numbers.proofs.Numbers.{capped_range}
use Rattle.text_syntax.specs.Token as S
use Rattle.text_syntax.specs.Kind as K
use Rattle.text_syntax.specs.Kind.{Kind, kind}
use Rattle.text_syntax.specs.Form.{formed, unformed, held, one_of, then, or}
use Rattle.text_syntax.specs.Written.{chain, number}
use Rattle.text_syntax.specs.Grammar.{chain_form, number_in, term_form}
use Rattle.text_syntax.specs.Parts.{term_named, term_kinded, is_reference_term, term_short, term_in_range}
use Rattle.text_syntax.specs.Printed.{printed_chain}
use Rattle.text_syntax.proofs.TokenKinds.{token_of, token_kind}
use Rattle.text_syntax.proofs.Readers.{all_formed}
use Rattle.text_syntax.proofs.Chains.{ChainSpelled, chain_all, chain_own}
use Rattle.text_words.specs.Tokens.{token_code}
use Rattle.text_lexer.specs.Lexeme.{first_code, NumberFirst, Lexed}
use Rattle.text_lexer.specs.declared.lexer.Lexeme.{Lexeme}
use Rattle.text_words.specs.declared.token.Token.TheVariants.{Number}
use Rattle.text_codes.specs.declared.code.TermParts.{TermParts}
use Rattle.text_places.specs.Place.{tokens_from, Behind, Passing}
use Rattle.text_terms.specs.Chain.{Opens, NoChain, ChainFormed}
use Rattle.text_terms.specs.Term.{chain_parts, number_parts, ChainTerm, TermFormed, NoTerm}
use Rattle.text_codes.specs.Coded.{term_code, parts_of}

-- the parts of a chain and of a number
chain_parts_lem : (s : Sizes) (ls : List ℕ) (b : Bool) → b ≡ is_reference_term (chain ls) → chain_parts (summary s ls) b ≡ parts_of s (chain ls)
unfolding summary parts_of term_code term_named term_kinded term_short term_in_range
chain_parts_lem s ls b h = rw (h, at_most 16 (length ls))
  where
    at_most : (k n : ℕ) → not (ltb k n) ≡ leb n k
    at_most k n = grind (arith, nat_tests)

number-parts : (s : Sizes) (negative : Bool) (x : Numeral) → number_parts (sum_of (number_value negative x)) ≡ parts_of s (number negative x)
unfolding parts_of term_code term_named term_kinded term_short term_in_range is_reference_term sum_of
number-parts s negative x = go (in_range (number_value negative x)) refl
  where
    go : (y : Bool) → in_range (number_value negative x) ≡ y → number_parts (sum_of (number_value negative x)) ≡ parts_of s (number negative x)
    go true h = rw h
    go false h = rw h

-- a chain by its letters
chain_formed : {s : Sizes} {due : Bool} {line : List ℕ} {at : ℕ} {y : Letters} {end : ℕ} (b : Bool) (w : ChainFormed s 16 start due line at y end)
    → b ≡ is_reference_term (chain w.letters) → ChainTerm s due line at (chain_parts y b) end
chain_formed {s} b w h = record {
  letters = w.letters;
  form_is = w.form_is;
  parts_are = ap (λ (z : Letters). chain_parts z b) (w.letters_are ∙ steps-summary s w.letters) ∙ chain_parts_lem s w.letters b h;
  behind = w.behind;
}

pub own_chain : {s : Sizes} {due : Bool} {line : List ℕ} {at end : ℕ} → Passing due false S.own line at end
    → ChainTerm s due line at (chain_parts start true) end
unfolding is_reference_term steps
own_chain w = chain_formed true
    (record { letters = []; form_is = ap chain_form w.text ∙ chain_own _; letters_are = refl; small = omega arith; behind = w.behind }) refl

-- the kind of a chain is that of its first letter
letter-kind : (ts : List S.Token) (ls : List ℕ) {l : ℕ} {r q : List S.Token} → chain_form ts ≡ formed ls r → ts ≡ S.letter l ∷ q
    → ltb l 77 ≡ is_reference_term (chain ls)
unfolding is_reference_term is_reference_letter printed_chain
letter-kind ts [] {l} e t =
    let z : S.own ∷ _ ≡ S.letter l ∷ _ = sym (all_formed (ChainSpelled ts) (chain_all ts) e) ∙ t in
    absurd (let z : ◌≡◌ {A = ℕ} 0 1 = cc in omega arith)
letter-kind ts (m ∷ ls) {l} e t =
    let z : S.letter m ∷ _ ≡ S.letter l ∷ _ = sym (all_formed (ChainSpelled ts) (chain_all ts) e) ∙ t in
    let same : m ≡ l = cc in
    ap (λ (k : ℕ). ltb k 77) (sym same)

pub letter_chain : {s : Sizes} {due : Bool} {line : List ℕ} {at l end : ℕ} → Opens due line at l end → {y : Letters} {last : ℕ}
    → ChainFormed s 16 start due line at y last → ChainTerm s due line at (chain_parts y (ltb l 77)) last
letter_chain o h = chain_formed _ h (letter-kind _ h.letters h.form_is o.text)

-- a chain as a term
pub chain_term_lem : {s : Sizes} {line : List ℕ} {at : ℕ} {p : TermParts} {end : ℕ} → ChainTerm s true line at p end → TermFormed s line at p end
unfolding term_form or then
chain_term_lem w = record { written = chain w.letters; form_is = rw w.form_is; parts_are = w.parts_are; behind = w.behind }

-- a number as a term, where no chain stands
not_chain : {line : List ℕ} {at : ℕ} → NoChain true line at → term_form (tokens_from true line at) ≡ one_of number_in (tokens_from true line at)
unfolding term_form or then
not_chain w = rw w.none

pub number-formed : {s : Sizes} {line : List ℕ} {at end : ℕ} {v : ℤ} → NoChain true line at
    → NumberFirst v (tokens_from true line at) (tokens_from false line end) → Behind line at end → TermFormed s line at (number_parts (sum_of v)) end
unfolding one_of held number_in kind
number-formed {s} w n b = record {
  written = number n.negative n.numeral;
  form_is = not_chain w ∙ ap (one_of number_in) n.tokens_are;
  parts_are =
      ap (λ (z : ℤ). number_parts (sum_of z)) n.value-is
      ∙ ap number_parts (capped_range n.negative n.numeral)
      ∙ number-parts s n.negative n.numeral;
  behind = b;
}

pub number-none : {line : List ℕ} {at : ℕ} {x : Lexeme} → NoChain true line at → Lexed true line at x → ((v : ℤ) → x.token ≢ Number v) → NoTerm line at
unfolding one_of held number_in first_code token_code token_of
number-none {line} {at} {x} w h n = record { none = not_chain w ∙ go (tokens_from true line at) h.token_is }
  where
    found : (t : S.Token) (r : List S.Token) → x.token ≡ token_code t → (k : Kind) → kind t ≡ k → held (number_in k) r ≡ unformed
    found t r e (K.fixed m) q = refl
    found t r e (K.letter l) q = refl
    found t r e (K.number negative y) q = absurd (n (capped_value negative y) (e ∙ ap token_code (sym (token_kind t) ∙ ap token_of q)))
    found t r e (K.write k) q = refl
    found t r e (K.operator o) q = refl
    found t r e (K.comparison c) q = refl

    go : (ts : List S.Token) → x.token ≡ first_code ts → one_of number_in ts ≡ unformed
    go [] e = refl
    go (t ∷ r) e = found t r e (kind t) refl
