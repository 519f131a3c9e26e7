-- What the lexer's answer says of the tokens of the line: the token read, and the tokens from the next place on.
use Rattle.std.specs.Prelude.{Some, None}
use Rattle.std.proofs.lemmas.Option.{none-some, some_pair_parts}
use Prim.Native.Nat.{ℕ, ◌+◌, ◌-◌, ◌≤◌, ◌<◌}
use mathlib.Core.Path.{◌≡◌, refl, sym, ap, ap₂, subst, ◌∙◌}
use mathlib.Core.Bool.{Bool}
use mathlib.Core.List.{List, [], ◌∷◌}
use native.Mathlib.Omega.{arith}
use native.Mathlib.Decide.{dec_lt}
use lib.ListN.{length, drop, length-append, length-drop, drop_of_length-le}
use lib.Seq.{drop-drop, drop-append_seam}
use Rattle.text_syntax.specs.Token as S
use Rattle.program.specs.declared.rule.Operator.TheVariants.{Plus, Minus, Smaller}
use Rattle.text_syntax.specs.Token.{stepWord, end_word, doneWord, loopWord, ifWord, remoteWord, own, letter, number, becomes, colon, write, operator, comparison, openSquare, closeSquare, openRound, closeRound, unknown}
use Rattle.text_syntax.specs.Lexing.{spelled, First, first, none, first_token, operand_behind, skipped, tokens_at}
use Rattle.text_syntax.specs.Spelling.{IsToken, spaces}
use Rattle.text_syntax.proofs.Lexing.{first_began, first-known, skipped-text, tokens-first, tokens_none, tokens-empty}
use Rattle.text_words.specs.Tokens.{token_code, sized_first}
use Rattle.text_lexer.specs.Lexeme.{next_place, placed, lexeme, first_code, Reads, Lexed}
use Rattle.text_words.specs.declared.token.Token.{Token}
use Rattle.text_words.specs.declared.token.Token.TheVariants.{Unknown, LineEnd}
use Rattle.text_lexer.specs.declared.lexer.Lexeme.{Lexeme}

-- a text that is not at its end
lexeme-some : (operand : Bool) (at : ℕ) (t : List ℕ) → 0 < length t → lexeme operand at t ≡ placed at t (first_token operand t)
unfolding lexeme
lexeme-some operand at [] h = absurd (omega arith)
lexeme-some operand at (b ∷ t) h = refl

pub lexeme-end : (operand : Bool) (t : List ℕ) (at : ℕ) → length t ≤ at → lexeme operand at (drop at t) ≡ record { token = LineEnd; end = at }
unfolding lexeme
lexeme-end operand t at h = rw (drop_of_length-le t h)

-- what stands behind a token
module _ (operand : Bool) (t : List ℕ) (at : ℕ) {k : S.Token} {r : List ℕ} (read : first_token operand (drop at t) ≡ first k r) where
  first-size : 0 < length (spelled k)
  first-size = (first_began operand (drop at t) read).some_byte

  first_rest : r ≡ drop (at + length (spelled k)) t
  first_rest =
      sym (ap (drop (length (spelled k))) (first_began operand (drop at t) read).text ∙ drop-append_seam (spelled k) r)
      ∙ drop-drop (length (spelled k)) at t

  first-inside : at ≤ length t → at + length (spelled k) ≤ length t
  first-inside h =
      omega (arith, ap length (first_began operand (drop at t) read).text, length-append (spelled k) r, length-drop at t)

-- the answer, by the token at `at` and its size
module _ (operand : Bool) (t : List ℕ) (at : ℕ) (inside : at < length t) where
  answer : lexeme operand at (drop at t) ≡ placed at (drop at t) (first_token operand (drop at t))
  answer = lexeme-some operand at (drop at t) (omega (arith, length-drop at t))

  pub lexeme_unknown : sized_first (first_token operand (drop at t)) ≡ None → record { token = Unknown; end = length t } ≡ lexeme operand at (drop at t)
  unfolding placed sized_first
  lexeme_unknown z = go (first_token operand (drop at t)) refl
    where
      go : (f : First) → first_token operand (drop at t) ≡ f → record { token = Unknown; end = length t } ≡ lexeme operand at (drop at t)
      go none e = ap (λ (n : ℕ). record { token = Unknown; end = n }) (omega (arith, length-drop at t)) ∙ sym (answer ∙ ap (placed at (drop at t)) e)
      go (first k r) e = absurd (none-some _ (sym z ∙ ap sized_first e))

  module _ {c : Token} {size : ℕ} (read : sized_first (first_token operand (drop at t)) ≡ Some (c, size)) where
    pub sized_inside : at + size ≤ length t
    unfolding sized_first
    sized_inside = go (first_token operand (drop at t)) refl
      where
        go : (f : First) → first_token operand (drop at t) ≡ f → at + size ≤ length t
        go none e = absurd (none-some _ (sym (ap sized_first e) ∙ read))
        go (first k r) e =
            omega (arith, first-inside operand t at e (omega arith), (some_pair_parts _ _ _ _ (sym (ap sized_first e) ∙ read)).1)

    pub lexeme-known : {end : ℕ} → end ≡ next_place (at + size) (drop (at + size) t) → record { token = c; end = end } ≡ lexeme operand at (drop at t)
    unfolding placed sized_first
    lexeme-known {end} q = go (first_token operand (drop at t)) refl
      where
        go : (f : First) → first_token operand (drop at t) ≡ f → record { token = c; end = end } ≡ lexeme operand at (drop at t)
        go none e = absurd (none-some _ (sym (ap sized_first e) ∙ read))
        go (first k r) e =
            let same = some_pair_parts _ _ _ _ (sym (ap sized_first e) ∙ read) in
            let place : end ≡ next_place (at + length (spelled k)) r =
            q
            ∙ ap (λ (n : ℕ). next_place (at + n) (drop (at + n) t)) (sym same.1)
            ∙ ap (next_place (at + length (spelled k))) (sym (first_rest operand t at e)) in
            ap₂ (λ (d : Token) (n : ℕ). record { token = d; end = n }) (sym same.0) place ∙ sym (answer ∙ ap (placed at (drop at t)) e)

-- the next place stands inside the text, and is not before
place_inside : (t : List ℕ) (at : ℕ) (r : List ℕ) → at ≤ length t → length r ≡ length t - at → next_place at r ≤ length t
unfolding next_place
place_inside t at r l e = omega arith

place_onward : (at : ℕ) (r : List ℕ) → at ≤ next_place at r
unfolding next_place
place_onward at r = omega arith

-- the text from the next place on
place_rest : (t : List ℕ) (at : ℕ) → drop (next_place at (drop at t)) t ≡ skipped (drop at t)
unfolding next_place
place_rest t at =
    let r = drop at t in
    let free = skipped-text r in
    let size : length r ≡ length (spaces free.0) + length (skipped r) = ap length free.1 ∙ length-append (spaces free.0) (skipped r) in
    let count : length r - length (skipped r) ≡ length (spaces free.0) = omega arith in
    sym (drop-drop (length r - length (skipped r)) at t)
    ∙ ap (λ (n : ℕ). drop n r) count
    ∙ ap (drop (length (spaces free.0))) free.1
    ∙ drop-append_seam (spaces free.0) (skipped r)

-- a token of one byte: the tokens from the place behind it on
pub byte_tokens : (operand : Bool) (t : List ℕ) (at : ℕ) {b : ℕ} {k : S.Token} {end : ℕ} → end ≡ next_place (at + 1) (drop (at + 1) t)
    → drop at t ≡ b ∷ drop (at + 1) t → first_token operand (b ∷ drop (at + 1) t) ≡ first k (drop (at + 1) t)
    → tokens_at operand (drop at t) ≡ k ∷ tokens_at (operand_behind k) (drop end t)
byte_tokens operand t at {k = k} place text read =
    tokens-first operand (drop at t) (ap (first_token operand) text ∙ read)
    ∙ ap (λ (s : List ℕ). k ∷ tokens_at (operand_behind k) s) (sym (ap (λ (n : ℕ). drop n t) place ∙ place_rest t (at + 1)))

pub byte_onward : (t : List ℕ) (at : ℕ) → at < length t → {end : ℕ} → end ≡ next_place (at + 1) (drop (at + 1) t) → (at < end) × (end ≤ length t)
byte_onward t at h place = (omega (arith, place_onward (at + 1) (drop (at + 1) t)), omega (arith, place_inside t (at + 1) (drop (at + 1) t) (omega arith) (length-drop (at + 1) t)))

-- a token before others, as its code says it
coded_reads : (k : S.Token) → IsToken k → (rest : Bool → List S.Token) → Reads (token_code k) (k ∷ rest (operand_behind k)) rest
unfolding token_code operand_behind
coded_reads stepWord h rest = refl
coded_reads end_word h rest = refl
coded_reads doneWord h rest = refl
coded_reads loopWord h rest = refl
coded_reads ifWord h rest = refl
coded_reads remoteWord h rest = refl
coded_reads own h rest = refl
coded_reads (letter l) h rest = refl
coded_reads (number negative x) h rest = record { negative = negative; numeral = x; value-is = refl; tokens_are = refl }
coded_reads becomes h rest = refl
coded_reads colon h rest = refl
coded_reads (write k) h rest = refl
coded_reads (operator Plus) h rest = refl
coded_reads (operator Minus) h rest = refl
coded_reads (operator Smaller) h rest = refl
coded_reads (comparison c) h rest = refl
coded_reads openSquare h rest = refl
coded_reads closeSquare h rest = refl
coded_reads openRound h rest = refl
coded_reads closeRound h rest = refl
coded_reads unknown h rest = absurd (h refl)

-- the answer by tokens alone
module _ (operand : Bool) (t : List ℕ) (at : ℕ) where
  lexed-end : length t ≤ at → at ≤ length t → Lexed operand t at (record { token = LineEnd; end = at })
  unfolding first_code
  lexed-end h l =
      let nothing : tokens_at operand (drop at t) ≡ [] = ap (tokens_at operand) (drop_of_length-le t h) ∙ tokens-empty operand in
      record { token_is = sym (ap first_code nothing); reads = nothing; inside = l; onward = λ z. absurd (z refl) }

  module _ (h : at < length t) where
    lexed_unknown : first_token operand (drop at t) ≡ none → Lexed operand t at (placed at (drop at t) none)
    unfolding first_code placed token_code
    lexed_unknown e =
        let size = length-drop at t in
        let one : tokens_at operand (drop at t) ≡ unknown ∷ [] = some-none (drop at t) (omega arith) e in
        record { token_is = sym (ap first_code one); reads = one; inside = omega arith; onward = λ z. omega arith }
      where
        some-none : (s : List ℕ) → 0 < length s → first_token operand s ≡ none → tokens_at operand s ≡ unknown ∷ []
        some-none [] l e = absurd (omega arith)
        some-none (b ∷ s) l e = tokens_none operand b s e

    lexed-known : {k : S.Token} {r : List ℕ} → first_token operand (drop at t) ≡ first k r → Lexed operand t at (placed at (drop at t) (first k r))
    unfolding first_code placed
    lexed-known {k} {r} e =
        let n = at + length (spelled k) in
        let rest-is = first_rest operand t at e in
        let next : skipped r ≡ drop (next_place n r) t = sym (ap (λ (s : List ℕ). drop (next_place n s) t) rest-is ∙ place_rest t n ∙ ap skipped (sym rest-is)) in
        let all : tokens_at operand (drop at t) ≡ k ∷ tokens_at (operand_behind k) (drop (next_place n r) t) =
        tokens-first operand (drop at t) e ∙ ap (λ (s : List ℕ). k ∷ tokens_at (operand_behind k) s) next in
        let rest : Bool → List S.Token = λ o. tokens_at o (drop (next_place n r) t) in
        record {
          token_is = sym (ap first_code all);
          reads = subst (λ (ts : List S.Token). Reads (token_code k) ts rest) (sym all) (coded_reads k (first-known operand (drop at t) e) rest);
          inside = place_inside t n r (first-inside operand t at e (omega arith)) (ap length rest-is ∙ length-drop n t);
          onward = λ z. omega (arith, first-size operand t at e, place_onward n r);
        }

  pub lexed : {x : Lexeme} → at ≤ length t → x ≡ lexeme operand at (drop at t) → Lexed operand t at x
  lexed {x} l e = subst (Lexed operand t at) (sym e) (go (dec_lt at (length t)))
    where
      found : (h : at < length t) (f : First) → first_token operand (drop at t) ≡ f → Lexed operand t at (placed at (drop at t) f)
      found h none e = lexed_unknown h e
      found h (first k r) e = lexed-known h e

      go : Dec (at < length t) → Lexed operand t at (lexeme operand at (drop at t))
      go (yes h) = subst (Lexed operand t at) (sym (lexeme-some operand at (drop at t) (omega (arith, length-drop at t)))) (found h (first_token operand (drop at t)) refl)
      go (no h) = subst (Lexed operand t at) (sym (lexeme-end operand t at (omega arith))) (lexed-end (omega arith) l)
