-- What one token of a line says of the tokens from its place on.
use Rattle.std.specs.Prelude.{Some}
use Rattle.std.proofs.lemmas.Option.{none-some, same_Some}
use Prim.Native.Nat.{ℕ}
use mathlib.Core.Path.{◌≡◌, refl, sym, ap, subst, ◌∙◌}
use mathlib.Core.Logic.{◌≢◌}
use mathlib.Core.Bool.{Bool, true, false, cond, not, ◌&&◌}
use mathlib.Core.List.{List, [], ◌∷◌, ◌++◌}
use mathlib.Core.Option.{Option, none, some}
use native.Mathlib.Omega.{arith}
use lib.Dec.{T, eqb}
use lib.ListN.{length, drop}
use denote.Enum.Declared.{tag_of}
use types.Run.{OneOf, miss}
use mir.Val.{has_key}
use Rattle.chain_text.specs.Text.{is_capital}
use Rattle.text_numerals.specs.Numeral as N
use Rattle.text_numerals.specs.Numeral.{is_digit, NumberForm, signed_form}
use Rattle.text_numerals.specs.Word.{opens_with}
use Rattle.text_syntax.specs.Token as S
use Rattle.text_syntax.specs.Kind.{Kind, kind, is, letter_in}
use Rattle.text_syntax.specs.Form.{Form, unformed, held, one_of, past}
use Rattle.text_syntax.specs.Lexing.{operand_behind, First, first, fixed_token, words, signs, spelled, number_token, first_token, tokens_at}
use Rattle.text_syntax.proofs.TokenKinds.{token_of, token_kind, is_true}
use Rattle.text_syntax.proofs.Lexing.{not_first, tokens-first, tokens_none, tokens-empty}
use Rattle.text_words.specs.Tokens.{token_code}
use Rattle.text_lexer.specs.Lexeme.{first_code, Reads, Lexed}
use Rattle.text_words.specs.declared.token.Token.{Token}
use Rattle.text_words.specs.declared.token.Token.TheVariants.{Step, End, Done, Loop, If, Remote, Own, Letter, Number, Becomes, Colon, Write, Operator, Compared, OpenSquare, CloseSquare, OpenRound, CloseRound, Unknown, LineEnd}
use Rattle.text_lexer.specs.declared.lexer.Lexeme.{Lexeme}
use Rattle.text_words.specs.contracts.token.Token.{the_type}
use Rattle.text_places.specs.Place.{tokens_from, Behind, begins, mark_token, code_mark, Passing, Absent}
use Rattle.text_places.specs.declared.mark.Mark.{Mark}
use Rattle.text_places.specs.declared.mark.Mark.TheVariants as M

pub behind-behind : {line : List ℕ} {at i end : ℕ} → Behind line at i → Behind line i end → Behind line at end
behind-behind v w = record { onward = omega (arith, v.onward, w.onward); inside = w.inside }

-- a token that is one of some kinds is none of another
pub told : (ks : List ℕ) {k w : Token} → OneOf ks (tag_of the_type k) → T (not (has_key ks (tag_of the_type w))) → k ≢ w
told ks {k} {w} h m e = miss ks (tag_of the_type w) m (subst (λ (x : Token). OneOf ks (tag_of the_type x)) e h)

-- what was read at a place
module _ {due : Bool} {line : List ℕ} {at : ℕ} {x : Lexeme} (w : Lexed due line at x) where
  pub passed : {k : Token} → x.token ≡ k → Reads k (tokens_from due line at) (λ o. tokens_from o line x.end)
  passed e = subst (λ (k : Token). Reads k (tokens_from due line at) (λ o. tokens_from o line x.end)) e w.reads

  pub goes_on_lem : (k : Token) → x.token ≡ k → T (not (has_key (19 ∷ []) (tag_of the_type k))) → Behind line at x.end
  goes_on_lem k e h = record
      { onward = w.onward (λ q. told (19 ∷ []) {w = k} (subst (λ (y : Token). OneOf (19 ∷ []) (tag_of the_type y)) (sym q) refl) h e); inside = w.inside }

  -- another token than t
  pub absent : (t : S.Token) → x.token ≢ token_code t → Absent due t line at
  unfolding first_code begins
  absent t n = record { absent = go (tokens_from due line at) w.token_is }
    where
      found : (k : S.Token) (r : List S.Token) → x.token ≡ first_code (k ∷ r) → (y : Bool) → is t k ≡ y → y ≡ false
      found k r e true h = absurd (n (e ∙ ap token_code (is_true t k h)))
      found k r e false h = refl

      go : (ts : List S.Token) → x.token ≡ first_code ts → begins t ts ≡ false
      go [] e = refl
      go (k ∷ r) e = found k r e (is t k) refl

  -- no token of a kind
  pub none_of : {A : Type 0} (f : Kind → Option A) (token : A → S.Token) → ((k : Kind) (a : A) → f k ≡ some a → token_of k ≡ token a)
      → ((a : A) → x.token ≢ token_code (token a)) → one_of f (tokens_from due line at) ≡ unformed
  unfolding held first_code one_of
  none_of {A} f token holds n = go (tokens_from due line at) w.token_is
    where
      found : (k : S.Token) (r : List S.Token) → x.token ≡ first_code (k ∷ r) → (o : Option A) → f (kind k) ≡ o → held o r ≡ unformed
      found k r e none h = refl
      found k r e (some a) h = absurd (n a (e ∙ ap token_code (sym (token_kind k) ∙ holds (kind k) a h)))

      go : (ts : List S.Token) → x.token ≡ first_code ts → one_of f ts ≡ unformed
      go [] e = refl
      go (k ∷ r) e = found k r e (f (kind k)) refl

-- a token that is a mark
marked : (k : Token) {m : Mark} → code_mark k ≡ Some m → k ≡ token_code (mark_token m)
unfolding token_code
marked Own e = ap (λ (m : Mark). token_code (mark_token m)) (same_Some _ _ e)
marked Becomes e = ap (λ (m : Mark). token_code (mark_token m)) (same_Some _ _ e)
marked Colon e = ap (λ (m : Mark). token_code (mark_token m)) (same_Some _ _ e)
marked OpenSquare e = ap (λ (m : Mark). token_code (mark_token m)) (same_Some _ _ e)
marked CloseSquare e = ap (λ (m : Mark). token_code (mark_token m)) (same_Some _ _ e)
marked OpenRound e = ap (λ (m : Mark). token_code (mark_token m)) (same_Some _ _ e)
marked CloseRound e = ap (λ (m : Mark). token_code (mark_token m)) (same_Some _ _ e)
marked Step e = absurd (none-some _ e)
marked End e = absurd (none-some _ e)
marked Done e = absurd (none-some _ e)
marked Loop e = absurd (none-some _ e)
marked If e = absurd (none-some _ e)
marked Remote e = absurd (none-some _ e)
marked (Letter v) e = absurd (none-some _ e)
marked (Number v) e = absurd (none-some _ e)
marked (Write k) e = absurd (none-some _ e)
marked (Operator o) e = absurd (none-some _ e)
marked (Compared c) e = absurd (none-some _ e)
marked Unknown e = absurd (none-some _ e)
marked LineEnd e = absurd (none-some _ e)

mark_code : (m : Mark) → code_mark (token_code (mark_token m)) ≡ Some m
unfolding token_code
mark_code M.Own = refl
mark_code M.Becomes = refl
mark_code M.Colon = refl
mark_code M.OpenSquare = refl
mark_code M.CloseSquare = refl
mark_code M.OpenRound = refl
mark_code M.CloseRound = refl

mark_reads : (m : Mark) {ts : List S.Token} (rest : Bool → List S.Token) → Reads (token_code (mark_token m)) ts rest
    → ts ≡ mark_token m ∷ rest (operand_behind (mark_token m))
unfolding token_code operand_behind
mark_reads M.Own rest r = r
mark_reads M.Becomes rest r = r
mark_reads M.Colon rest r = r
mark_reads M.OpenSquare rest r = r
mark_reads M.CloseSquare rest r = r
mark_reads M.OpenRound rest r = r
mark_reads M.CloseRound rest r = r

module _ {due : Bool} {line : List ℕ} {at : ℕ} {x : Lexeme} (w : Lexed due line at x) (m : Mark) where
  pub mark_passed : code_mark x.token ≡ Some m → Passing due (operand_behind (mark_token m)) (mark_token m) line at x.end
  mark_passed e = record {
    text = mark_reads m (λ o. tokens_from o line x.end) (passed w (marked x.token e));
    behind = record { onward = w.onward (λ q. none-some m (sym (ap code_mark q) ∙ e)); inside = w.inside };
  }

  pub mark_absent : code_mark x.token ≢ Some m → Absent due (mark_token m) line at
  mark_absent n = absent w (mark_token m) (λ q. n (ap code_mark q ∙ mark_code m))

pub past-absent : {A : Type 0} (w : S.Token) (ts : List S.Token) (f : List S.Token → Form A) → begins w ts ≡ false → past w ts f ≡ unformed
unfolding past begins
past-absent w [] f h = refl
past-absent w (t ∷ r) f h = rw h

-- a letter is a capital
abbrev NoLetters : List S.Token → Type 0
NoLetters [] = Unit {0}
NoLetters (k ∷ ks) = (letter_in (kind k) ≡ none) × NoLetters ks

table-letter : {l : ℕ} {r : List ℕ} (ks : List S.Token) (t : List ℕ) → NoLetters ks → fixed_token ks t ≡ first (S.letter l) r → ⊥
unfolding fixed_token letter_in kind
table-letter [] t n e = not_first e
table-letter {l} {r} (k ∷ ks) t n e = go (table-letter ks t n.1) (opens_with (spelled k) t) e
  where
    clash : (k : S.Token) → letter_in (kind k) ≡ none → k ≡ S.letter l → ⊥
    clash k h q = let z : some l ≡ none = sym (ap (λ (j : S.Token). letter_in (kind j)) q) ∙ h in absurd (let z : ◌≡◌ {A = ℕ} 0 1 = cc in omega arith)

    go : (fixed_token ks t ≡ first (S.letter l) r → ⊥) → (y : Bool)
        → cond y (first k (drop (length (spelled k)) t)) (fixed_token ks t) ≡ first (S.letter l) r → ⊥
    go ih true e = clash k n.0 cc
    go ih false e = ih e

number-letter : {l : ℕ} {r : List ℕ} (f : NumberForm) → number_token f ≡ first (S.letter l) r → ⊥
unfolding number_token
number-letter (N.number negative x rest) e = absurd (let z : ◌≡◌ {A = ℕ} 0 1 = cc in omega arith)
number-letter N.unformed e = not_first e

first-letter : (due : Bool) (t : List ℕ) {l : ℕ} {r : List ℕ} → first_token due t ≡ first (S.letter l) r → is_capital l ≡ true
unfolding first_token words signs letter_in kind
first-letter due [] e = not_first e
first-letter due (b ∷ t) {l} {r} e = minus (eqb b 45 && due) e
  where
    capital : (y : Bool) → is_capital b ≡ y → cond y (first (S.letter b) t) (fixed_token (words ++ signs) (b ∷ t)) ≡ first (S.letter l) r → is_capital l ≡
        true
    capital true h e = let same : b ≡ l = cc in ap is_capital (sym same) ∙ h
    capital false h e = absurd (table-letter (words ++ signs) (b ∷ t) (
      refl,
      (
        refl,
        (
          refl,
          (
            refl,
            (refl, (refl, (refl, (refl, (refl, (refl, (refl, (refl, (refl, (refl, (refl, (refl, (refl, (refl, (refl, (refl, (refl, tt))))))))))))))))),
          ),
        ),
      ),
    )
        e)

    digit : (y : Bool)
        → cond y (number_token (signed_form false (b ∷ t))) (cond (is_capital b) (first (S.letter b) t) (fixed_token (words ++ signs) (b ∷ t))) ≡ first
        (S.letter l) r
        → is_capital l ≡ true
    digit true e = absurd (number-letter (signed_form false (b ∷ t)) e)
    digit false e = capital (is_capital b) refl e

    minus : (y : Bool)
        → cond y (number_token (signed_form true t))
        (cond (is_digit b) (number_token (signed_form false (b ∷ t))) (cond (is_capital b) (first (S.letter b) t) (fixed_token (words ++ signs) (b ∷ t))))
        ≡ first (S.letter l) r → is_capital l ≡ true
    minus true e = absurd (number-letter (signed_form true t) e)
    minus false e = digit (is_digit b) e

pub letter-capital : (due : Bool) (t : List ℕ) {l : ℕ} {ks : List S.Token} → tokens_at due t ≡ S.letter l ∷ ks → is_capital l ≡ true
letter-capital due [] e = let z : [] ≡ S.letter _ ∷ _ = sym (tokens-empty due) ∙ e in absurd (let z : ◌≡◌ {A = ℕ} 0 1 = cc in omega arith)
letter-capital due (b ∷ t) {l} {ks} e = go (first_token due (b ∷ t)) refl
  where
    go : (f : First) → first_token due (b ∷ t) ≡ f → is_capital l ≡ true
    go First.none h = let z : S.unknown ∷ [] ≡ S.letter l ∷ ks = sym (tokens_none due b t h) ∙ e in absurd (let z : ◌≡◌ {A = ℕ} 0 1 = cc in omega arith)
    go (first k r) h =
        let all : k ∷ _ ≡ S.letter l ∷ ks = sym (tokens-first due (b ∷ t) h) ∙ e in
        let same : k ≡ S.letter l = cc in
        first-letter due (b ∷ t) (h ∙ ap (λ (j : S.Token). first j r) same)
