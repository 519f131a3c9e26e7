-- A text has tokens, all of them known, exactly when it spells them; so its tokens do not depend on its free spaces.
use Prim.Native.Nat.{ℕ, zero, suc, ◌≤◌}
use mathlib.Core.Path.{◌≡◌, refl, sym, ap, subst, ◌∙◌}
use mathlib.Core.Logic.{◌↔◌}
use mathlib.Core.Bool.{Bool, true, false, cond}
use mathlib.Core.List.{List, [], ◌∷◌, ◌++◌, append-nil}
use native.Mathlib.Omega.{arith}
use borrow.Author.Tests.{eqb-true, ne_eqb, le-leb, lt-leb, not-false}
use lib.Dec.{eqb}
use lib.ListN.{length, drop}
use lib.Seq.{drop-append_seam}
use Rattle.laws.specs.Lists.{Each, every}
use Rattle.laws.proofs.Bools.{and_both, true_false}
use Rattle.chain_text.specs.Text.{is_capital}
use Rattle.chain_text.specs.Scan.{starts_with}
use Rattle.chain_text.proofs.Steps.{capital-low}
use Rattle.program.specs.declared.rule.Comparison.TheVariants.{Less, Equal, Unequal}
use Rattle.program.specs.declared.rule.Sort.TheVariants.{Least, Total}
use Rattle.text_numerals.specs.Numeral as N
use Rattle.text_numerals.specs.Numeral.{is_digit, digits, Numeral, whole, metres, printed_numeral, all_digits, whole_digits, no_leading_zero, is_numeral, signed_form, signed_text, printed_number}
use Rattle.text_numerals.specs.Span.{span}
use Rattle.text_numerals.specs.Word.{opens_with}
use Rattle.text_numerals.proofs.Spans.{span-append, span_none}
use Rattle.text_numerals.proofs.Digits.{digit_low}
use Rattle.text_numerals.proofs.Numerals.{numeral-read}
use Rattle.program.specs.declared.rule.Operator.TheVariants.{Plus, Minus, Smaller}
use Rattle.text_syntax.specs.Token.{Token, stepWord, end_word, doneWord, loopWord, ifWord, remoteWord, own, letter, number, becomes, colon, write, operator, comparison, openSquare, closeSquare, openRound, closeRound, unknown}
use Rattle.text_syntax.specs.Lexing.{spelled, words, signs, First, first, none, fixed_token, number_token, first_token, operand_behind, is_space, unless_empty, skipped, tokens_at, tokens}
use Rattle.text_syntax.specs.Spelling.{NumberStands, Stands, spaces, Spells, empty, last, spaced, IsToken}
use Rattle.text_syntax.proofs.Lexing.{not_first, first_began, first-shorter, skipped-text, tokens-first, tokens_none, tokens-empty}

-- a number is read
module _ (operand : Bool) (r : List ℕ) where
  signed_read : (negative : Bool) (x : Numeral) → NumberStands operand negative x r → signed_form negative (printed_numeral x ++ r) ≡ N.number negative x r
  unfolding signed_form digits
  signed_read negative x h = rw (numeral-read x r h.digits (span_none is_digit r h.no_digit, h.no_point), h.numeral, drop-append_seam)

  digit-read : (d : ℕ) (t : List ℕ) → is_digit d ≡ true → first_token operand (d ∷ t) ≡ number_token (signed_form false (d ∷ t))
  unfolding first_token
  digit-read d t h = rw (ne_eqb d 45 (λ e. omega (arith, (digit_low d h).0)), h)

  number_read_lem : (negative : Bool) (x : Numeral) → NumberStands operand negative x r → first_token operand (printed_number negative x ++ r) ≡ first (number negative x) r
  unfolding printed_number signed_text number_token printed_numeral all_digits every is_numeral whole_digits no_leading_zero first_token
  number_read_lem true x h = rw (not-false operand h.sign, signed_read true x h)
  number_read_lem false (whole []) h = true_false h.numeral refl
  number_read_lem false (whole (d ∷ ds)) h = digit-read d _ (and_both (is_digit d) _ h.digits).0 ∙ ap number_token (signed_read false (whole (d ∷ ds)) h)
  number_read_lem false (metres [] cs) h = true_false h.numeral refl
  number_read_lem false (metres (d ∷ ds) cs) h = digit-read d _ (and_both (is_digit d) _ h.digits).0 ∙ ap number_token (signed_read false (metres (d ∷ ds) cs) h)

-- a letter
pub letter-read : (operand : Bool) (l : ℕ) (r : List ℕ) → is_capital l ≡ true → first_token operand (l ∷ r) ≡ first (letter l) r
unfolding first_token is_digit
letter-read operand l r h =
    let low = capital-low l h in
    rw (ne_eqb l 45 (λ e. omega arith), le-leb 48 l (omega arith), lt-leb l 57 (omega arith), h)

-- the shorter ones of which a longer token begins with
short-read : (long short : Token) (r : List ℕ) → starts_with 61 r ≡ false → cond (opens_with (61 ∷ []) r) (first long (drop 1 r)) (first short r) ≡ first short r
unfolding opens_with starts_with
short-read long short [] h = refl
short-read long short (c ∷ r) h = rw h

pub less_read : (r : List ℕ) → starts_with 63 r ≡ false
    → cond (opens_with (63 ∷ 61 ∷ []) r) (first (write Least) (drop 2 r)) (cond (opens_with (63 ∷ []) r) (first (operator Smaller) (drop 1 r)) (first (comparison Less) r))
    ≡ first (comparison Less) r
unfolding opens_with starts_with
less_read [] h = refl
less_read (c ∷ r) h = rw h

-- a token that may stand where it does is what the text begins with
stands-first : (operand : Bool) (k : Token) (r : List ℕ) → Stands operand k r → first_token operand (spelled k ++ r) ≡ first k r
unfolding first_token fixed_token words signs spelled opens_with is_digit is_capital
stands-first operand stepWord r h = refl
stands-first operand end_word r h = refl
stands-first operand doneWord r h = refl
stands-first operand loopWord r h = refl
stands-first operand ifWord r h = refl
stands-first operand remoteWord r h = refl
stands-first operand own r h = refl
stands-first operand (letter l) r h = letter-read operand l r h
stands-first operand (number negative x) r h = number_read_lem operand r negative x h
stands-first operand becomes r h = refl
stands-first operand colon r h = short-read becomes colon r h
stands-first operand (write Least) r h = refl
stands-first operand (write Total) r h = refl
stands-first operand (operator Plus) r h = short-read (write Total) (operator Plus) r h
stands-first operand (operator Minus) r h = rw h
stands-first operand (operator Smaller) r h = short-read (write Least) (operator Smaller) r h
stands-first operand (comparison Less) r h = less_read r h
stands-first operand (comparison Equal) r h = refl
stands-first operand (comparison Unequal) r h = refl
stands-first operand openSquare r h = refl
stands-first operand closeSquare r h = refl
stands-first operand openRound r h = refl
stands-first operand closeRound r h = refl
stands-first operand unknown r h = absurd h

-- no token begins with a space or a point
none_space : (operand : Bool) (t : List ℕ) → first_token operand (32 ∷ t) ≡ none
unfolding first_token fixed_token words signs spelled opens_with is_digit is_capital
none_space operand t = refl

none_point : (operand : Bool) (t : List ℕ) → first_token operand (46 ∷ t) ≡ none
unfolding first_token fixed_token words signs spelled opens_with is_digit is_capital
none_point operand t = refl

-- a text that begins with a token is what is left behind free spaces
spaces-every : (n : ℕ) → every is_space (spaces n) ≡ true
unfolding every is_space spaces
spaces-every zero = refl
spaces-every (suc n) = spaces-every n

skipped-spaces : (n : ℕ) (operand : Bool) (t : List ℕ) {k : Token} {r : List ℕ} → first_token operand t ≡ first k r → skipped (spaces n ++ t) ≡ t
unfolding skipped unless_empty span first_token is_space
skipped-spaces n operand [] e = not_first e
skipped-spaces n operand (b ∷ t) {k} {r} e = rw (span-append is_space (spaces n) (b ∷ t) (spaces-every n) (go (is_space b) refl), drop-append_seam (spaces n) (b ∷ t))
  where
    go : (x : Bool) → is_space b ≡ x → cond x (b ∷ span is_space t) [] ≡ []
    go true h = not_first (sym (none_space operand t) ∙ ap (λ (c : ℕ). first_token operand (c ∷ t)) (sym (eqb-true b 32 h)) ∙ e)
    go false h = refl

-- the first token of a spelling, and all of them
spells_first : {operand : Bool} {k : Token} {ks : List Token} {t : List ℕ} → Spells operand (k ∷ ks) t → (r : List ℕ) × (first_token operand t ≡ first k r)
spells_first (last {operand = operand} {k = k} h) = ([], ap (first_token operand) (sym (append-nil (spelled k))) ∙ stands-first operand k [] h)
spells_first (spaced {operand = operand} {k = k} {r = r} n h w) = (spaces n ++ r, stands-first operand k (spaces n ++ r) h)

none_left : (operand : Bool) → tokens_at operand (skipped []) ≡ []
unfolding skipped unless_empty span
none_left operand = tokens-empty operand

pub spells_tokens : {operand : Bool} {ks : List Token} {t : List ℕ} → Spells operand ks t → tokens_at operand t ≡ ks
spells_tokens (empty {operand = operand}) = tokens-empty operand
spells_tokens (last {operand = operand} {k = k} h) =
    tokens-first operand (spelled k) (ap (first_token operand) (sym (append-nil (spelled k))) ∙ stands-first operand k [] h)
    ∙ ap (λ (l : List Token). k ∷ l) (none_left (operand_behind k))
spells_tokens (spaced {operand = operand} {k = k} {r = r} n h w) =
    tokens-first operand (spelled k ++ (spaces n ++ r)) (stands-first operand k (spaces n ++ r) h)
    ∙ ap (λ (s : List ℕ). k ∷ tokens_at (operand_behind k) s) (skipped-spaces n (operand_behind k) r (spells_first w).1)
    ∙ ap (λ (l : List Token). k ∷ l) (spells_tokens w)

spells_known : {operand : Bool} {ks : List Token} {t : List ℕ} → Spells operand ks t → Each IsToken ks
spells_known empty = tt
spells_known (last {operand = operand} h) = ((λ e. subst (λ (j : Token). Stands operand j []) e h), tt)
spells_known (spaced {operand = operand} {r = r} n h w) = ((λ e. subst (λ (j : Token). Stands operand j (spaces n ++ r)) e h), spells_known w)

point_stays : (r : List ℕ) → skipped (46 ∷ r) ≡ 46 ∷ r
unfolding skipped unless_empty span is_space
point_stays r = refl

-- where all tokens behind are known, no point stands there
no_point : (operand : Bool) (r : List ℕ) → Each IsToken (tokens_at operand (skipped r)) → starts_with 46 r ≡ false
unfolding starts_with
no_point operand [] h = refl
no_point operand (c ∷ r) h = go (eqb c 46) refl
  where
    go : (x : Bool) → eqb c 46 ≡ x → x ≡ false
    go true e =
        let all : tokens_at operand (skipped (c ∷ r)) ≡ unknown ∷ [] =
        ap (λ (d : ℕ). tokens_at operand (skipped (d ∷ r))) (eqb-true c 46 e) ∙ ap (tokens_at operand) (point_stays r) ∙ tokens_none operand 46 r (none_point operand r) in
        absurd ((rw all at h).0 refl)
    go false e = refl

-- what is left of nothing but spaces
blank_empty : (r : List ℕ) → skipped r ≡ [] → r ≡ []
unfolding skipped unless_empty
blank_empty r e = go (drop (length (span is_space r)) r) e
  where
    go : (s : List ℕ) → unless_empty r s ≡ [] → r ≡ []
    go [] e = e
    go (c ∷ s) e = absurd (let z : ◌≡◌ {A = ℕ} 0 1 = cc in omega arith)

spells_empty : {operand : Bool} {t : List ℕ} → Spells operand [] t → t ≡ []
spells_empty empty = refl

-- a token, the spaces that are skipped behind it, and a text that is spelled
spells_more : {operand : Bool} (k : Token) (r : List ℕ) (ks : List Token) → Stands operand k r → Spells (operand_behind k) ks (skipped r)
    → Spells operand (k ∷ ks) (spelled k ++ r)
spells_more {operand} k r [] h w =
    let e = blank_empty r (spells_empty w) in
    subst (Spells operand (k ∷ [])) (sym (ap (λ (l : List ℕ). spelled k ++ l) e ∙ append-nil (spelled k))) (last (subst (Stands operand k) e h))
spells_more {operand} k r (j ∷ ks) h w =
    let free = skipped-text r in
    subst (λ (l : List ℕ). Spells operand (k ∷ j ∷ ks) (spelled k ++ l)) (sym free.1) (spaced free.0 (subst (Stands operand k) free.1 h) w)

known_spells : (n : ℕ) (operand : Bool) (t : List ℕ) → length t ≤ n → Each IsToken (tokens_at operand t) → Spells operand (tokens_at operand t) t
known_spells zero operand [] l h = rw tokens-empty empty
known_spells zero operand (b ∷ t) l h = absurd (omega arith)
known_spells (suc n) operand [] l h = rw tokens-empty empty
known_spells (suc n) operand (b ∷ t) l h = go (λ o s. known_spells n o s) (first_token operand (b ∷ t)) refl
  where
    go : ((o : Bool) (s : List ℕ) → length s ≤ n → Each IsToken (tokens_at o s) → Spells o (tokens_at o s) s)
        → (f : First) → first_token operand (b ∷ t) ≡ f → Spells operand (tokens_at operand (b ∷ t)) (b ∷ t)
    go ih none e = absurd ((subst (Each IsToken) (tokens_none operand b t e) h).0 refl)
    go ih (first k r) e =
        let w = first_began operand (b ∷ t) e in
        let all = tokens-first operand (b ∷ t) e in
        let known = (subst (Each IsToken) all h).1 in
        let less = first-shorter operand (b ∷ t) e in
        let o = operand_behind k in
        let spelling = spells_more k r (tokens_at o (skipped r)) (w.stands (no_point o r known)) (ih o (skipped r) (omega arith) known) in
        subst (λ (ks : List Token). Spells operand ks (b ∷ t)) (sym all) (subst (Spells operand (k ∷ tokens_at o (skipped r))) (sym w.text) spelling)

-- a text has these tokens and knows them all exactly when it spells them
pub tokens_exactly : (operand : Bool) (ks : List Token) (t : List ℕ) → (tokens_at operand t ≡ ks) × Each IsToken ks ↔ Spells operand ks t
tokens_exactly operand ks t = (
  (λ h. subst (λ (l : List Token). Spells operand l t) h.0 (known_spells (length t) operand t (omega arith) (subst (Each IsToken) (sym h.0) h.1))),
  (λ w. (spells_tokens w, spells_known w)),
)

-- "spaces between tokens are free": all ways to write the same tokens have them
pub tokens_spacing : {ks : List Token} {s t : List ℕ} → Spells false ks s → Spells false ks t → tokens s ≡ tokens t
unfolding tokens
tokens_spacing v w = spells_tokens v ∙ sym (spells_tokens w)
