-- How a text falls into tokens: what its first token is, and those behind it.
use Prim.Native.Nat.{ℕ, zero, suc, ◌+◌, ◌≤◌, ◌<◌}
use mathlib.Core.Path.{◌≡◌, refl, sym, ap, ap₂, subst, ◌∙◌}
use mathlib.Core.Logic.{◌≢◌}
use mathlib.Core.Bool.{Bool, true, false, cond, not, ◌&&◌}
use mathlib.Core.List.{List, [], ◌∷◌, ◌++◌}
use native.Mathlib.Omega.{arith}
use borrow.Author.Tests.{eqb-true, eq-eqb}
use lib.Dec.{eqb}
use lib.ListN.{length, drop, length-append}
use lib.Seq.{drop-drop}
use Rattle.laws.specs.Lists.{Each, every}
use Rattle.laws.proofs.Bools.{and_both, and-true, true_false}
use Rattle.chain_text.specs.Text.{is_capital}
use Rattle.chain_text.specs.Scan.{starts_with}
use Rattle.program.specs.declared.rule.Comparison.TheVariants.{Less, Equal, Unequal}
use Rattle.program.specs.declared.rule.Sort.TheVariants.{Least, Total}
use Rattle.text_numerals.specs.Numeral as N
use Rattle.text_numerals.specs.Numeral.{is_digit, starts_digit, digits, Numeral, whole, metres, printed_numeral, whole_digits, no_leading_zero, is_numeral, with_decimals, numeral, signed_form, signed_text, printed_number}
use Rattle.text_numerals.specs.Span.{span}
use Rattle.text_numerals.specs.Word.{opens_with}
use Rattle.text_numerals.proofs.Spans.{span-text, span-every, span-behind}
use Rattle.text_numerals.proofs.Numerals.{numeral-text, numeral-digits, whole-bound}
use Rattle.program.specs.declared.rule.Operator.TheVariants.{Plus, Smaller}
use Rattle.text_syntax.specs.Token.{Token, stepWord, end_word, doneWord, loopWord, ifWord, remoteWord, own, letter, number, becomes, colon, write, operator, comparison, openSquare, closeSquare, openRound, closeRound, unknown}
use Rattle.text_syntax.specs.Lexing.{spelled, words, signs, First, first, none, fixed_token, number_token, first_token, operand_behind, is_space, unless_empty, skipped, followed, tokens_within, tokens_at}
use Rattle.text_syntax.specs.Spelling.{Stands, spaces, IsToken}

pub not_first : {A : Type 0} {k : Token} {r : List ℕ} → none ≡ first k r → A
not_first e = absurd (let z : ◌≡◌ {A = ℕ} 0 1 = cc in omega arith)

-- the token that a text begins with: its bytes, of which there is one, and that it may stand there, unless a point follows
pub record Began (operand : Bool) (t : List ℕ) (k : Token) (r : List ℕ) : Type 0 where
  pub text : t ≡ spelled k ++ r
  pub some_byte : 0 < length (spelled k)
  pub stands : starts_with 46 r ≡ false → Stands operand k r

moved : {operand : Bool} {t : List ℕ} {k j : Token} {r s : List ℕ} → Began operand t k r → first k r ≡ first j s → Began operand t j s
moved {k = k} {j = j} {r = r} {s = s} w e = let same : k ≡ j = cc in let rest : r ≡ s = cc in rw (same, rest) at w

-- a number
digits-some : (ds : List ℕ) → no_leading_zero ds ≡ true → 0 < length ds
unfolding no_leading_zero
digits-some [] h = true_false h refl
digits-some (d ∷ []) h = omega arith
digits-some (d ∷ e ∷ ds) h = omega arith

number-some : (negative : Bool) (x : Numeral) → is_numeral negative x ≡ true → 0 < length (printed_number negative x)
unfolding is_numeral printed_number signed_text
number-some true x h = omega arith
number-some false x h = omega (arith, digits-some (whole_digits x) (and_both (no_leading_zero (whole_digits x)) _ h).0, whole-bound x)

-- no digit stands behind a numeral
numeral-behind : (t : List ℕ) → starts_digit (drop (length (printed_numeral (numeral t))) t) ≡ false
unfolding numeral with_decimals printed_numeral digits
numeral-behind t = go (starts_with 46 rest)
  where
    ds : List ℕ
    ds = digits t

    rest : List ℕ
    rest = drop (length ds) t

    cs : List ℕ
    cs = digits (drop 1 rest)

    place : drop (length cs) (drop 1 rest) ≡ drop (length (ds ++ (46 ∷ cs))) t
    place =
        let size : length ds + 1 + length cs ≡ length (ds ++ (46 ∷ cs)) = omega (arith, length-append ds (46 ∷ cs)) in
        ap (drop (length cs)) (drop-drop 1 (length ds) t) ∙ drop-drop (length cs) (length ds + 1) t ∙ ap (λ (n : ℕ). drop n t) size

    go : (x : Bool) → starts_digit (drop (length (printed_numeral (cond x (metres ds cs) (whole ds)))) t) ≡ false
    go true = ap starts_digit (sym place) ∙ span-behind is_digit (drop 1 rest)
    go false = span-behind is_digit t

module _ (operand negative : Bool) (sign : negative && not operand ≡ false) (t : List ℕ) {k : Token} {r : List ℕ} where
  signed_began : number_token (signed_form negative t) ≡ first k r → Began operand (signed_text negative t) k r
  unfolding signed_form number_token spelled printed_number signed_text
  signed_began e = go (is_numeral negative (numeral t)) refl e
    where
      behind : List ℕ
      behind = drop (length (printed_numeral (numeral t))) t

      text : (negative : Bool) → signed_text negative t ≡ signed_text negative (printed_numeral (numeral t)) ++ behind
      text true = ap (λ (l : List ℕ). 45 ∷ l) (numeral-text t)
      text false = numeral-text t

      go : (y : Bool) → is_numeral negative (numeral t) ≡ y → number_token (cond y (N.number negative (numeral t) behind) N.unformed) ≡ first k r
          → Began operand (signed_text negative t) k r
      go true h e = moved (record {
        text = text negative;
        some_byte = number-some negative (numeral t) h;
        stands = λ p. record { sign = sign; numeral = h; digits = numeral-digits t; no_digit = numeral-behind t; no_point = p };
      }) e
      go false h e = not_first e

-- a text that begins with a word
begins-text : (w t : List ℕ) → opens_with w t ≡ true → t ≡ w ++ drop (length w) t
unfolding opens_with
begins-text [] t h = refl
begins-text (b ∷ w) [] h = true_false h refl
begins-text (b ∷ w) (d ∷ t) h =
    let both = and_both (eqb d b) (opens_with w t) h in ap₂ (λ (c : ℕ) (l : List ℕ). c ∷ l) (eqb-true d b both.0) (begins-text w t both.1)

-- a token of a table
fixed_began : (t : List ℕ) (P : Token → List ℕ → Type 0) (ks : List Token) → Each (λ k. (r : List ℕ) → t ≡ spelled k ++ r → P k r) ks
    → (k : Token) (r : List ℕ) → fixed_token ks t ≡ first k r → (t ≡ spelled k ++ r) × P k r
unfolding fixed_token
fixed_began t P [] h k r e = not_first e
fixed_began t P (j ∷ ks) h k r e = go (fixed_began t P ks h.1 k r) (opens_with (spelled j) t) refl e
  where
    go : (fixed_token ks t ≡ first k r → (t ≡ spelled k ++ r) × P k r) → (x : Bool) → opens_with (spelled j) t ≡ x
        → cond x (first j (drop (length (spelled j)) t)) (fixed_token ks t) ≡ first k r → (t ≡ spelled k ++ r) × P k r
    go ih true q e =
        let same : j ≡ k = cc in
        let rest : drop (length (spelled j)) t ≡ r = cc in
        let text = begins-text (spelled j) t q ∙ ap (λ (l : List ℕ). spelled j ++ l) rest in
        let found : (t ≡ spelled j ++ r) × P j r = (text, h.0 r text) in
        subst (λ (i : Token). (t ≡ spelled i ++ r) × P i r) same found
    go ih false q e = ih e

-- "the longest token is taken first": what stands behind the shorter ones
no_equals : {long short : Token} (r : List ℕ) → long ≢ short → cond (opens_with (61 ∷ []) r) (first long (drop 1 r)) (first short r) ≡ first short r
    → starts_with 61 r ≡ false
unfolding opens_with starts_with
no_equals [] d f = refl
no_equals {long} {short} (c ∷ r) d f = go (eqb c 61) f
  where
    go : (x : Bool) → cond (x && true) (first long r) (first short (c ∷ r)) ≡ first short (c ∷ r) → x ≡ false
    go true f = absurd (d cc)
    go false f = refl

no_question : (r : List ℕ)
    → cond (opens_with (63 ∷ 61 ∷ []) r) (first (write Least) (drop 2 r))
    (cond (opens_with (63 ∷ []) r) (first (operator Smaller) (drop 1 r)) (first (comparison Less) r)) ≡ first (comparison Less) r
    → starts_with 63 r ≡ false
unfolding opens_with starts_with
no_question [] f = refl
no_question (c ∷ r) f = go (eqb c 63) (opens_with (61 ∷ []) r) f
  where
    go : (x y : Bool)
        → cond (x && y) (first (write Least) (drop 1 r)) (cond (x && true) (first (operator Smaller) r) (first (comparison Less) (c ∷ r)))
        ≡ first (comparison Less) (c ∷ r)
        → x ≡ false
    go true true f = absurd (let z : ◌≡◌ {A = ℕ} 0 1 = cc in omega arith)
    go true false f = absurd (let z : ◌≡◌ {A = ℕ} 0 1 = cc in omega arith)
    go false y f = refl

-- what is to be shown of a token of the table
abbrev Fixed : Bool → List ℕ → Token → List ℕ → Type 0
Fixed operand t k r = (0 < length (spelled k)) × (fixed_token (words ++ signs) t ≡ first k r → Stands operand k r)

-- and of a row of them
infixr 20 ◌▹◌
◌▹◌ : {A B : Type 0} → A → B → A × B
a ▹ b = (a, b)

table_began : (operand : Bool) (b : ℕ) (t : List ℕ) → eqb b 45 && operand ≡ false → {k : Token} {r : List ℕ}
    → fixed_token (words ++ signs) (b ∷ t) ≡ first k r → Began operand (b ∷ t) k r
unfolding fixed_token words signs spelled opens_with
table_began operand b t m {k} {r} e =
    let w = fixed_began (b ∷ t) (Fixed operand (b ∷ t)) (words ++ signs) rows k r e in
    record { text = w.0; some_byte = w.1.0; stands = λ p. w.1.1 e }
  where
    Begins : Token → Type 0
    Begins k = (r : List ℕ) → b ∷ t ≡ spelled k ++ r → Fixed operand (b ∷ t) k r

    plain : (k : Token) → 0 < length (spelled k) → ((r : List ℕ) → Stands operand k r) → Begins k
    plain k h s r e = (h, λ f. s r)

    short : (k : Token) → 0 < length (spelled k) → ((r : List ℕ) → fixed_token (words ++ signs) (spelled k ++ r) ≡ first k r → Stands operand k r) → Begins k
    short k h s r e = (h, λ f. s r (subst (λ (l : List ℕ). fixed_token (words ++ signs) l ≡ first k r) e f))

    at-operand : (r : List ℕ) → b ∷ t ≡ 45 ∷ r → operand ≡ false
    at-operand r e = let is : b ≡ 45 = cc in and-true operand (eq-eqb b 45 is) ∙ m

    rows : Each Begins (words ++ signs)
    rows =
        plain stepWord (omega arith) (λ r. tt)
        ▹ plain end_word (omega arith) (λ r. tt)
        ▹ plain doneWord (omega arith) (λ r. tt)
        ▹ plain loopWord (omega arith) (λ r. tt)
        ▹ plain ifWord (omega arith) (λ r. tt)
        ▹ plain remoteWord (omega arith) (λ r. tt)
        ▹ plain own (omega arith) (λ r. tt)
        ▹ plain openSquare (omega arith) (λ r. tt)
        ▹ plain closeSquare (omega arith) (λ r. tt)
        ▹ plain openRound (omega arith) (λ r. tt)
        ▹ plain closeRound (omega arith) (λ r. tt)
        ▹ plain becomes (omega arith) (λ r. tt)
        ▹ short colon (omega arith) (λ r. no_equals r (λ q. let z : ◌≡◌ {A = ℕ} 0 1 = cc in omega arith))
        ▹ plain (write Least) (omega arith) (λ r. tt)
        ▹ short (operator Smaller) (omega arith) (λ r. no_equals r (λ q. let z : ◌≡◌ {A = ℕ} 0 1 = cc in omega arith))
        ▹ short (comparison Less) (omega arith) no_question
        ▹ plain (comparison Equal) (omega arith) (λ r. tt)
        ▹ plain (comparison Unequal) (omega arith) (λ r. tt)
        ▹ plain (write Total) (omega arith) (λ r. tt)
        ▹ short (operator Plus) (omega arith) (λ r. no_equals r (λ q. let z : ◌≡◌ {A = ℕ} 0 1 = cc in omega arith))
        ▹ (λ r e. (omega arith, λ f. at-operand r e))
        ▹ tt

pub first_began : (operand : Bool) (t : List ℕ) {k : Token} {r : List ℕ} → first_token operand t ≡ first k r → Began operand t k r
unfolding first_token spelled signed_text
first_began operand [] e = not_first e
first_began operand (b ∷ t) {k} {r} e = minus-or (eqb b 45 && operand) refl e
  where
    fixed_or : (x : Bool) → is_capital b ≡ x → eqb b 45 && operand ≡ false → cond x (first (letter b) t) (fixed_token (words ++ signs) (b ∷ t)) ≡ first k r
        → Began operand (b ∷ t) k r
    fixed_or true h m e = moved (record { text = refl; some_byte = omega arith; stands = λ p. h }) e
    fixed_or false h m e = table_began operand b t m e

    digit_or : (x : Bool) → is_digit b ≡ x → eqb b 45 && operand ≡ false
        → cond x (number_token (signed_form false (b ∷ t))) (cond (is_capital b) (first (letter b) t) (fixed_token (words ++ signs) (b ∷ t))) ≡ first k r
        → Began operand (b ∷ t) k r
    digit_or true h m e = signed_began operand false refl (b ∷ t) e
    digit_or false h m e = fixed_or (is_capital b) refl m e

    minus-or : (x : Bool) → eqb b 45 && operand ≡ x
        → cond x (number_token (signed_form true t))
        (cond (is_digit b) (number_token (signed_form false (b ∷ t))) (cond (is_capital b) (first (letter b) t) (fixed_token (words ++ signs) (b ∷ t)))) ≡ first k r
        → Began operand (b ∷ t) k r
    minus-or true h e =
        let both = and_both (eqb b 45) operand h in
        rw (eqb-true b 45 both.0) (signed_began operand true (ap not both.1) t e)
    minus-or false h e = digit_or (is_digit b) refl h e

-- the free spaces
spaces_all : (s : List ℕ) → every is_space s ≡ true → s ≡ spaces (length s)
unfolding every is_space spaces
spaces_all [] h = refl
spaces_all (a ∷ s) h =
    let both = and_both (eqb a 32) (every is_space s) h in
    ap (λ (l : List ℕ). a ∷ l) (spaces_all s both.1) ∙ ap (λ (c : ℕ). c ∷ spaces (length s)) (eqb-true a 32 both.0)

pub skipped-text : (t : List ℕ) → (n : ℕ) × (t ≡ spaces n ++ skipped t)
unfolding skipped unless_empty spaces
skipped-text t = go (drop (length (span is_space t)) t) refl
  where
    go : (r : List ℕ) → drop (length (span is_space t)) t ≡ r → (n : ℕ) × (t ≡ spaces n ++ unless_empty t r)
    go [] e = (0, refl)
    go (b ∷ r) e = (
      length (span is_space t),
      span-text is_space t ∙ ap (λ (l : List ℕ). span is_space t ++ l) e ∙ ap (λ (s : List ℕ). s ++ (b ∷ r)) (spaces_all (span is_space t) (span-every is_space t)),
    )

pub skipped-bound : (t : List ℕ) → length (skipped t) ≤ length t
skipped-bound t = let w = skipped-text t in omega (arith, ap length w.1, length-append (spaces w.0) (skipped t))

-- a token takes bytes
pub first-shorter : (operand : Bool) (t : List ℕ) {k : Token} {r : List ℕ} → first_token operand t ≡ first k r → length (skipped r) < length t
first-shorter operand t {k} {r} e =
    let w = first_began operand t e in
    omega (arith, w.some_byte, ap length w.text, length-append (spelled k) r, skipped-bound r)

pub first-known : (operand : Bool) (t : List ℕ) {k : Token} {r : List ℕ} → first_token operand t ≡ first k r → IsToken k
unfolding spelled
first-known operand t {k} {r} e same =
    let none_left : 0 < length (spelled unknown) = subst (λ (j : Token). 0 < length (spelled j)) same (first_began operand t e).some_byte in
    omega arith

-- more than the text's length changes nothing
tokens-enough : (n m : ℕ) (operand : Bool) (t : List ℕ) → length t ≤ n → length t ≤ m → tokens_within n operand t ≡ tokens_within m operand t
unfolding tokens_within followed
tokens-enough zero zero operand t h k = refl
tokens-enough zero (suc m) operand [] h k = refl
tokens-enough zero (suc m) operand (b ∷ t) h k = absurd (omega arith)
tokens-enough (suc n) zero operand [] h k = refl
tokens-enough (suc n) zero operand (b ∷ t) h k = absurd (omega arith)
tokens-enough (suc n) (suc m) operand [] h k = refl
tokens-enough (suc n) (suc m) operand (b ∷ t) h k = go (tokens-enough n m) (first_token operand (b ∷ t)) refl
  where
    go : ((o : Bool) (s : List ℕ) → length s ≤ n → length s ≤ m → tokens_within n o s ≡ tokens_within m o s)
        → (f : First) → first_token operand (b ∷ t) ≡ f → followed f (tokens_within n) ≡ followed f (tokens_within m)
    go ih none e = refl
    go ih (first j r) e =
        let less = first-shorter operand (b ∷ t) e in
        ap (λ (l : List Token). j ∷ l) (ih (operand_behind j) (skipped r) (omega arith) (omega arith))

-- the tokens of a text are its first token and the tokens behind it
pub tokens-first : (operand : Bool) (t : List ℕ) {k : Token} {r : List ℕ} → first_token operand t ≡ first k r
    → tokens_at operand t ≡ k ∷ tokens_at (operand_behind k) (skipped r)
unfolding tokens_at tokens_within followed first_token
tokens-first operand [] e = not_first e
tokens-first operand (b ∷ t) {k} {r} e =
    let less = first-shorter operand (b ∷ t) e in
    ap (λ (f : First). followed f (tokens_within (length t))) e
    ∙ ap (λ (l : List Token). k ∷ l) (tokens-enough (length t) (length (skipped r)) (operand_behind k) (skipped r) (omega arith) (omega arith))

pub tokens_none : (operand : Bool) (b : ℕ) (t : List ℕ) → first_token operand (b ∷ t) ≡ none → tokens_at operand (b ∷ t) ≡ unknown ∷ []
unfolding tokens_at tokens_within followed
tokens_none operand b t e = ap (λ (f : First). followed f (tokens_within (length t))) e

pub tokens-empty : (operand : Bool) → tokens_at operand [] ≡ []
unfolding tokens_at tokens_within
tokens-empty operand = refl
