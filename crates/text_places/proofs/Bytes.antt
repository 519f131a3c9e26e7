-- Tokens of one byte: they are read by that byte, and stand nowhere else.
use Rattle.std.specs.Prelude.{Some, Option as StdOption}
use Rattle.std.proofs.lemmas.Option.{none-some, same_Some}
use Prim.Native.Nat.{ℕ, ◌+◌, ◌≤◌, ◌<◌}
use mathlib.Core.Path.{◌≡◌, refl, sym, ap, subst, ◌∙◌}
use mathlib.Core.Logic.{◌≢◌}
use mathlib.Core.Bool.{Bool, true, false}
use mathlib.Core.List.{List, [], ◌∷◌, ◌++◌}
use mathlib.Core.Option.{Option, none as noneAt, some}
use native.Mathlib.Omega.{arith}
use borrow.Author.Tests.{eqb-true, eq-eqb}
use lib.ListN.{length, get_or, drop, drop_of_length-le}
use Rattle.laws.proofs.Bools.{true_false}
use Rattle.chain_text.specs.Text.{is_capital}
use Rattle.chain_text.specs.Scan.{starts_with}
use Rattle.chain_text.proofs.Forms.{starts-within}
use Rattle.chain_text.proofs.Scanning.{starts-inside, first-at}
use Rattle.text_numerals.specs.Numeral.{is_digit}
use Rattle.text_numerals.specs.Word.{opens_with}
use Rattle.text_syntax.specs.Token as S
use Rattle.text_syntax.specs.Kind.{kind, is, letter_in}
use Rattle.text_syntax.specs.Form.{unformed, one_of, held}
use Rattle.text_syntax.specs.Lexing.{spelled, words, signs, First, first, none, fixed_token, first_token, operand_behind, tokens_at}
use Rattle.text_syntax.proofs.TokenKinds.{token_kind, is_true, letter_token}
use Rattle.text_syntax.proofs.Spellings.{letter-read}
use Rattle.text_syntax.proofs.Lexing.{first_began, tokens-first, tokens_none, tokens-empty}
use Rattle.text_words.proofs.Tables.{first_byte}
use Rattle.text_lexer.specs.Lexeme.{next_place}
use Rattle.text_lexer.proofs.Lexemes.{byte_tokens, byte_onward}
use Rattle.text_places.specs.declared.mark.Mark.{Mark}
use Rattle.text_places.specs.declared.mark.Mark.TheVariants as M
use Rattle.text_places.specs.Place.{begins, mark_token, mark_byte, Passing, Absent}
use Rattle.text_places.specs.Word.{Lettered, NoLetter}
use Rattle.text_places.proofs.Places.{letter-capital}

-- a token of one byte at a place
byte_passing : (due : Bool) (line : List ℕ) (at : ℕ) → at < length line → {b : ℕ} {k : S.Token} {end : ℕ} → end ≡ next_place (at + 1) (drop (at + 1) line)
    → drop at line ≡ b ∷ drop (at + 1) line → first_token due (b ∷ drop (at + 1) line) ≡ first k (drop (at + 1) line)
    → Passing due (operand_behind k) k line at end
byte_passing due line at inside place text read =
    let onward = byte_onward line at inside place in
    record { text = byte_tokens due line at place text read; behind = record { onward = onward.0; inside = onward.1 } }

-- a mark that has a byte: it is read by it, and is spelled so
record OneByte (b : ℕ) (k : S.Token) : Type 0 where
  read : (due : Bool) (r : List ℕ) → first_token due (b ∷ r) ≡ first k r
  bytes_are : spelled k ≡ b ∷ []

one_byte : {a b : ℕ} {k : S.Token} → OneByte a k → ◌≡◌ {A = StdOption ℕ} (Some a) (Some b) → OneByte b k
one_byte {k = k} w e = subst (λ (c : ℕ). OneByte c k) (same_Some _ _ e) w

mark_byte_lem : (m : Mark) {b : ℕ} → mark_byte m ≡ Some b → OneByte b (mark_token m)
unfolding first_token is_digit is_capital fixed_token words signs spelled opens_with
mark_byte_lem M.Own e = one_byte (record { read = λ due r. refl; bytes_are = refl }) e
mark_byte_lem M.Becomes e = absurd (none-some _ e)
mark_byte_lem M.Colon e = absurd (none-some _ e)
mark_byte_lem M.OpenSquare e = one_byte (record { read = λ due r. refl; bytes_are = refl }) e
mark_byte_lem M.CloseSquare e = one_byte (record { read = λ due r. refl; bytes_are = refl }) e
mark_byte_lem M.OpenRound e = one_byte (record { read = λ due r. refl; bytes_are = refl }) e
mark_byte_lem M.CloseRound e = one_byte (record { read = λ due r. refl; bytes_are = refl }) e

-- a text of which a token is the first begins with its bytes
pub token_text : {A : Type 0} (due : Bool) (s : List ℕ) (k : S.Token) (ks : List S.Token) → tokens_at due s ≡ k ∷ ks → k ≢ S.unknown
    → ((r : List ℕ) → s ≡ spelled k ++ r → A) → A
token_text due [] k ks e known f = absurd (let z : ◌≡◌ {A = ℕ} 0 1 = cc (e, tokens-empty due) in omega arith)
token_text {A} due (b ∷ t) k ks e known f = go (first_token due (b ∷ t)) refl
  where
    go : (x : First) → first_token due (b ∷ t) ≡ x → A
    go none q = absurd (known (let all = sym e ∙ tokens_none due b t q in cc))
    go (first j r) q =
        let all = sym e ∙ tokens-first due (b ∷ t) q in
        let same : j ≡ k = cc in
        f r (subst (λ (i : S.Token). b ∷ t ≡ spelled i ++ r) same (first_began due (b ∷ t) q).text)

known : {b : ℕ} {k : S.Token} → OneByte b k → k ≢ S.unknown
unfolding spelled
known w e = absurd (omega (arith, ap length (sym w.bytes_are ∙ ap spelled e)))

-- a mark at a place, by its byte b
module _ {due : Bool} {line : List ℕ} {at : ℕ} (m : Mark) {b : ℕ} (byte : mark_byte m ≡ Some b) where
  pub byte_passed : starts_with b (drop at line) ≡ true → {end : ℕ} → end ≡ next_place (at + 1) (drop (at + 1) line)
      → Passing due (operand_behind (mark_token m)) (mark_token m) line at end
  byte_passed starts place =
      let inside = starts-inside line at b starts in
      let text = first_byte line at b inside (eqb-true _ b (sym (starts-within line at b inside) ∙ starts)) in
      byte_passing due line at inside place text ((mark_byte_lem m byte).read due _)

  pub byte_absent : starts_with b (drop at line) ≡ false → Absent due (mark_token m) line at
  unfolding begins starts_with
  byte_absent starts = record { absent = go (tokens_at due (drop at line)) refl }
    where
      found : (k : S.Token) (ks : List S.Token) → tokens_at due (drop at line) ≡ k ∷ ks → (y : Bool) → is (mark_token m) k ≡ y → y ≡ false
      found k ks e true q =
          let same = is_true (mark_token m) k q in
          token_text due (drop at line) (mark_token m) ks (e ∙ ap (λ (j : S.Token). j ∷ ks) same) (known (mark_byte_lem m byte))
          (λ r text. true_false (rw (text, (mark_byte_lem m byte).bytes_are) (eq-eqb b b refl)) starts)
      found k ks e false q = refl

      go : (ts : List S.Token) → tokens_at due (drop at line) ≡ ts → begins (mark_token m) ts ≡ false
      go [] e = refl
      go (k ∷ ks) e = found k ks e (is (mark_token m) k) refl

-- a capital at a place
module _ (due : Bool) (line : List ℕ) (at : ℕ) where
  pub letter-passed : at < length line → is_capital (get_or line at 0) ≡ true → {end : ℕ} → end ≡ next_place (at + 1) (drop (at + 1) line)
      → Lettered due (get_or line at 0) line at end
  unfolding operand_behind
  letter-passed inside capital place =
      let text = first_byte line at (get_or line at 0) inside refl in
      record { passing = byte_passing due line at inside place text (letter-read due (get_or line at 0) _ capital); capital = capital }

  pub letter-end : length line ≤ at → NoLetter due line at
  unfolding one_of
  letter-end h = record { none = ap (one_of letter_in) (ap (tokens_at due) (drop_of_length-le line h) ∙ tokens-empty due) }

  pub letter-absent : at < length line → is_capital (get_or line at 0) ≡ false → NoLetter due line at
  unfolding one_of held spelled
  letter-absent inside other = record { none = go (tokens_at due (drop at line)) refl }
    where
      found : (k : S.Token) (ks : List S.Token) → tokens_at due (drop at line) ≡ k ∷ ks → (o : Option ℕ) → letter_in (kind k) ≡ o → held o ks ≡ unformed
      found k ks e noneAt q = refl
      found k ks e (some l) q =
          let is-letter : tokens_at due (drop at line) ≡ S.letter l ∷ ks =
          e ∙ ap (λ (j : S.Token). j ∷ ks) (sym (token_kind k) ∙ letter_token (kind k) l q) in
          token_text due (drop at line) (S.letter l) ks is-letter (λ e. absurd (let z : ◌≡◌ {A = ℕ} 0 1 = cc in omega arith))
          (λ r text. let same : get_or line at 0 ≡ l = sym (first-at line at) ∙ ap (λ (s : List ℕ). get_or s 0 0) text in
          true_false (letter-capital due (drop at line) is-letter) (ap is_capital (sym same) ∙ other))

      go : (ts : List S.Token) → tokens_at due (drop at line) ≡ ts → one_of letter_in ts ≡ unformed
      go [] e = refl
      go (k ∷ ks) e = found k ks e (letter_in (kind k)) refl
