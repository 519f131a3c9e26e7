-- The first token of a text, by the tests of its first byte.
use Rattle.std.specs.Prelude.{Some, None}
use Rattle.std.proofs.lemmas.Option.{none-some, some_pair_parts}
use Prim.Native.Nat.{ℕ, ◌+◌, ◌-◌, ◌≤◌, ◌<◌}
use mathlib.Core.Path.{◌≡◌, refl, sym, ap, ap₂, ◌∙◌}
use mathlib.Core.Bool.{Bool, true, false, ◌&&◌, ◌||◌}
use mathlib.Core.List.{List, ◌∷◌, ◌++◌}
use native.Mathlib.Omega.{arith}
use borrow.Author.Tests.{ne_eqb}
use lib.Dec.{eqb}
use lib.IntN.{ℤ}
use lib.ListN.{length, get_or, drop}
use Rattle.laws.proofs.Bools.{and_both, or-neither, true_false}
use Rattle.chain_text.specs.Text.{is_capital}
use Rattle.chain_text.specs.Scan.{starts_with}
use Rattle.text_numerals.specs.Numeral as N
use Rattle.text_numerals.specs.Numeral.{is_digit, NumberForm, number_form, printed_number, capped_value}
use Rattle.text_numerals.proofs.Digits.{digit_low}
use Rattle.text_numbers.specs.Numbers.{number_read}
use Rattle.text_syntax.specs.Lexing.{spelled, words, signs, First, fixed_token, number_token, first_token}
use Rattle.text_syntax.proofs.Spellings.{letter-read}
use Rattle.text_words.specs.Tokens.{token_code, sized_first}
use Rattle.text_words.specs.declared.token.Token.TheVariants as Token
use Rattle.text_words.specs.declared.token.Token.TheVariants.{Letter}
use Rattle.text_words.proofs.Tables.{first_byte}

-- the first token by the tests of its first byte
module _ (operand : Bool) (t : List ℕ) (at : ℕ) (inside : at < length t) where
  abbrev b : ℕ
  b = get_or t at 0

  same_first : {f : First} → first_token operand (b ∷ drop (at + 1) t) ≡ f → first_token operand (drop at t) ≡ f
  same_first e = ap (first_token operand) (first_byte t at b inside refl) ∙ e

  pub letter-first : is_capital b ≡ true → Some (Letter b, 1) ≡ sized_first (first_token operand (drop at t))
  unfolding sized_first token_code spelled
  letter-first h = sym (ap sized_first (same_first (letter-read operand b (drop (at + 1) t) h)))

  pub number-first : is_digit b || eqb b 45 && operand ≡ true → number_token (number_form (drop at t)) ≡ first_token operand (drop at t)
  unfolding first_token number_form starts_with
  number-first h =
      ap (λ (l : List ℕ). number_token (number_form l)) (first_byte t at b inside refl) ∙ sym (same_first (go (eqb b 45 && operand) refl (is_digit b) refl h))
    where
      r : List ℕ
      r = drop (at + 1) t

      go : (x : Bool) → eqb b 45 && operand ≡ x → (y : Bool) → is_digit b ≡ y → y || x ≡ true → first_token operand (b ∷ r) ≡ number_token (number_form (b ∷ r))
      go true m y d h = rw (m, (and_both (eqb b 45) operand m).0)
      go false m true d h = rw (m, d, ne_eqb b 45 (λ e. omega (arith, (digit_low b d).0)))
      go false m false d h = true_false h refl

  pub table-first : is_capital b ≡ false → is_digit b || eqb b 45 && operand ≡ false → fixed_token (words ++ signs) (drop at t) ≡ first_token operand (drop at t)
  unfolding first_token
  table-first c h =
      ap (fixed_token (words ++ signs)) (first_byte t at b inside refl)
      ∙ sym (same_first (let none = or-neither (is_digit b) (eqb b 45 && operand) h in rw (none.1, none.0, c)))

-- a number's answer
pub number-none : (at : ℕ) (f : NumberForm) → number_read at f ≡ None → None ≡ sized_first (number_token f)
unfolding number_read number_token sized_first
number-none at (N.number negative x r) e = absurd (none-some _ (sym e))
number-none at N.unformed e = refl

module _ (at : ℕ) {v : ℤ} {end : ℕ} where
  pub number-some : (f : NumberForm) → number_read at f ≡ Some (v, end) → Some (Token.Number v, end - at) ≡ sized_first (number_token f)
  unfolding number_read number_token sized_first token_code spelled
  number-some (N.number negative x r) e =
      let both = some_pair_parts _ _ _ _ e in
      ap₂ (λ (z : ℤ) (n : ℕ). Some (Token.Number z, n)) (sym both.0) (omega (arith, both.1))
  number-some N.unformed e = absurd (none-some _ e)

  pub number_onward : (f : NumberForm) → number_read at f ≡ Some (v, end) → at ≤ end
  unfolding number_read
  number_onward (N.number negative x r) e = omega (arith, (some_pair_parts _ _ _ _ e).1)
  number_onward N.unformed e = absurd (none-some _ e)
