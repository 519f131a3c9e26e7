-- What the reader of numbers answers.
use Rattle.std.specs.Prelude.{Some, None}
use Prim.Native.Nat.{ℕ, ◌+◌, ◌-◌, ◌≤◌, ◌<◌}
use mathlib.Core.Path.{◌≡◌, refl, sym, ap, ap₂, ◌∙◌}
use mathlib.Core.Logic.{◌≢◌}
use mathlib.Core.Bool.{and-true, Bool, true, false, cond, not, ◌&&◌, ◌||◌}
use mathlib.Core.List.{List, [], ◌∷◌}
use native.Mathlib.Omega.{arith}
use native.Mathlib.Decide.{dec_le}
use borrow.Author.Tests.{eqb-true, eqb-false, eq-eqb, ne_eqb, lt-ltb, lt-leb}
use lib.Dec.{ltb, eqb}
use lib.IntN.{ℤ, pos, neg_ℤ, ◌-ℤ◌, +ℤ_idl}
use lib.ListN.{length, get_or, take, drop, length-append}
use Rattle.std.proofs.lemmas.Grind.{common_steps}
use lib.Seq.{drop-drop}
use mir.Syntax.{w64}
use mir.Val.{SFits, to_z}
use mir.Facts.{to_z_pos}
use Rattle.integers.specs.Range.{in_range, sum_of}
use Rattle.chain_text.specs.Scan.{starts_with}
use Rattle.chain_text.proofs.Scanning.{first-at}
use Rattle.text_numerals.specs.Numeral.{is_digit, starts_digit, digits, decimal, Numeral, whole, metres, printed_numeral, all_digits, whole_digits, centimetres, no_leading_zero, two_decimals, is_numeral, with_decimals, numeral, NumberForm, number, unformed, signed_form, number_form, signed_text, printed_number, signed_value, number_value, capped, capped_value}
use Rattle.text_numbers.specs.Numbers.{ReadsDigits, ReadsNumeral, digits_read, number_read}
use Rattle.text_numbers.specs.declared.Digits.{Digits}
use Rattle.text_numbers.specs.declared.Figures.{Figures}
use Rattle.text_numerals.proofs.Spans.{starts-within}
use Rattle.text_numerals.proofs.Digits.{capped_small, capped_large, capped-decimal, decimal-append}
use Rattle.text_numerals.proofs.Numerals.{numeral-whole, whole-bound}

-- a byte of the line from `at` on, and whether it is a digit
module _ (t : List ℕ) (at i : ℕ) (inside : at + i < length t) where
  pub slice-byte : get_or (take (length t - at) (drop at t)) i 0 ≡ get_or t (at + i) 0
  slice-byte = grind (arith, common_steps)

  pub slice-digit : is_digit (get_or (take (length t - at) (drop at t)) i 0) ≡ starts_digit (drop (at + i) t)
  slice-digit = ap is_digit slice-byte ∙ sym (starts-within is_digit t (at + i) inside)

-- the two cases of `numeral`
module _ (t : List ℕ) where
  numeral-plain : starts_with 46 (drop (length (digits t)) t) ≡ false → numeral t ≡ whole (digits t)
  unfolding numeral with_decimals
  numeral-plain h = simp h

  numeral_point : starts_with 46 (drop (length (digits t)) t) ≡ true → numeral t ≡ metres (digits t) (digits (drop 1 (drop (length (digits t)) t)))
  unfolding numeral with_decimals
  numeral_point h = simp h

-- the reader's numeral, by its digits before the point and behind it
module _ (t : List ℕ) (at : ℕ) {w : Digits} (r : ReadsDigits at 0 (drop at t) w) where
  behind-digits : drop (length (digits (drop at t))) (drop at t) ≡ drop w.end t
  behind-digits = drop-drop (length (digits (drop at t))) at t ∙ ap (λ (n : ℕ). drop n t) (sym r.end_is)

  pub reads_plain : starts_with 46 (drop w.end t) ≡ false → ReadsNumeral at (drop at t) (record { value = w.value; point = w.end; end = w.end })
  unfolding centimetres all_digits printed_numeral
  reads_plain h =
      let x = numeral-plain (drop at t) (ap (starts_with 46) behind-digits ∙ h) in
      record {
        value-is = r.value-is ∙ sym (ap (λ (y : Numeral). capped (centimetres y)) x);
        point_is = r.end_is;
        end_is = r.end_is ∙ sym (ap (λ (y : Numeral). at + length (printed_numeral y)) x);
      }

  pub reads_metres : {c : Digits} → starts_with 46 (drop w.end t) ≡ true → ReadsDigits (w.end + 1) w.value (drop (w.end + 1) t) c
      → ReadsNumeral at (drop at t) (record { value = c.value; point = w.end; end = c.end })
  unfolding centimetres all_digits printed_numeral
  reads_metres {c} h q =
      let ds = digits (drop at t) in
      let cs = digits (drop (w.end + 1) t) in
      let x : numeral (drop at t) ≡ metres ds cs =
      numeral_point (drop at t) (ap (starts_with 46) behind-digits ∙ h)
      ∙ ap (λ (l : List ℕ). metres ds (digits l)) (ap (drop 1) behind-digits ∙ drop-drop 1 w.end t) in
      record {
        value-is =
            q.value-is
            ∙ ap (λ (n : ℕ). capped (decimal n cs)) r.value-is
            ∙ capped-decimal (decimal 0 ds) cs
            ∙ sym (ap (λ (y : Numeral). capped (centimetres y)) x ∙ ap capped (decimal-append 0 ds cs));
        point_is = r.end_is;
        end_is =
            omega (arith, q.end_is, r.end_is, length-append ds (46 ∷ cs))
            ∙ sym (ap (λ (y : Numeral). at + length (printed_numeral y)) x);
      }

-- the two cases of `signed_form`
module _ (negative : Bool) (t : List ℕ) where
  signed_formed : is_numeral negative (numeral t) ≡ true → signed_form negative t ≡ number negative (numeral t) (drop (length (printed_numeral (numeral t))) t)
  unfolding signed_form
  signed_formed h = simp h

  signed_unformed : is_numeral negative (numeral t) ≡ false → signed_form negative t ≡ unformed
  unfolding signed_form
  signed_unformed h = simp h

-- and of `number_form`
module _ (t : List ℕ) where
  form-minus : starts_with 45 t ≡ true → number_form t ≡ signed_form true (drop 1 t)
  unfolding number_form
  form-minus h = simp h

  form-plain : starts_with 45 t ≡ false → number_form t ≡ signed_form false t
  unfolding number_form
  form-plain h = simp h

-- digits of which there is one: the first is not 0, unless it stands alone
leading_test : (ds : List ℕ) → length ds ≢ 0 → no_leading_zero ds ≡ not (eqb (get_or ds 0 0) 48 && ltb 1 (length ds))
unfolding no_leading_zero
leading_test [] h = absurd (h refl)
leading_test (d ∷ []) h = ap not (sym (and_none (eqb d 48)))
  where
    and_none : (x : Bool) → x && false ≡ false
    and_none true = refl
    and_none false = refl
leading_test (d ∷ e ∷ ds) h =
    let long : ltb 1 (length (d ∷ e ∷ ds)) ≡ true = lt-ltb 1 (length (d ∷ e ∷ ds)) (omega arith) in
    sym (ap (λ (x : Bool). not (eqb d 48 && x)) long ∙ ap not (and-true (eqb d 48)))

first-digit : (t : List ℕ) → length (digits t) ≢ 0 → get_or (digits t) 0 0 ≡ get_or t 0 0
unfolding digits
first-digit [] h = refl
first-digit (b ∷ t) h = go (is_digit b) h
  where
    go : (x : Bool) → length (cond x (b ∷ digits t) []) ≢ 0 → get_or (cond x (b ∷ digits t) []) 0 0 ≡ b
    go true h = refl
    go false h = absurd (h refl)

-- equal tests
same_test : (a b c d : ℕ) → (a ≡ b → c ≡ d) → (c ≡ d → a ≡ b) → eqb a b ≡ eqb c d
same_test a b c d f g = go (eqb a b) refl
  where
    go : (x : Bool) → eqb a b ≡ x → eqb a b ≡ eqb c d
    go true h = h ∙ sym (eq-eqb c d (f (eqb-true a b h)))
    go false h = h ∙ sym (ne_eqb c d (λ e. eqb-false a b h (g e)))

-- the point and two digits take three places, and no point takes none
decimals_test : (x : Numeral) (p e : ℕ) → e + length (whole_digits x) ≡ p + length (printed_numeral x) → two_decimals x ≡ eqb (e - p) 0 || eqb (e - p) 3
unfolding two_decimals whole_digits printed_numeral
decimals_test (whole ds) p e h = rw (eq-eqb (e - p) 0 (omega arith))
decimals_test (metres ds cs) p e h =
    let size = length-append ds (46 ∷ cs) in
    rw (ne_eqb (e - p) 0 (λ z. omega (arith, size))) (same_test (length cs) 2 (e - p) 3 (λ z. omega (arith, size)) (λ z. omega (arith, size)))

capped_zero : (n : ℕ) → eqb n 0 ≡ eqb (capped n) 0
unfolding capped
capped_zero n = same_test n 0 (capped n) 0 (λ e. omega arith) (λ e. omega arith)

pub point_before : {t : List ℕ} {at : ℕ} {d : Figures} → ReadsNumeral at t d → d.point ≤ d.end
point_before {t} r = omega (arith, r.point_is, r.end_is, ap length (numeral-whole t), whole-bound (numeral t))

-- the reader's tests, where a numeral stands at `at`
pub numeral-at : (t : List ℕ) (at : ℕ) (negative : Bool) {d : Figures} → ReadsNumeral at (drop at t) d → d.point ≢ at
    → is_numeral negative (numeral (drop at t))
    ≡ not (eqb (get_or t at 0) 48 && ltb 1 (d.point - at)) && ((eqb (d.end - d.point) 0 || eqb (d.end - d.point) 3) && not (negative && eqb d.value 0))
unfolding is_numeral
numeral-at t at negative {d} r ne =
    let x = numeral (drop at t) in
    let ds = digits (drop at t) in
    let some : length ds ≢ 0 = λ z. ne (omega (arith, r.point_is)) in
    let count : length ds ≡ d.point - at = omega (arith, r.point_is) in
    let leading : no_leading_zero (whole_digits x) ≡ not (eqb (get_or t at 0) 48 && ltb 1 (d.point - at)) =
    ap no_leading_zero (numeral-whole (drop at t))
    ∙ leading_test ds some
    ∙ ap₂ (λ (b k : ℕ). not (eqb b 48 && ltb 1 k)) (first-digit (drop at t) some ∙ first-at t at) count in
    let decimals = decimals_test x d.point d.end (omega (arith, r.point_is, r.end_is, ap length (numeral-whole (drop at t)))) in
    let zero : eqb (centimetres x) 0 ≡ eqb d.value 0 = capped_zero (centimetres x) ∙ ap (λ (n : ℕ). eqb n 0) (sym r.value-is) in
    rw (leading, decimals, zero)

-- and where none does
pub numeral-empty : (negative : Bool) (t : List ℕ) → length (digits t) ≡ 0 → is_numeral negative (numeral t) ≡ false
unfolding is_numeral no_leading_zero
numeral-empty negative t h = rw (numeral-whole t, go (digits t) h)
  where
    go : (ds : List ℕ) → length ds ≡ 0 → no_leading_zero ds ≡ false
    go [] h = refl
    go (d ∷ ds) h = absurd (omega arith)

-- the reader's answers
module _ (at : ℕ) (negative : Bool) (t : List ℕ) where
  pub read_unformed : is_numeral negative (numeral t) ≡ false → digits_read at (signed_form negative t) ≡ None
  unfolding digits_read
  read_unformed h = ap (digits_read at) (signed_unformed negative t h)

  pub read-formed : is_numeral negative (numeral t) ≡ true
      → digits_read at (signed_form negative t) ≡ Some (signed_value negative (capped (centimetres (numeral t))), at + length (printed_numeral (numeral t)))
  unfolding digits_read capped_value
  read-formed h = ap (digits_read at) (signed_formed negative t h)

pub read-minus : (at : ℕ) (t : List ℕ) → starts_with 45 t ≡ true → digits_read (at + 1) (signed_form true (drop 1 t)) ≡ number_read at (number_form t)
unfolding signed_form digits_read number_read printed_number signed_text
read-minus at t h = go (is_numeral true (numeral (drop 1 t))) ∙ sym (ap (number_read at) (form-minus t h))
  where
    formed : NumberForm
    formed = number true (numeral (drop 1 t)) (drop (length (printed_numeral (numeral (drop 1 t)))) (drop 1 t))

    go : (x : Bool) → digits_read (at + 1) (cond x formed unformed) ≡ number_read at (cond x formed unformed)
    go true = ap (λ (n : ℕ). Some (capped_value true (numeral (drop 1 t)), n)) (omega arith)
    go false = refl

pub read_plain : (at : ℕ) (t : List ℕ) → starts_with 45 t ≡ false → digits_read at (signed_form false t) ≡ number_read at (number_form t)
unfolding signed_form digits_read number_read printed_number signed_text
read_plain at t h = go (is_numeral false (numeral t)) ∙ sym (ap (number_read at) (form-plain t h))
  where
    formed : NumberForm
    formed = number false (numeral t) (drop (length (printed_numeral (numeral t))) t)

    go : (x : Bool) → digits_read at (cond x formed unformed) ≡ number_read at (cond x formed unformed)
    go true = refl
    go false = refl

-- a capped value fits 64 bits
pub signed_fits : (negative : Bool) (n : ℕ) → n ≤ 2147483649 → SFits w64 (signed_value negative n)
unfolding signed_value
signed_fits true ℕ.zero h = record { sfits = omega arith }
signed_fits true (ℕ.suc n) h = record { sfits = omega arith }
signed_fits false n h = record { sfits = omega arith }

pub minus-value : (n : ℕ) → n ≤ 2147483649 → pos 0 -ℤ to_z w64 n ≡ signed_value true n
unfolding signed_value
minus-value n h = ap (λ (z : ℤ). pos 0 -ℤ z) (to_z_pos w64 {n = n} (omega arith)) ∙ +ℤ_idl (neg_ℤ (pos n))

pub plain_value : (n : ℕ) → n ≤ 2147483649 → to_z w64 n ≡ signed_value false n
unfolding signed_value
plain_value n h = to_z_pos w64 (omega arith)

-- capping changes neither whether a number is in range nor the value of one that is
out_of_range : (negative : Bool) (n : ℕ) → 2147483649 ≤ n → sum_of (signed_value negative n) ≡ None
unfolding signed_value sum_of in_range
out_of_range true ℕ.zero h = absurd (omega arith)
out_of_range true (ℕ.suc n) h = simp (lt-leb n 2147483647 (omega arith))
out_of_range false n h = simp (lt-leb n 2147483647 (omega arith))

pub capped_range : (negative : Bool) (x : Numeral) → sum_of (capped_value negative x) ≡ sum_of (number_value negative x)
unfolding capped_value number_value
capped_range negative x = go (dec_le (centimetres x) 2147483649)
  where
    go : Dec (centimetres x ≤ 2147483649) → sum_of (signed_value negative (capped (centimetres x))) ≡ sum_of (signed_value negative (centimetres x))
    go (yes h) = ap (λ (n : ℕ). sum_of (signed_value negative n)) (capped_small (centimetres x) h)
    go (no h) =
        out_of_range negative (capped (centimetres x)) (omega (arith, capped_large (centimetres x) (omega arith)))
        ∙ sym (out_of_range negative (centimetres x) (omega arith))
