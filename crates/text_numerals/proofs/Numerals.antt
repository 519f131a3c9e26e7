-- A text begins with a numeral exactly when it begins with its printed text; what a numeral is worth.
use Prim.Native.Nat.{ℕ, ◌+◌, ◌-◌, ◌*◌, ◌≤◌}
use mathlib.Core.Path.{◌≡◌, refl, sym, ap, ap₂, ◌∙◌}
use mathlib.Core.Bool.{Bool, true, false, cond}
use mathlib.Core.List.{List, [], ◌∷◌, ◌++◌, append_assoc}
use native.Mathlib.Omega.{arith}
use borrow.Author.Tests.{eqb-true}
use lib.Dec.{eqb}
use lib.ListN.{length, drop, length-append}
use lib.Seq.{drop-append_seam}
use Rattle.laws.specs.Lists.{every}
use Rattle.laws.proofs.Lists.{every_append}
use Rattle.chain_text.specs.Scan.{starts_with}
use Rattle.text_numerals.specs.Numeral.{is_digit, digits, decimal, Numeral, whole, metres, printed_numeral, all_digits, whole_digits, centimetres, with_decimals, numeral}
use Rattle.text_numerals.proofs.Spans.{span-every, span-text, span-append, every-parts}
use Rattle.text_numerals.proofs.Digits.{decimal-append}

-- a point: metres count a hundred
pub centimetres_metres : (ds : List ℕ) (d e : ℕ) → centimetres (metres ds (d ∷ e ∷ [])) ≡ 100 * decimal 0 ds + (10 * (d - 48) + (e - 48))
unfolding centimetres all_digits decimal
centimetres_metres ds d e = decimal-append 0 ds (d ∷ e ∷ []) ∙ omega arith

front-text : (w t s : List ℕ) → t ≡ w ++ s → t ≡ w ++ drop (length w) t
front-text w t s e = e ∙ ap (λ (l : List ℕ). w ++ l) (sym (ap (drop (length w)) e ∙ drop-append_seam w s))

decimals_text : (ds r : List ℕ) → ds ++ r ≡ printed_numeral (with_decimals ds r) ++ drop (length (printed_numeral (with_decimals ds r))) (ds ++ r)
unfolding with_decimals printed_numeral starts_with digits
decimals_text ds [] = front-text ds (ds ++ []) [] refl
decimals_text ds (b ∷ r) = go (eqb b 46) refl
  where
    go : (x : Bool) → eqb b 46 ≡ x
        → ds ++ (b ∷ r)
        ≡ printed_numeral (cond x (metres ds (digits r)) (whole ds)) ++ drop (length (printed_numeral (cond x (metres ds (digits r)) (whole ds)))) (ds ++ (b ∷ r))
    go true h =
        front-text (ds ++ (46 ∷ digits r)) (ds ++ (b ∷ r)) (drop (length (digits r)) r)
        (ap₂ (λ (a : ℕ) (l : List ℕ). ds ++ (a ∷ l)) (eqb-true b 46 h) (span-text is_digit r) ∙ sym (append_assoc ds (46 ∷ digits r) (drop (length (digits r)) r)))
    go false h = front-text ds (ds ++ (b ∷ r)) (b ∷ r) refl

-- a text is its numeral and what stands behind it
pub numeral-text : (t : List ℕ) → t ≡ printed_numeral (numeral t) ++ drop (length (printed_numeral (numeral t))) t
unfolding numeral digits
numeral-text t = rw (sym (span-text is_digit t)) at (decimals_text (digits t) (drop (length (digits t)) t))

-- the digits of the numeral that a text begins with
module _ (t : List ℕ) where
  pub numeral-whole : whole_digits (numeral t) ≡ digits t
  unfolding numeral with_decimals whole_digits
  numeral-whole = go (starts_with 46 (drop (length (digits t)) t))
    where
      go : (x : Bool) → whole_digits (cond x (metres (digits t) (digits (drop 1 (drop (length (digits t)) t)))) (whole (digits t))) ≡ digits t
      go true = refl
      go false = refl

  pub numeral-digits : every is_digit (all_digits (numeral t)) ≡ true
  unfolding numeral with_decimals all_digits digits
  numeral-digits = go (starts_with 46 (drop (length (digits t)) t)) (drop 1 (drop (length (digits t)) t))
    where
      go : (x : Bool) (r : List ℕ) → every is_digit (all_digits (cond x (metres (digits t) (digits r)) (whole (digits t)))) ≡ true
      go true r = every_append is_digit (digits t) (digits r) (span-every is_digit t) (span-every is_digit r)
      go false r = span-every is_digit t

-- no more of them stand before the point than in the whole
pub whole-bound : (x : Numeral) → length (whole_digits x) ≤ length (printed_numeral x)
unfolding whole_digits printed_numeral
whole-bound (whole ds) = omega arith
whole-bound (metres ds cs) = omega (arith, length-append ds (46 ∷ cs))

-- behind a numeral stands neither a digit nor a point
abbrev pub NoFigure : List ℕ → Type 0
NoFigure r = (digits r ≡ []) × (starts_with 46 r ≡ false)

-- and the printed text of digits begins with their numeral
pub numeral-read : (x : Numeral) (r : List ℕ) → every is_digit (all_digits x) ≡ true → NoFigure r → numeral (printed_numeral x ++ r) ≡ x
unfolding numeral with_decimals printed_numeral all_digits digits starts_with is_digit
numeral-read (whole ds) r h n = rw (span-append is_digit ds r h n.0, drop-append_seam ds r, n.1)
numeral-read (metres ds cs) r h n =
    let both = every-parts is_digit ds cs h in
    let t : List ℕ = 46 ∷ (cs ++ r) in
    rw (append_assoc ds (46 ∷ cs) r, span-append is_digit ds t both.0 refl, drop-append_seam ds t, span-append is_digit cs r both.1 n.0)
