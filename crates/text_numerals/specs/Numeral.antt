-- A number in a rules text: "optional minus, digits, no leading zero, no `-0`", and by document 02, M-104, "digits as before, a point and
-- exactly two digits". Its value is in centimetres.
use Rattle.std.specs.Prelude.{ℕ, ◌+◌, ◌-◌, ◌*◌, min, Bool, true, false, cond, not, ◌&&◌, List, [], ◌∷◌, ◌++◌, leb, eqb, ℤ, pos, neg_ℤ, length, drop}
use Rattle.chain_text.specs.Scan.{starts_with}
use Rattle.text_numerals.specs.Span.{starts, span}

-- whether a byte is one of `0` to `9`
unfoldable pub is_digit : ℕ → Bool
is_digit b = leb 48 b && leb b 57

-- whether a text begins with a digit
abbrev pub starts_digit : List ℕ → Bool
starts_digit t = starts is_digit t

-- the digits that a text begins with
unfoldable abbrev pub digits : List ℕ → List ℕ
unfolding span
digits t = span is_digit t

-- the number that is written by n and then the digits
unfoldable pub decimal : ℕ → List ℕ → ℕ
decimal n [] = n
decimal n (d ∷ ds) = decimal (10 * n + (d - 48)) ds

-- A number without its minus, as it is written: centimetres, or metres by the digits before and behind the point.
pub data Numeral : Type 0 where
  whole : List ℕ → Numeral
  metres : List ℕ → List ℕ → Numeral

-- its text: 46 is the point
unfoldable pub printed_numeral : Numeral → List ℕ
printed_numeral (whole ds) = ds
printed_numeral (metres ds cs) = ds ++ (46 ∷ cs)

-- its digits without the point
unfoldable pub all_digits : Numeral → List ℕ
all_digits (whole ds) = ds
all_digits (metres ds cs) = ds ++ cs

-- "`1.80` means 180 centimetres", as `180` does
unfoldable pub centimetres : Numeral → ℕ
centimetres x = decimal 0 (all_digits x)

-- its digits before the point
unfoldable pub whole_digits : Numeral → List ℕ
whole_digits (whole ds) = ds
whole_digits (metres ds cs) = ds

-- "digits, no leading zero"
unfoldable pub no_leading_zero : List ℕ → Bool
no_leading_zero [] = false
no_leading_zero (d ∷ []) = true
no_leading_zero (d ∷ e ∷ ds) = not (eqb d 48)

-- "a point and exactly two digits", where there is a point
unfoldable pub two_decimals : Numeral → Bool
two_decimals (whole ds) = true
two_decimals (metres ds cs) = eqb (length cs) 2

-- whether digits are written as they may be, behind a minus or not: no `-0`, and "`-0.00` is refused as `-0` is"
unfoldable pub is_numeral : Bool → Numeral → Bool
is_numeral negative x = no_leading_zero (whole_digits x) && (two_decimals x && not (negative && eqb (centimetres x) 0))

-- digits, and those behind the point if one follows
unfoldable pub with_decimals : List ℕ → List ℕ → Numeral
with_decimals ds r = cond (starts_with 46 r) (metres ds (digits (drop 1 r))) (whole ds)

-- the numeral that a text begins with
unfoldable pub numeral : List ℕ → Numeral
numeral t = with_decimals (digits t) (drop (length (digits t)) t)

-- A text that begins with a number: whether it has a minus, its numeral, and what stands behind it; or none.
pub data NumberForm : Type 0 where
  number : Bool → Numeral → List ℕ → NumberForm
  unformed : NumberForm

-- the number whose numeral a text begins with, behind a minus or not
unfoldable pub signed_form : Bool → List ℕ → NumberForm
signed_form negative t = cond (is_numeral negative (numeral t)) (number negative (numeral t) (drop (length (printed_numeral (numeral t))) t)) unformed

-- the number that a text begins with: 45 is the minus
unfoldable pub number_form : List ℕ → NumberForm
number_form t = cond (starts_with 45 t) (signed_form true (drop 1 t)) (signed_form false t)

-- a text behind a minus or not
unfoldable pub signed_text : Bool → List ℕ → List ℕ
signed_text true t = 45 ∷ t
signed_text false t = t

-- the text of a number
unfoldable pub printed_number : Bool → Numeral → List ℕ
printed_number negative x = signed_text negative (printed_numeral x)

-- a number behind a minus or not
unfoldable pub signed_value : Bool → ℕ → ℤ
signed_value true n = neg_ℤ (pos n)
signed_value false n = pos n

-- the value of a number: "`-0.05` means −5"
unfoldable pub number_value : Bool → Numeral → ℤ
number_value negative x = signed_value negative (centimetres x)

-- a number may have any length: 2,147,483,649 stands for all numbers from there on, which are out of range with either sign
unfoldable pub capped : ℕ → ℕ
capped n = min 2147483649 n

-- the value of a number, capped
unfoldable pub capped_value : Bool → Numeral → ℤ
capped_value negative x = signed_value negative (capped (centimetres x))
