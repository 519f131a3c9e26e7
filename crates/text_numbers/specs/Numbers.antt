-- What the readers of numbers answer for the text from a place on.
use Rattle.std.specs.Prelude.{ℕ, ◌+◌, ◌≡◌, List, ℤ, length, Option, Some, None}
use Rattle.text_numerals.specs.Numeral.{digits, decimal, printed_numeral, centimetres, numeral, capped, NumberForm, number, unformed, printed_number, capped_value}
use Rattle.text_numbers.specs.declared.Digits.{Digits}
use Rattle.text_numbers.specs.declared.Figures.{Figures}

-- the digits that a text t begins with, read from `at` on behind a number n
pub record ReadsDigits (at n : ℕ) (t : List ℕ) (d : Digits) : Type 0 where
  pub value-is : d.value ≡ capped (decimal n (digits t))
  pub end_is : d.end ≡ at + length (digits t)

-- the numeral that a text t begins with, read from `at` on
pub record ReadsNumeral (at : ℕ) (t : List ℕ) (d : Figures) : Type 0 where
  pub value-is : d.value ≡ capped (centimetres (numeral t))
  pub point_is : d.point ≡ at + length (digits t)
  pub end_is : d.end ≡ at + length (printed_numeral (numeral t))

-- the answer for a number whose digits stand from `at` on
unfoldable pub digits_read : ℕ → NumberForm → Option (ℤ × ℕ)
digits_read at unformed = None
digits_read at (number negative x rest) = Some (capped_value negative x, at + length (printed_numeral x))

-- the answer for a number whose text stands from `at` on
unfoldable pub number_read : ℕ → NumberForm → Option (ℤ × ℕ)
number_read at unformed = None
number_read at (number negative x rest) = Some (capped_value negative x, at + length (printed_number negative x))
