-- The digits that `io::decimal` spells are a number in decimal, and how many a number and a cell have at most.
use Prim.Native.Nat.{ℕ, zero, suc, ◌*◌, ◌/◌, ◌%◌, ◌^◌, ◌≤◌, ◌<◌}
use mathlib.Core.Path.{◌≡◌}
use mathlib.Core.List.{List}
use lib.Dec.{ltb}
use native.Mathlib.Numerals.{unary_clauses}
use native.Mathlib.Omega.{arith}
use native.Mathlib.Nat.{pow-suc, one-le-pow, mod-lt, mod-eq_of_lt, le-div_iff_mul-le, div-lt_iff_lt-mul}
use borrow.Author.Tests.{lt-ltb, le-ltb}
use lib.ListN.{length, length-append}
use lib.IntN.{ℤ, pos, negsuc}
use mir.Syntax.{w32}
use mir.Val.{SFits}
use Rattle.laws.proofs.Bools.{cond_both}
use Rattle.register.specs.Cells.{value_of}
use Rattle.register.specs.declared.cells.Cell.{Cell}
use Rattle.register.specs.declared.cells.Cell.TheVariants.{Missing, Measured, WorkedOut}
use Rattle.io.specs.Digits.{last_digits, hex_digit_ascii, IsDigitCount}
use Rattle.print_page.specs.Decimal.{digit, digits_within, decimal_text, value_text, cell_text}

-- a digit as `io` spells it
spelled : (n : ℕ) → hex_digit_ascii (n % 10) ≡ digit (n % 10)
spelled n = rw (lt-ltb (n % 10) 10 (mod-lt n (omega arith)))

-- without its last digit
tenth_below : (k n : ℕ) → n < 10 ^ suc (suc k) → n / 10 < 10 ^ suc k
tenth_below k n h = (div-lt_iff_lt-mul {k = 10} {x = n} {y = 10 ^ suc k} (omega arith)).1 (omega (arith, h, pow-suc 10 (suc k)))

-- the fewest digits of n, within m + 1 of them
within : (m k n : ℕ) → n ≤ m → IsDigitCount 10 1 n k → last_digits 10 k n ≡ digits_within (suc m) n
unfolding digits_within
within m zero n h f = absurd (omega (arith, f.0))
within m (suc zero) n h f = rw (spelled n, mod-eq_of_lt {n = n} {m = 10} f.1, lt-ltb n 10 f.1)
within m (suc (suc k)) n h f = more m (omega (arith, ten)) h (λ m l. within m (suc k) (n / 10) l rest)
  where
    low : 10 ^ k * 10 ≤ n
    low = simp unary_clauses at (f.2 (omega arith))

    ten : 10 ≤ n
    ten = omega (arith, low, one-le-pow k 10 (omega arith))

    rest : IsDigitCount 10 1 (n / 10) (suc k)
    rest = (
      omega arith,
      tenth_below k n f.1,
      λ l. simp unary_clauses ((le-div_iff_mul-le {k = 10} {x = 10 ^ k} {y = n} (omega arith)).1 low),
    )

    more : (m : ℕ) → 1 ≤ m → n ≤ m → ((m : ℕ) → n / 10 ≤ m → last_digits 10 (suc k) (n / 10) ≡ digits_within (suc m) (n / 10))
        → last_digits 10 (suc (suc k)) n ≡ digits_within (suc m) n
    more zero l h front = absurd (omega arith)
    more (suc m) l h front = rw (le-ltb n 10 ten, ← front m (omega (arith, ten)), spelled n)

pub fewest_decimal : (k n : ℕ) → IsDigitCount 10 1 n k → last_digits 10 k n ≡ decimal_text n
unfolding decimal_text
fewest_decimal k n f = within n k n (omega arith) f

-- a number below 10 to the k + 1 has at most k + 1 digits
within-length : (m k n : ℕ) → n < 10 ^ suc k → length (digits_within m n) ≤ suc k
unfolding digits_within
within-length zero k n h = omega arith
within-length (suc m) zero n h = rw (lt-ltb n 10 h) (omega arith)
within-length (suc m) (suc k) n h =
    cond_both (λ (ds : List ℕ). length ds ≤ suc (suc k)) (ltb n 10) _ _
    (omega arith)
    (simp length-append (omega (arith, within-length m k (n / 10) (tenth_below k n h))))

pub decimal-length : (k n : ℕ) → n < 10 ^ suc k → length (decimal_text n) ≤ suc k
unfolding decimal_text
decimal-length k n h = within-length (suc n) k n h

-- ten digits and a minus
value-length : (z : ℤ) → SFits w32 z → length (value_text z) ≤ 11
unfolding value_text
value-length (pos n) h = omega (arith, decimal-length 9 n (omega (arith, h.sfits)))
value-length (negsuc n) h = omega (arith, decimal-length 9 (suc n) (omega (arith, h.sfits)))

-- and a `~` behind them
pub cell_length : (c : Cell) → SFits w32 (value_of c) → length (cell_text c) ≤ 12
unfolding cell_text value_of
cell_length Missing h = omega arith
cell_length (Measured z) h = omega (arith, value-length z h)
cell_length (WorkedOut z) h = simp length-append (omega (arith, value-length z h))
