-- The product of a value and the factor of a mark.
use Prim.Native.Nat.{ℕ, zero, suc, ◌≤◌}
use mathlib.Core.Path.{◌≡◌, refl}
use mathlib.Core.Bool.{not}
use native.Mathlib.Omega.{arith}
use borrow.Author.Tests.{ne_eqb}
use lib.Dec.{eqb}
use lib.IntN.{ℤ, pos, one, ◌*ℤ◌, *ℤ-zero, *ℤ-one}
use mir.Syntax.{w32}
use mir.Val.{SFits, bool_byte}
use Rattle.integers.specs.Factor.{factor}

-- value × 0 is 0, and value × 1 is the value
pub times_zero : (z : ℤ) → z *ℤ pos 0 ≡ pos 0
times_zero z = *ℤ-zero z

pub times-one : (z : ℤ) → z *ℤ pos 1 ≡ z
unfolding one
times-one z = *ℤ-one z

-- so the product has 32 bits as the value has
pub times-fits : (z : ℤ) (mark : ℕ) → SFits w32 z → SFits w32 (z *ℤ pos (factor mark))
unfolding factor
times-fits z zero fits = rw times_zero (record { sfits = omega arith })
times-fits z (suc mark) fits = rw times-one fits

-- whether a mark is not 0, as a byte, is its factor
pub byte_factor : (mark : ℕ) → bool_byte (not (eqb mark 0)) ≡ factor mark
unfolding factor
byte_factor zero = refl
byte_factor (suc mark) = simp (ne_eqb (suc mark) 0 (omega arith))

pub factor≤ : (mark : ℕ) → factor mark ≤ 1
unfolding factor
factor≤ zero = omega arith
factor≤ (suc mark) = omega arith
