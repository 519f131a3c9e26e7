-- The sign of a value: as its bits show it, and as it is printed.
use Prim.Native.Nat.{ℕ}
use mathlib.Core.Path.{◌≡◌, refl, sym, ap, ◌∙◌}
use mathlib.Core.Bool.{Bool, true, false}
use mathlib.Core.List.{◌++◌}
use native.Mathlib.Omega.{arith}
use borrow.Author.Tests.{ltb-true}
use lib.IntN.{ℤ, pos, negsuc, nat_abs}
use lib.Signed.{lt_z}
use mir.Syntax.{w32}
use mir.Val.{SFits, to_z, of_z}
use mir.Facts.{to_z-of_z}
use Rattle.laws.specs.Bytes.{bytes}
use Rattle.print_page.specs.Decimal.{decimal_text, value_text}

-- a test that reads a value from its bits
pub from_bits : {z : ℤ} → SFits w32 z → {t : Bool} → lt_z (to_z w32 (of_z w32 z)) (pos 0) ≡ t → lt_z z (pos 0) ≡ t
from_bits h e = ap (λ (y : ℤ). lt_z y (pos 0)) (sym (to_z-of_z h)) ∙ e

pub negative-text : (z : ℤ) → lt_z z (pos 0) ≡ true → value_text z ≡ bytes "-" ++ decimal_text (nat_abs z)
unfolding value_text
negative-text (pos n) e = absurd (let l = ltb-true n 0 e in omega arith)
negative-text (negsuc n) e = refl

pub other_text : (z : ℤ) → lt_z z (pos 0) ≡ false → value_text z ≡ decimal_text (nat_abs z)
unfolding value_text
other_text (pos n) e = refl
other_text (negsuc n) e = absurd (let z : ◌≡◌ {A = ℕ} 0 1 = cc in omega arith)
