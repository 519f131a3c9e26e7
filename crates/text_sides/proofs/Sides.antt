-- How many codes are left behind an expression whose codes may be given back.
use Prim.Native.Nat.{ℕ, ◌+◌, ◌≤◌}
use mathlib.Core.Path.{◌≡◌}
use mathlib.Core.Logic.{◌≢◌}
use native.Mathlib.Omega.{arith}
use lib.Dec.{eqb}
use borrow.Author.Tests.{eq-eqb, ne_eqb}
use Rattle.laws.proofs.Bools.{cond_both}
use Rattle.text_sides.specs.Side.{codes_left}

pub left-same : (from to size : ℕ) → to ≡ from + size → from ≡ codes_left from to size
unfolding codes_left
left-same from to size e = rw (eq-eqb to (from + size) e)

pub left-more : (from to size : ℕ) → to ≢ from + size → to ≡ codes_left from to size
unfolding codes_left
left-more from to size e = rw (ne_eqb to (from + size) e)

-- it is between the two
pub left_least : (from to size : ℕ) → from ≤ to → from ≤ codes_left from to size
unfolding codes_left
left_least from to size h = cond_both (λ (n : ℕ). from ≤ n) (eqb to (from + size)) from to (omega arith) h

pub left-most : (from to size : ℕ) → from ≤ to → codes_left from to size ≤ to
unfolding codes_left
left-most from to size h = cond_both (λ (n : ℕ). n ≤ to) (eqb to (from + size)) from to h (omega arith)
