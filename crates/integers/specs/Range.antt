-- The range that a sum must stay in, and the answer of a sum.
use Rattle.std.specs.Prelude.{None, Some}
use Rattle.std.specs.Prelude.{ℕ, Bool, false, cond, ◌&&◌, ℤ, pos, negsuc, eqb}
use Rattle.std.specs.Int.Signed.{le_z, lt_z}
use Rattle.std.specs.Prelude.{Option, ℤ}

-- −2,147,483,648 to 2,147,483,647
unfoldable pub in_range : ℤ → Bool
in_range z = le_z (negsuc 2147483647) z && le_z z (pos 2147483647)

-- whether two values are the same
unfoldable pub eq_z : ℤ → ℤ → Bool
eq_z (pos a) (pos b) = eqb a b
eq_z (pos a) (negsuc b) = false
eq_z (negsuc a) (pos b) = false
eq_z (negsuc a) (negsuc b) = eqb a b

-- 0 to n − 1
unfoldable pub is_index : ℕ → ℤ → Bool
is_index n z = le_z (pos 0) z && lt_z z (pos n)

-- the answer for a sum that comes to z
unfoldable pub sum_of : ℤ → Option ℤ
sum_of z = cond (in_range z) (Some z) None
