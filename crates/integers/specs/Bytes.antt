-- A number as four bytes, the least significant first, and a signed value as the same bytes in two's complement.
use Rattle.std.specs.Prelude.{ℕ, ◌+◌, ◌*◌, ◌/◌, ◌%◌, List, [], ◌∷◌, get_or, ℤ}
use Rattle.std.specs.Int.{w32}
use Rattle.std.proofs.Common.{to_z, of_z}

-- the number of four bytes
unfoldable pub four_bytes : ℕ → ℕ → ℕ → ℕ → ℕ
four_bytes a b c d = a + 256 * (b + 256 * (c + 256 * d))

-- the number whose four bytes stand at `at`
unfoldable pub word_at : List ℕ → ℕ → ℕ
word_at s at = four_bytes (get_or s at 0) (get_or s (at + 1) 0) (get_or s (at + 2) 0) (get_or s (at + 3) 0)

-- the four bytes of a number
unfoldable pub word_bytes : ℕ → List ℕ
word_bytes n = n % 256 ∷ n / 256 % 256 ∷ n / 65536 % 256 ∷ n / 16777216 % 256 ∷ []

-- the value whose four bytes stand at `at`
unfoldable pub value_at : List ℕ → ℕ → ℤ
value_at s at = to_z w32 (word_at s at)

-- the four bytes of a value
unfoldable pub value_bytes : ℤ → List ℕ
value_bytes z = word_bytes (of_z w32 z)
