-- Numbers and cells as they are printed: "all figures here are decimal".
use Rattle.std.specs.Prelude.{ℕ, zero, suc, ◌+◌, ◌/◌, ◌%◌, cond, List, [], ◌∷◌, ◌++◌, ltb, ℤ, pos, negsuc}
use Rattle.register.specs.declared.cells.Cell.{Cell}
use Rattle.register.specs.declared.cells.Cell.TheVariants.{Missing, Measured, WorkedOut}
use Rattle.laws.specs.Bytes.{bytes}

-- the byte of a digit: 48 is `0`
abbrev pub digit : ℕ → ℕ
digit d = 48 + d

-- the digits of n, at most k of them, no leading zero
unfoldable pub digits_within : ℕ → ℕ → List ℕ
digits_within zero n = []
digits_within (suc k) n = cond (ltb n 10) (digit n ∷ []) (digits_within k (n / 10) ++ (digit (n % 10) ∷ []))

-- a number in decimal, which has at most n + 1 digits
unfoldable pub decimal_text : ℕ → List ℕ
decimal_text n = digits_within (suc n) n

-- a value: a minus and its size where it is negative
unfoldable pub value_text : ℤ → List ℕ
value_text (pos n) = decimal_text n
value_text (negsuc n) = bytes "-" ++ decimal_text (suc n)

-- a cell: "`-` for unfilled"; "The listing puts `~` after a worked-out value" (M-107)
unfoldable pub cell_text : Cell → List ℕ
cell_text Missing = bytes "-"
cell_text (Measured z) = value_text z
cell_text (WorkedOut z) = value_text z ++ bytes "~"
