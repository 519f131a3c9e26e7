-- Marks at the end of a run, told from those at its start: "a cell marked 1 at the end was marked 1 at the start, with the same
-- value" (M-107).
use Rattle.std.specs.Prelude.{◌≡◌, List, ℕ, get_or, ℤ}
use Rattle.register.specs.declared.cells.Cell.{Cell}
use Rattle.register.specs.declared.cells.Cell.TheVariants.{Missing, Measured}

-- a cell that is measured in the second is measured in the first, with the same value
abbrev pub WereMeasured : List Cell → List Cell → Type 0
WereMeasured before after = (j : ℕ) (z : ℤ) → get_or after j Missing ≡ Measured z → get_or before j Missing ≡ Measured z

-- a cell that is unfilled in the second is unfilled in the first
abbrev pub WereUnfilled : List Cell → List Cell → Type 0
WereUnfilled before after = (j : ℕ) → get_or after j Missing ≡ Missing → get_or before j Missing ≡ Missing
