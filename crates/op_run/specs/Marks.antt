-- Marks of the output told from those of the register as loaded, by the bytes of the two files (M-107).
use Rattle.std.specs.Prelude.{ℕ, ◌*◌, ◌<◌, ◌≡◌, List, get_or}
use Rattle.integers.specs.Bytes.{value_at}
use Rattle.register.specs.File.{cell_count, values_part, marks_part}
use Rattle.register.specs.declared.Sizes.{Sizes}

-- "a cell marked 1 at the end was marked 1 at the start, with the same value"
abbrev pub MeasuredBefore : Sizes → List ℕ → List ℕ → Type 0
MeasuredBefore s file out =
    (j : ℕ) → j < cell_count s → get_or (marks_part s out) j 0 ≡ 1
    → (get_or (marks_part s file) j 0 ≡ 1) × (value_at (values_part s out) (4 * j) ≡ value_at (values_part s file) (4 * j))

-- a cell marked 0 at the end was marked 0 at the start
abbrev pub UnfilledBefore : Sizes → List ℕ → List ℕ → Type 0
UnfilledBefore s file out = (j : ℕ) → j < cell_count s → get_or (marks_part s out) j 0 ≡ 0 → get_or (marks_part s file) j 0 ≡ 0
