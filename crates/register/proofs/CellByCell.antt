-- "cell by cell 3, 4, 5": the first cell that is refused decides, whatever a later one is.
use mathlib.Core.Path.{◌≡◌, refl}
use mathlib.Core.List.{[], ◌∷◌}
use Rattle.laws.specs.Outcome.{or_else, first}
use Rattle.integers.specs.Bytes.{four_bytes, word_at, value_at}
use Rattle.integers.specs.Range.{eq_z, is_index}
use Rattle.register.specs.File.{width, cell_index}
use Rattle.register.specs.Load.{cell_refusal, refusal_at, record_refusal, cells_refusal}

-- one record: a reference to record 7, and a measure with mark 3
pub reference_first : cells_refusal (record { records = 1; references = 1; measures = 1 }) (7 ∷ 0 ∷ 0 ∷ 0 ∷ 0 ∷ 0 ∷ 0 ∷ 0 ∷ []) (1 ∷ 3 ∷ []) ≡ 5
unfolding cells_refusal record_refusal refusal_at cell_refusal width cell_index first or_else value_at word_at four_bytes eq_z is_index
reference_first = refl
