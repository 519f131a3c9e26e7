-- A path's hops as the four arrays of the C interface, 16 places each: records, field letters, values and marks.
use Rattle.std.specs.Prelude.{ℕ, List, map, ℤ, pos, get_or}
use Rattle.register.specs.Cells.{value_of, mark_of}
use Rattle.chain_path.specs.declared.Hop.{Hop}
use Rattle.api_plan.specs.PlanArrays.{letter_of, PlacesHold}

-- "each hop's record, field and cell" (M-109), for hop i: the record at which it stands, the letter of its field, and of its cell the value and
-- the mark, as the file has them; 0 behind the last hop
unfoldable pub record_at : List Hop → ℕ → ℕ
record_at hs i = get_or (map (λ h. h.u) hs) i 0

unfoldable pub field_letter_at : List Hop → ℕ → ℕ
field_letter_at hs i = get_or (map (λ h. letter_of h.field) hs) i 0

unfoldable pub hop_value_at : List Hop → ℕ → ℤ
hop_value_at hs i = get_or (map (λ h. value_of h.cell) hs) i (pos 0)

unfoldable pub hop_mark_at : List Hop → ℕ → ℕ
hop_mark_at hs i = get_or (map (λ h. mark_of h.cell) hs) i 0

-- the four arrays of these hops
pub record PathArrays (hs : List Hop) (records fields : List ℕ) (values : List ℤ) (marks : List ℕ) : Type 0 where
  pub records_are : PlacesHold 0 (record_at hs) 16 records
  pub fields_are : PlacesHold 0 (field_letter_at hs) 16 fields
  pub values_are : PlacesHold (pos 0) (hop_value_at hs) 16 values
  pub marks_are : PlacesHold 0 (hop_mark_at hs) 16 marks
