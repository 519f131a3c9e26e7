-- A step: the cells that it leaves, or the place where a sum or total leaves its range.
use Rattle.std.specs.Prelude.{Bool, cond, List, ℕ, zero, suc, get_or}
use Rattle.std.proofs.Math.Option.{Option, none, some}
use Rattle.register.specs.File.{width, cell_index}
use Rattle.register.specs.declared.Sizes.{Sizes}
use Rattle.register.specs.declared.cells.Cell.{Cell}
use Rattle.register.specs.declared.cells.Cell.TheVariants.{Missing}
use Rattle.chain.specs.Reading.{Reading}
use Rattle.program.specs.Program.{Rule}
use Rattle.machine.specs.Value.{cell_in_range}
use Rattle.machine.specs.Local.{local_records, sum_column}
use Rattle.machine.specs.Remote.{record_messages, deliver_all}

-- the cells behind a step, with totals of any size: `read` sees the cells before it
unfoldable pub step_cells : Sizes → (ℕ → List ℕ → Reading) → List Rule → List Cell → List Cell
step_cells s read rs cells =
    let n = s.records in
    deliver_all s (local_records s read rs n cells) (record_messages read rs n)

-- Where a step stops: a record and a column.
pub record Offence : Type 0 where
  pub row : ℕ
  pub column : ℕ

-- the first of two that is there
unfoldable pub earlier : {A : Type 0} → Option A → Option A → Option A
earlier none y = y
earlier (some x) y = some x

-- the first of f 0, f 1, .., f (n − 1) that is there
unfoldable pub first_some : {A : Type 0} → ℕ → (ℕ → Option A) → Option A
first_some zero f = none
first_some (suc n) f = earlier (first_some n f) (f n)

-- a column, at record u
unfoldable pub in_record : ℕ → Option ℕ → Option Offence
in_record u none = none
in_record u (some c) = some (record { row = u; column = c })

-- "the lowest record with an offending local sum": the record that reads, a remote rule's sender
unfoldable pub sum_offence : Sizes → (ℕ → List ℕ → Reading) → List Rule → Option Offence
sum_offence s read rs = first_some s.records (λ u. in_record u (sum_column s (read u) rs))

-- the first column of record u whose cell is out of range, by which cells are in range: references first
unfoldable pub total_column : Sizes → (ℕ → Bool) → ℕ → Option ℕ
total_column s isIn u = first_some (width s) (λ c. cond (isIn (cell_index s u c)) none (some c))

-- "the lowest record, then first field, with an offending remote total"
unfoldable pub total_offence : Sizes → (ℕ → Bool) → Option Offence
total_offence s isIn = first_some s.records (λ u. in_record u (total_column s isIn u))

-- "21 a sum or total out of range"; a total "only where none of these offends"
unfoldable pub offence : Sizes → (ℕ → List ℕ → Reading) → List Rule → List Cell → Option Offence
offence s read rs cells = earlier (sum_offence s read rs) (total_offence s (λ j. cell_in_range (get_or (step_cells s read rs cells) j Missing)))
