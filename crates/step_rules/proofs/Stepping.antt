-- A whole step from its parts: the working cells hold the register's, then what local rules and remote writes leave.
use Prim.Native.Nat.{ℕ, ◌<◌}
use mathlib.Core.Path.{◌≡◌, ◌∙◌}
use mathlib.Core.Bool.{Bool, true}
use mathlib.Core.List.{List}
use mathlib.Core.Option.{none, some}
use native.Mathlib.Omega.{arith}
use lib.IntN.{ℤ}
use lib.ListN.{length, get_or}
use Rattle.register.specs.File.{width, cell_count, cell_index, file_of, cells_of_file}
use Rattle.register.specs.declared.Sizes.{Sizes}
use Rattle.register.specs.declared.cells.Cell.{Cell}
use Rattle.register.specs.declared.cells.Cell.TheVariants.{Missing}
use Rattle.chain.specs.Reading.{Reading}
use Rattle.program.specs.Program.{Rule}
use Rattle.machine.specs.Value.{cell_in_range}
use Rattle.machine.specs.Local.{local_records}
use Rattle.machine.specs.Remote.{record_messages}
use Rattle.machine.specs.Step.{step_cells, Offence, sum_offence, total_offence, offence}
use Rattle.machine.proofs.Folding.{local_records-length}
use Rattle.machine.proofs.Stops.{total_column-none, total-none, sum-none, offence-total}
use Rattle.step_cells.specs.Work.{HoldsCells}
use Rattle.step_rules.specs.Ready.{LocalDone}
use Rattle.step_rules.specs.Delivered.{Delivers}
use Rattle.step_rules.specs.Stepped.{GoesThrough}

-- what all rules leave, local and remote: the working cells hold the cells behind the step
pub record AllDone (s : Sizes) (read : ℕ → List ℕ → Reading) (cells : List Cell) (base : ℕ) (rs : List Rule) (values : List ℤ) (marks : List ℕ) (n : ℕ) : Type 0 where
  pub in_range : sum_offence s read rs ≡ none
  pub holds : HoldsCells base (step_cells s read rs cells) values marks
  pub sent_is : n ≡ length (record_messages read rs s.records)

pub all_done : (s : Sizes) (read : ℕ → List ℕ → Reading) (cells : List Cell) (rs : List Rule) {base n : ℕ} {v v' v'' : List ℤ} {m m' m'' : List ℕ}
    → length cells ≡ cell_count s → HoldsCells base cells v m
    → LocalDone s read base rs s.records v m v' m' → Delivers s base (record_messages read rs s.records) v' m' v'' m'' 0 n → AllDone s read cells base rs v'' m'' n
unfolding step_cells
all_done s read cells rs q h l r =
    let n = s.records in
    record {
      in_range = sum-none s read rs l.in_range;
      holds = r.holds (local_records s read rs n cells) (local_records-length s read rs n cells ∙ q) (l.holds cells q h);
      sent_is = omega (arith, r.sent_is);
    }

module _ (s : Sizes) (read : ℕ → List ℕ → Reading) (file : List ℕ) (rs : List Rule) where
  -- the cells behind the step, and which of them are in range
  abbrev after : List Cell
  after = step_cells s read rs (cells_of_file s file)

  abbrev behind : ℕ → Bool
  behind j = cell_in_range (get_or after j Missing)

  module _ {base n : ℕ} {values : List ℤ} {marks : List ℕ} (done : AllDone s read (cells_of_file s file) base rs values marks n) where
    -- the first total is out of range, where no local sum is
    pub total-stops : {x : Offence} → total_offence s behind ≡ some x → offence s read rs (cells_of_file s file) ≡ some x
    total-stops e = offence-total s read rs (cells_of_file s file) done.in_range ∙ e

    -- all sums and totals are in range, and the file holds the cells behind the step
    pub goes_through : {file' : List ℕ} → ((u c : ℕ) → u < s.records → c < width s → cell_in_range (get_or after (cell_index s u c) Missing) ≡ true)
        → file' ≡ file_of s after → GoesThrough s read rs file file' base values marks n
    goes_through in_range file-is = record {
      file-is = file-is;
      holds = done.holds;
      sent_is = done.sent_is;
      stops_not = offence-total s read rs (cells_of_file s file) done.in_range ∙ total-none s behind (λ u row. total_column-none s behind u (λ c col. in_range u c row col));
    }
