-- (P) The printed run's values, and the runs of the "Edges": each as the cells at the end, the finished steps with the cells before
-- each, and the ending.
use Rattle.std.specs.Prelude.{ℕ, ◌≡◌, refl, List, [], ◌∷◌, pos}
use Rattle.integers.specs.Range.{in_range, eq_z}
use Rattle.register.specs.File.{width, cell_index}
use Rattle.register.specs.declared.Sizes.{Sizes}
use Rattle.register.specs.declared.cells.Cell.{Cell}
use Rattle.register.specs.declared.cells.Cell.TheVariants.{Missing, Measured, WorkedOut}
use Rattle.chain.specs.Word.{is_reference, column, read_of, read_cell, hop, follow, value_at_record}
use Rattle.program.specs.Program.{Step, Program, target_field}
use Rattle.machine.specs.Value.{both, operate, combined, value, reading_in_range, cell_in_range, overflows, holds}
use Rattle.machine.specs.Local.{stored_over, assign, local_rule, local_rules, local_records, test_overflows, offends, sum_column}
use Rattle.machine.specs.Remote.{sent_to, sent_by, rule_messages, messages, record_messages, added, increased, merged, deliver, deliver_all}
use Rattle.machine.specs.Step.{step_cells, earlier, first_some, in_record, sum_offence, total_column, total_offence, offence}
use Rattle.machine.specs.Run.{Run, complete, exhausted, offended, direct, same_reading, same_column, entered, following, behind, unless_offended, step_first, run_from, run}
use Rattle.paper_examples.specs.Printed.{printed_sizes, printed_cells}
use Rattle.paper_examples.specs.Programs.{printed_step, earlier_step, own_step, above_step, most_step, amounts_step, marking_step}

-- the run of the direct machine: a program with a budget over the cells of a register
unfoldable pub example_run : Sizes → Program → ℕ → List Cell → Run
unfolding in_range eq_z width cell_index is_reference column read_of read_cell hop follow value_at_record both operate combined value reading_in_range cell_in_range overflows holds target_field stored_over assign local_rule local_rules local_records test_overflows offends sum_column sent_to sent_by rule_messages messages record_messages added increased merged deliver deliver_all step_cells earlier first_some in_record sum_offence total_column total_offence offence direct same_reading same_column entered following behind unless_offended step_first run_from run
example_run s program budget cells = run s (direct s) program budget cells

-- over the printed register, "allowance 1,000"
unfoldable pub over_printed : Program → Run
unfolding example_run printed_sizes printed_cells
over_printed program = example_run printed_sizes program 1000 printed_cells

-- the most that a cell holds, worked out, and the printed register with M at it
abbrev pub most : Cell
most = WorkedOut (pos 2147483647)

abbrev pub most_cells : List Cell
most_cells = Measured (pos 1) ∷ most ∷ Measured (pos 2) ∷ most ∷ Missing ∷ most ∷ []

-- "1 steps"; "0 1 180~", "1 2 0", "2 - 180": only what the rule stored is worked out
abbrev pub printed_result : Run
printed_result = record {
  cells = Measured (pos 1) ∷ WorkedOut (pos 180) ∷ Measured (pos 2) ∷ Measured (pos 0) ∷ Missing ∷ Measured (pos 180) ∷ [];
  trace = (printed_step, printed_cells) ∷ [];
  ending = complete;
}

pub printed_values : over_printed (printed_step ∷ []) ≡ printed_result
unfolding over_printed
printed_values = refl

-- "leaves the cell as earlier rules of that step left it": record 2 has a gap at A and holds 5, where M was 180 before the step
pub earlier-stays : over_printed (earlier_step ∷ [])
    ≡ record {
      cells = Measured (pos 1) ∷ WorkedOut (pos 0) ∷ Measured (pos 2) ∷ WorkedOut (pos 180) ∷ Missing ∷ WorkedOut (pos 5) ∷ [];
      trace = (earlier_step, printed_cells) ∷ [];
      ending = complete;
    }
unfolding over_printed
earlier-stays = refl

-- "`A[u] := u` gives filled A everywhere", worked out
pub own_filled : over_printed (own_step ∷ [])
    ≡ record {
      cells = WorkedOut (pos 0) ∷ Missing ∷ WorkedOut (pos 1) ∷ Measured (pos 0) ∷ WorkedOut (pos 2) ∷ Measured (pos 180) ∷ [];
      trace = (own_step, printed_cells) ∷ [];
      ending = complete;
    }
unfolding over_printed
own_filled = refl

-- "2147483647 + 1 stops": at every record, so the lowest is named, and M is column 1
pub above-stops : over_printed (above_step ∷ [])
    ≡ record { cells = printed_cells; trace = []; ending = offended (record { row = 0; column = 1 }) }
unfolding over_printed
above-stops = refl

-- "2147483647 + 0 does not"
pub most-stands : over_printed (most_step ∷ []) ≡ record { cells = most_cells; trace = (most_step, printed_cells) ∷ []; ending = complete }
unfolding over_printed
most-stands = refl

-- "M at 2147483647 with two remote amounts 1 and −1 stands"
pub amounts_stand : over_printed (most_step ∷ amounts_step ∷ [])
    ≡ record { cells = most_cells; trace = (most_step, printed_cells) ∷ (amounts_step, most_cells) ∷ []; ending = complete }
unfolding over_printed
amounts_stand = refl

-- M-107: `loop M`, `M[u] := 5` over a measured 5 has one pass: it only turns 1 into 2, and is at rest
abbrev pub five_cells : Cell → List Cell
five_cells five = Measured (pos 1) ∷ five ∷ Measured (pos 2) ∷ five ∷ Missing ∷ five ∷ []

pub marked_rests : example_run printed_sizes (marking_step ∷ []) 1000 (five_cells (Measured (pos 5)))
    ≡ record { cells = five_cells (WorkedOut (pos 5)); trace = (marking_step, five_cells (Measured (pos 5))) ∷ []; ending = complete }
unfolding example_run printed_sizes
marked_rests = refl

-- "Empty text, allowance 0: finished 0; one step, allowance 0: refusal 20", over any register
pub empty-complete : (s : Sizes) (cells : List Cell) → example_run s [] 0 cells ≡ record { cells = cells; trace = []; ending = complete }
unfolding example_run
empty-complete s cells = refl

pub one-step_exhausted : (s : Sizes) (cells : List Cell) (x : Step)
    → example_run s (x ∷ []) 0 cells ≡ record { cells = cells; trace = []; ending = exhausted }
unfolding example_run
one-step_exhausted s cells x = refl
