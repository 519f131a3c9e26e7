-- (P) The printed run by messages (document 01's letters), and what it and the runs of the "Edges" count.
use Rattle.std.specs.Prelude.{ℕ, ◌≡◌, refl, List, [], ◌∷◌, map}
use Rattle.register.specs.File.{width, cell_index}
use Rattle.register.specs.declared.Sizes.{Sizes}
use Rattle.register.specs.declared.cells.Cell.{Cell}
use Rattle.chain.specs.Word.{is_reference, column, read_of, read_cell}
use Rattle.plan_theory.specs.Plan.{Fact, back, read, round, rounds, tree, tree_within, half, doubled, front, rest, plan, add, add_readings, with_tree, listed, line_index}
use Rattle.program.specs.Program.{Step, Program, step_plan, readings, rule_readings, target_readings, test_readings, expression_readings, some_target, is_remote, has_remote}
use Rattle.machine.specs.Run.{Run, run}
use Rattle.machine_messages.specs.Held.{knows, writer, needed, written, sent, held_after}
use Rattle.machine_messages.specs.Counts.{most_rounds, held_in, by_messages, line_messages, plan_messages, step_exchanges, step_messages, trace_exchanges, trace_messages}
use Rattle.paper_examples.specs.Printed.{printed_sizes, printed_cells}
use Rattle.paper_examples.specs.Programs.{printed_step}
use Rattle.paper_examples.specs.Runs.{example_run, over_printed, printed_result}

-- the lines of a step's plan, each with its messages over the cells before the step
unfoldable pub line_counts : Sizes → Step → List Cell → List (Fact × ℕ)
unfolding width cell_index is_reference column read_of read_cell round rounds tree tree_within half doubled front rest plan add add_readings with_tree listed line_index step_plan readings rule_readings target_readings test_readings expression_readings knows writer needed written sent held_after most_rounds held_in line_messages
line_counts s x cells = map (λ f. (f, line_messages (held_in s x.rules cells f) s.records)) (step_plan x.rules)

-- the exchanges and the messages of a run
unfoldable pub run_counts : Sizes → Run → ℕ × ℕ
unfolding line_counts some_target is_remote has_remote plan_messages step_exchanges step_messages trace_exchanges trace_messages
run_counts s x = (trace_exchanges x.trace, trace_messages s x.trace)

-- the run of the message machine
unfoldable pub message_run : Sizes → Program → ℕ → List Cell → Run
unfolding example_run line_counts by_messages
message_run s program budget cells = run s (by_messages s) program budget cells

-- "Lines of this plan: Back(A) 2 letters, Back(AA) 1, Read(AAM) 1."
pub printed-lines : line_counts printed_sizes printed_step printed_cells
    ≡ (back (0 ∷ []), 2) ∷ (back (0 ∷ 0 ∷ []), 1) ∷ (read (0 ∷ 0 ∷ 8 ∷ []), 1) ∷ []
unfolding line_counts printed_sizes printed_cells
printed-lines = refl

-- "3 exchanges 4 letters"
pub printed_counts : run_counts printed_sizes (over_printed (printed_step ∷ [])) ≡ (3, 4)
unfolding run_counts over_printed
printed_counts = refl

-- the printed values, by messages
pub printed-messages : message_run printed_sizes (printed_step ∷ []) 1000 printed_cells ≡ printed_result
unfolding message_run printed_sizes printed_cells
printed-messages = refl

-- "n 0: exchanges still 3, letters 0", with the printed text
abbrev pub no_records : Sizes
no_records = record { records = 0; references = 1; measures = 1 }

pub no_records_counts : run_counts no_records (example_run no_records (printed_step ∷ []) 1000 []) ≡ (3, 0)
unfolding run_counts example_run
no_records_counts = refl

-- "Empty text, allowance 0", over any register
pub empty_counts : (s : Sizes) (cells : List Cell) → run_counts s (example_run s [] 0 cells) ≡ (0, 0)
unfolding run_counts example_run
empty_counts s cells = refl
