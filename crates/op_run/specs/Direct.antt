-- The direct run of a text over a register, with a budget: document 01's straight run.
use Rattle.std.specs.Prelude.{cond, List, ℕ, eqb, length}
use Rattle.laws.specs.Outcome.{Outcome, done, refused, after}
use Rattle.register.specs.File.{sizes_of, cells_of_file}
use Rattle.program.specs.Program.{Program, most_lines}
use Rattle.text_rules.specs.Text.{check}
use Rattle.machine.specs.Run.{Run, direct, run, scratch, is_short}

-- the lengths of the buffers that a caller lends: output, values, marks
pub record Lengths : Type 0 where
  pub out : ℕ
  pub values : ℕ
  pub marks : ℕ

-- "18 output not as long as the register file ..; 19 a working array too short: both before running, 18 first"
unfoldable pub run_program : List ℕ → ℕ → Lengths → Program → Outcome Run
run_program file budget n p =
    let s = sizes_of file in
    cond (eqb n.out (length file))
    (cond (is_short (scratch s (most_lines p)) n.values n.marks) (refused 19 0) (done (run s (direct s) p budget (cells_of_file s file))))
    (refused 18 0)

-- "The register is looked at first, then rules .., then 18 and 19."
unfoldable pub direct_run : List ℕ → List ℕ → ℕ → Lengths → Outcome Run
direct_run file text budget n = after (check file text) (run_program file budget n)
