-- What is filled in the register as loaded is filled in the output, by either machine.
use Prim.Native.Nat.{ℕ}
use mathlib.Core.Path.{◌≡◌, ap, ◌∙◌}
use mathlib.Core.List.{List}
use native.Mathlib.Omega.{arith}
use Rattle.register.specs.File.{sizes_of, file_of, cells_of_file}
use Rattle.register.specs.declared.cells.Cell.{Cell}
use Rattle.register.proofs.Roundtrip.{decode_encode}
use Rattle.machine.specs.Run.{Ending, complete, exhausted, offended, direct, run}
use Rattle.machine.proofs.Ending.{run-valid}
use Rattle.machine.proofs.Surviving.{run_fills}
use Rattle.run_steps.specs.declared.RunAnswer.{RunAnswer}
use Rattle.op_check.proofs.Passed.{passed}
use Rattle.op_run.specs.Answer.{Ended}
use Rattle.op_run.specs.Claims.{OutputFills}
use Rattle.op_run.proofs.Answering.{register}

-- a run that finishes leaves the cells at its end in the output
finished_cells : (file : List ℕ) (cells : List Cell) (e : Ending) (out : List ℕ) (r : RunAnswer) → Ended (sizes_of file) e cells file out r → r.refusal ≡ 0
    → out ≡ file_of (sizes_of file) cells
finished_cells file cells complete out r h z = h.1
finished_cells file cells exhausted out r h z = absurd (omega (arith, ap (λ (a : RunAnswer). a.refusal) h.0))
finished_cells file cells (offended o) out r h z = absurd (omega (arith, ap (λ (a : RunAnswer). a.refusal) h.0))

-- M-103
pub output_fills : OutputFills
output_fills m file text p e bytes budget out values values' marks marks' r a z =
    let s = sizes_of file in
    let end = run s (direct s) p budget (cells_of_file s file) in
    let valid = run-valid s (passed file text e) (register file text e bytes).valid budget in
    let read_back : cells_of_file s out ≡ end.cells
    = ap (cells_of_file s) (finished_cells file end.cells end.ending out r a.ended z) ∙ decode_encode s end.cells valid in
    rw read_back (run_fills s (direct s) p budget (cells_of_file s file))
