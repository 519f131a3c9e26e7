-- Where the marks of the output come from, by either machine and however the run ends (M-107).
use Prim.Native.Nat.{ℕ}
use mathlib.Core.Path.{◌≡◌, refl, sym, ap, ◌∙◌}
use mathlib.Core.List.{List}
use native.Mathlib.Omega.{arith}
use lib.IntN.{ℤ}
use lib.ListN.{get_or}
use Rattle.laws.specs.Outcome.{done}
use Rattle.register.specs.Cells.{value_of, mark_of}
use Rattle.register.specs.File.{sizes_of, cells_of_file, file_of}
use Rattle.register.specs.Shape.{Valid, Register}
use Rattle.register.specs.declared.Sizes.{Sizes}
use Rattle.register.specs.declared.cells.Cell.{Cell}
use Rattle.register.specs.declared.cells.Cell.TheVariants.{Missing, Measured, WorkedOut}
use Rattle.register.proofs.Roundtrip.{Bytes, decode_encode, encoded_register, register-value, register_mark}
use Rattle.program.specs.Program.{Program}
use Rattle.text_rules.specs.Text.{check}
use Rattle.machine.specs.Marks.{WereMeasured, WereUnfilled}
use Rattle.machine.specs.Run.{Ending, complete, exhausted, offended, Run, direct, run}
use Rattle.machine.proofs.Ending.{run-valid}
use Rattle.machine.proofs.Surviving.{run_measured, run-unfilled}
use Rattle.machine_messages.specs.declared.Machine.{Machine}
use Rattle.run_steps.specs.declared.RunAnswer.{RunAnswer}
use Rattle.op_check.proofs.Passed.{passed}
use Rattle.op_run.specs.Answer.{Ended, RunAnswered}
use Rattle.op_run.specs.Marks.{MeasuredBefore, UnfilledBefore}
use Rattle.op_run.specs.Claims.{OutputMeasured, OutputUnfilled}
use Rattle.op_run.proofs.Answering.{register}

-- a cell by its mark
marked_1 : (c : Cell) → mark_of c ≡ 1 → c ≡ Measured (value_of c)
unfolding mark_of value_of
marked_1 Missing e = absurd (omega arith)
marked_1 (Measured z) e = refl
marked_1 (WorkedOut z) e = absurd (omega arith)

marked_0 : (c : Cell) → mark_of c ≡ 0 → c ≡ Missing
unfolding mark_of
marked_0 Missing e = refl
marked_0 (Measured z) e = absurd (omega arith)
marked_0 (WorkedOut z) e = absurd (omega arith)

-- two registers, by their cells and by their bytes
module _ (s : Sizes) {file out : List ℕ} (r : Register s file) (o : Register s out) where
  bytes_measured : WereMeasured (cells_of_file s file) (cells_of_file s out) → MeasuredBefore s file out
  unfolding mark_of value_of
  bytes_measured h j l e =
      let c = get_or (cells_of_file s out) j Missing in
      let same = h j (value_of c) (marked_1 c (sym (register_mark s out o j) ∙ e)) in (
        register_mark s file r j ∙ ap mark_of same,
        register-value s out o j l ∙ sym (register-value s file r j l ∙ ap value_of same),
      )

  bytes-unfilled : WereUnfilled (cells_of_file s file) (cells_of_file s out) → UnfilledBefore s file out
  unfolding mark_of
  bytes-unfilled h j l e = register_mark s file r j ∙ ap mark_of (h j (marked_0 _ (sym (register_mark s out o j) ∙ e)))

-- the output is the file of the cells at the end, or after 20 and 21 the register as loaded
output_is : (P : List ℕ → Type 0) (s : Sizes) (cells : List Cell) (file : List ℕ) (e : Ending) (out : List ℕ) (r : RunAnswer)
    → Ended s e cells file out r → P (file_of s cells) → P file → P out
output_is P s cells file complete out r h whole loaded = rw h.1 whole
output_is P s cells file exhausted out r h whole loaded = rw h.1 loaded
output_is P s cells file (offended o) out r h whole loaded = rw h.1 loaded

-- for every register that loads, text that passes and budget
module _ (m : Machine) (file text : List ℕ) {p : Program} (e : check file text ≡ done p) (bytes : Bytes file) (budget : ℕ) where
  abbrev s : Sizes
  s = sizes_of file

  abbrev end : Run
  end = run s (direct s) p budget (cells_of_file s file)

  valid : Valid s end.cells
  valid = run-valid s (passed file text e) (register file text e bytes).valid budget

  module _ {out : List ℕ} {values values' : List ℤ} {marks marks' : List ℕ} {r : RunAnswer}
      (a : RunAnswered m end file out values marks values' marks' r) where
    measured_before : MeasuredBefore s file out
    measured_before =
        output_is (MeasuredBefore s file) s end.cells file end.ending out r a.ended
        (bytes_measured s (register file text e bytes) (encoded_register s end.cells valid)
        (rw (decode_encode s end.cells valid) (run_measured s (direct s) p budget (cells_of_file s file))))
        (λ j l h. (h, refl))

    unfilled-before : UnfilledBefore s file out
    unfilled-before =
        output_is (UnfilledBefore s file) s end.cells file end.ending out r a.ended
        (bytes-unfilled s (register file text e bytes) (encoded_register s end.cells valid)
        (rw (decode_encode s end.cells valid) (run-unfilled s (direct s) p budget (cells_of_file s file))))
        (λ j l h. h)

pub output_measured : OutputMeasured
output_measured m file text p e bytes budget out values values' marks marks' r a = measured_before m file text e bytes budget a

pub output_unfilled : OutputUnfilled
output_unfilled m file text p e bytes budget out values values' marks marks' r a = unfilled-before m file text e bytes budget a
