-- `op_run::run_text` meets its contract: the check, what is asked of the buffers, then the run over a copy of the register.
use Prim.Native.Nat.{ℕ, ◌≤◌}
use mathlib.Core.Path.{◌≡◌, refl, sym, ap, ◌∙◌}
use mathlib.Core.List.{List}
use native.Mathlib.Omega.{arith}
use lib.ListN.{length}
use Rattle.laws.specs.Outcome.{done, unless}
use Rattle.register.specs.File.{sizes_of, cells_of_file}
use Rattle.register.proofs.Bounds.{limits}
use Rattle.register.proofs.Roundtrip.{Bytes}
use Rattle.program.specs.Program.{Program, most_lines}
use Rattle.text_rules.specs.Text.{check}
use Rattle.text_reader.proofs.Reading.{refuse-none}
use Rattle.program.specs.Kept.{program_of, Complete}
use Rattle.program.specs.declared.Program as R
use Rattle.op_check.proofs.Checks.{answered-refused, answered-program}
use Rattle.op_check.proofs.Passed.{loaded, passed, few-lines}
use Rattle.op_ready.specs.Ready.{Readied}
use Rattle.op_ready.proofs.Readying.{ready-room}
use Rattle.std.specs.Prelude.{Ok, Err}
use Rattle.op_limits.specs.Number.{refusal_number, check_number}
use Rattle.op_limits.proofs.Numbers.{not_none}
use Rattle.machine.specs.Run.{direct, run, scratch}
use Rattle.run_steps.specs.Answer.{Ends}
use Rattle.op_run.specs.Direct.{direct_run}
use Rattle.op_run.specs.Answer.{lengths}
use Rattle.op_run.proofs.Answering.{refused-answered, run-answered, unless_zero, run-refused, run-unless, register, copy_register, scratch-ready, over_copy}
use Rattle.op_run.proofs.run_text.Goals as goal

pub returns-in-Err : goal.returns-in-Err
returns-in-Err c =
    let a = c.args in
    refused-answered a.machine a.file.now a.out.now a.values.now a.marks.now _ _
    (run-refused _ _ _ _ (answered-refused c.in-Err.ensures))
    (record { answer_is = rw c.number.ensures at c.refused.ensures; out_same = refl; values_same = refl; marks_same = refl })

pub sizes_of-sizes-requires : goal.sizes_of-sizes-requires
sizes_of-sizes-requires c =
    let a = c.args in
    let kept : R.Program = c.in-Ok.program in
    let codes : List ℕ = c.read.new.codes in
    let program : Program = program_of codes kept in
    let checked : check a.file.now a.text.now ≡ done program = answered-program c.in-Ok.ensures in
    (loaded _ _ checked).long

pub ready-requires : goal.ready-requires
ready-requires c =
    let a = c.args in
    let kept : R.Program = c.in-Ok.program in
    let codes : List ℕ = c.read.new.codes in
    let program : Program = program_of codes kept in
    let checked : check a.file.now a.text.now ≡ done program = answered-program c.in-Ok.ensures in
    let complete : Complete codes kept = c.in-Ok.ensures.complete in
    let line_limit : kept.lines ≤ 64 = omega (arith, complete.lines_are, few-lines _ _ checked) in
    (rw c.sizes_of-sizes.ensures (limits _ (loaded _ _ checked).within), line_limit)

pub returns-in-Err-ready : goal.returns-in-Err-ready
unfolding check_number
returns-in-Err-ready c =
    let a = c.args in
    let kept : R.Program = c.in-Ok.program in
    let codes : List ℕ = c.read.new.codes in
    let program : Program = program_of codes kept in
    let checked : check a.file.now a.text.now ≡ done program = answered-program c.in-Ok.ensures in
    let complete : Complete codes kept = c.in-Ok.ensures.complete in
    let r : Readied (scratch (sizes_of a.file.now) (most_lines program)) a.file.now a.out.now a.values.now a.marks.now c.ready.new.out c.ready.new.values c.ready.new.marks (Err c.in-Err-ready.refusal) =
    rw (← c.sizes_of-sizes.ensures, ← complete.lines_are) c.in-Err-ready.ensures in
    let s = sizes_of a.file.now in
    let by_lengths : direct_run a.file.now a.text.now a.budget (lengths a.out.now a.values.now a.marks.now) ≡ unless (refusal_number c.in-Err-ready.refusal) 0 (done (run s (direct s) program a.budget (cells_of_file s a.file.now))) =
    run-unless _ _ _ _ checked r.refusal_is in
    refused-answered a.machine a.file.now a.out.now a.values.now a.marks.now _ _ (by_lengths ∙ refuse-none _ _ _ (not_none _))
    (record { answer_is = rw c.number-in-Err-ready.ensures at c.refused-in-Err-ready.ensures; out_same = r.out_is; values_same = r.values_same; marks_same = r.marks_same })

pub run_program-answer-requires : goal.run_program-answer-requires
run_program-answer-requires c =
    let a = c.args in
    let kept : R.Program = c.in-Ok.program in
    let codes : List ℕ = c.read.new.codes in
    let program : Program = program_of codes kept in
    let checked : check a.file.now a.text.now ≡ done program = answered-program c.in-Ok.ensures in
    let complete : Complete codes kept = c.in-Ok.ensures.complete in
    let line_limit : kept.lines ≤ 64 = omega (arith, complete.lines_are, few-lines _ _ checked) in
    let r : Readied (scratch (sizes_of a.file.now) (most_lines program)) a.file.now a.out.now a.values.now a.marks.now c.ready.new.out c.ready.new.values c.ready.new.marks (Ok tt) =
    rw (← c.sizes_of-sizes.ensures, ← complete.lines_are) c.in-Ok-ready.ensures in
    let copied : c.ready.new.out ≡ a.file.now = r.out_is in
    let bytes : Bytes a.file.now = λ i. (c.type_inv.file i).fits in
    let e = c.sizes_of-sizes.ensures in (
      copy_register e copied (register a.file.now a.text.now checked bytes),
      scratch-ready e complete.lines_are r.values_same r.marks_same line_limit (ready-room r),
      complete,
      rw e (passed a.file.now a.text.now checked),
    )

pub restore-requires : goal.restore-requires
restore-requires c =
    let a = c.args in
    let kept : R.Program = c.in-Ok.program in
    let codes : List ℕ = c.read.new.codes in
    let program : Program = program_of codes kept in
    let checked : check a.file.now a.text.now ≡ done program = answered-program c.in-Ok.ensures in
    let complete : Complete codes kept = c.in-Ok.ensures.complete in
    let r : Readied (scratch (sizes_of a.file.now) (most_lines program)) a.file.now a.out.now a.values.now a.marks.now c.ready.new.out c.ready.new.values c.ready.new.marks (Ok tt) =
    rw (← c.sizes_of-sizes.ensures, ← complete.lines_are) c.in-Ok-ready.ensures in
    let copied : c.ready.new.out ≡ a.file.now = r.out_is in
    sym (c.run_program-answer.auto.out ∙ ap length copied)

pub returns : goal.returns
unfolding check_number
returns c =
    let a = c.args in
    let kept : R.Program = c.in-Ok.program in
    let codes : List ℕ = c.read.new.codes in
    let program : Program = program_of codes kept in
    let checked : check a.file.now a.text.now ≡ done program = answered-program c.in-Ok.ensures in
    let complete : Complete codes kept = c.in-Ok.ensures.complete in
    let r : Readied (scratch (sizes_of a.file.now) (most_lines program)) a.file.now a.out.now a.values.now a.marks.now c.ready.new.out c.ready.new.values c.ready.new.marks (Ok tt) =
    rw (← c.sizes_of-sizes.ensures, ← complete.lines_are) c.in-Ok-ready.ensures in
    let s = sizes_of a.file.now in
    let by_lengths : direct_run a.file.now a.text.now a.budget (lengths a.out.now a.values.now a.marks.now) ≡ unless 0 0 (done (run s (direct s) program a.budget (cells_of_file s a.file.now))) =
    run-unless _ _ _ _ checked r.refusal_is in
    let copied : c.ready.new.out ≡ a.file.now = r.out_is in
    let ran : direct_run a.file.now a.text.now a.budget (lengths a.out.now a.values.now a.marks.now) ≡ done (run s (direct s) program a.budget (cells_of_file s a.file.now)) =
    by_lengths ∙ unless_zero 0 _ _ refl in
    let ended : Ends a.machine s program a.budget a.file.now c.run_program-answer.new.out c.run_program-answer.result =
    over_copy program a.budget c.sizes_of-sizes.ensures copied c.run_program-answer.ensures in
    run-answered a.machine a.file.now a.out.now a.values.now a.marks.now _ _ ran ended c.restore.ensures
    (c.run_program-answer.auto.values ∙ ap length r.values_same) (c.run_program-answer.auto.marks ∙ ap length r.marks_same)
