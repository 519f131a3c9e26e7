-- `op_inspect::inspect` meets its contract: the plan of the step, the lengths of the buffers, then the exchanges over the plan.
use Prim.Native.Nat.{ℕ, ◌≤◌}
use mathlib.Core.Path.{◌≡◌, sym, ap, ap₂, ◌∙◌}
use mathlib.Core.Bool.{Bool}
use mathlib.Core.List.{List}
use native.Mathlib.Omega.{arith}
use lib.ListN.{length}
use Rattle.laws.specs.Outcome.{Outcome, refused}
use Rattle.register.specs.File.{sizes_of}
use Rattle.register.specs.declared.Sizes.{Sizes}
use Rattle.register.proofs.Bounds.{limits}
use Rattle.register.proofs.Roundtrip.{Bytes, Loads, cells-valid}
use Rattle.plan_theory.specs.Plan.{Fact}
use Rattle.plan_lines.specs.Held.{HoldsLines}
use Rattle.plan_lines.proofs.Appending.{holds_count}
use Rattle.program.specs.Program.{most_lines, readings, step_plan}
use Rattle.machine.specs.Run.{scratch, is_short}
use Rattle.machine.proofs.Readings.{readings_pass, step-promised}
use Rattle.op_check.specs.StepPlan.{StepFound}
use Rattle.op_check.specs.declared.step.StepPlan.{StepPlan}
use Rattle.op_check.proofs.Checks.{refused-answer}
use Rattle.op_check.proofs.Passed.{StepThere, step-passes, loaded, passed, few-lines}
use Rattle.op_inspect.specs.Inspection.{inspection}
use Rattle.op_inspect.specs.Answer.{inspect_refusal, shown_lines, InspectAnswered}
use Rattle.op_inspect.specs.declared.InspectAnswer.{InspectAnswer}
use Rattle.op_inspect.proofs.Answering.{inspect_refused, inspect_short, inspect_done, lines-room, refused-answered, step-answered}
use Rattle.op_inspect.proofs.inspect.Goals as goal

pub returns-in-Err : goal.returns-in-Err
returns-in-Err c =
    let outcome : Outcome (List Fact) = (let a = c.args in inspection a.file.now a.text.now a.step (length a.values.now) (length a.marks.now)) in
    let turned_back : ((n : ℕ) → (k : ℕ) → (r : InspectAnswer) → outcome ≡ refused n k → r ≡ inspect_refusal n k → let a = c.args in InspectAnswered outcome a.file.now a.t a.values.now a.marks.now a.values.now a.marks.now r) = (λ n k r. let a = c.args in refused-answered a.file.now a.t a.values.now a.marks.now) in
    turned_back _ _ _ (inspect_refused _ _ _ _ _ (refused-answer c.in-Err.ensures.0))
    (rw c.number.ensures at c.refused.ensures)

pub sizes_of-sizes-requires : goal.sizes_of-sizes-requires
sizes_of-sizes-requires c =
    let file : List ℕ = c.args.file.now in
    let answer : StepPlan = c.in-Ok.planned in
    let found : StepFound file c.args.text.now c.args.step answer = c.in-Ok.ensures.1 in
    let loads : Loads (sizes_of file) file = loaded _ _ found.checked in
    loads.long

pub is_short-requires : goal.is_short-requires
is_short-requires c =
    let file : List ℕ = c.args.file.now in
    let answer : StepPlan = c.in-Ok.planned in
    let found : StepFound file c.args.text.now c.args.step answer = c.in-Ok.ensures.1 in
    let loads : Loads (sizes_of file) file = loaded _ _ found.checked in
    let f = found in
    (rw c.sizes_of-sizes.ensures (limits _ loads.within), omega (arith, f.most_is, few-lines _ _ f.checked))

pub returns-then-is_short : goal.returns-then-is_short
returns-then-is_short c =
    let outcome : Outcome (List Fact) = (let a = c.args in inspection a.file.now a.text.now a.step (length a.values.now) (length a.marks.now)) in
    let turned_back : ((n : ℕ) → (k : ℕ) → (r : InspectAnswer) → outcome ≡ refused n k → r ≡ inspect_refusal n k → let a = c.args in InspectAnswered outcome a.file.now a.t a.values.now a.marks.now a.values.now a.marks.now r) = (λ n k r. let a = c.args in refused-answered a.file.now a.t a.values.now a.marks.now) in
    let file : List ℕ = c.args.file.now in
    let answer : StepPlan = c.in-Ok.planned in
    let found : StepFound file c.args.text.now c.args.step answer = c.in-Ok.ensures.1 in
    let short : Sizes → ℕ → Bool = (λ s n. let a = c.args in is_short (scratch s n) (length a.values.now) (length a.marks.now)) in
    let short-is : c.is_short.result ≡ short (sizes_of file) (most_lines found.program) = (let told : c.is_short.result ≡ short c.sizes_of-sizes.result answer.most = c.is_short.ensures in told ∙ ap₂ short c.sizes_of-sizes.ensures found.most_is) in
    let f = found in
    turned_back _ _ _ (inspect_short _ _ _ _ _ f.checked f.there (sym short-is ∙ c.if-is_short.true)) c.refused-then-is_short.ensures

pub show-requires : goal.show-requires
show-requires c =
    let file : List ℕ = c.args.file.now in
    let answer : StepPlan = c.in-Ok.planned in
    let bytes : Bytes file = (λ i. let b = c.type_inv.file i in b.fits) in
    let found : StepFound file c.args.text.now c.args.step answer = c.in-Ok.ensures.1 in
    let holds : HoldsLines answer.plan (step_plan found.rules) = rw found.lines_are at c.in-Ok.ensures.0.sound in
    let loads : Loads (sizes_of file) file = loaded _ _ found.checked in
    let passes : StepThere (sizes_of file) found.program found.rules = step-passes _ _ _ (passed _ _ found.checked).each found.there in
    let few : answer.plan.count ≤ most_lines found.program = omega (arith, passes.lines, holds_count holds) in
    let short : Sizes → ℕ → Bool = (λ s n. let a = c.args in is_short (scratch s n) (length a.values.now) (length a.marks.now)) in
    let short-is : c.is_short.result ≡ short (sizes_of file) (most_lines found.program) = (let told : c.is_short.result ≡ short c.sizes_of-sizes.result answer.most = c.is_short.ensures in told ∙ ap₂ short c.sizes_of-sizes.ensures found.most_is) in
    let s = sizes_of file in
    let room = lines-room s few (sym short-is ∙ c.if-is_short.false) in
    rw c.sizes_of-sizes.ensures (
      cells-valid s file bytes loads,
      loads.whole,
      record {
        readings = readings found.rules;
        passes = readings_pass s found.rules passes.passes.each;
        promised = step-promised found.rules holds;
        keys_length = holds.keyed.places;
        rounds_length = holds.rounds_are.places;
      },
      room.0,
      room.1,
    )

pub returns : goal.returns
returns c =
    let file : List ℕ = c.args.file.now in
    let answer : StepPlan = c.in-Ok.planned in
    let found : StepFound file c.args.text.now c.args.step answer = c.in-Ok.ensures.1 in
    let holds : HoldsLines answer.plan (step_plan found.rules) = rw found.lines_are at c.in-Ok.ensures.0.sound in
    let short : Sizes → ℕ → Bool = (λ s n. let a = c.args in is_short (scratch s n) (length a.values.now) (length a.marks.now)) in
    let short-is : c.is_short.result ≡ short (sizes_of file) (most_lines found.program) = (let told : c.is_short.result ≡ short c.sizes_of-sizes.result answer.most = c.is_short.ensures in told ∙ ap₂ short c.sizes_of-sizes.ensures found.most_is) in
    let a = c.args in
    let f = found in
    step-answered a.file.now a.t a.values.now a.marks.now
    (inspect_done _ _ _ _ _ f.checked f.there (sym short-is ∙ c.if-is_short.false))
    (record {
      answer_is = ap shown_lines (sym (holds_count holds));
      shown = rw (c.sizes_of-sizes.ensures, f.lines_are) at c.show.ensures;
    })
