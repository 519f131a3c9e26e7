-- `op_check::step::plan_step` meets its contract.
use Prim.Native.Nat.{ℕ, ◌≤◌}
use mathlib.Core.Path.{◌≡◌, sym, subst, ◌∙◌}
use mathlib.Core.Bool.{Bool, true, ◌&&◌}
use native.Mathlib.Omega.{arith}
use borrow.Author.Tests.{leb-true}
use lib.Dec.{leb}
use Rattle.laws.proofs.Bools.{and_both}
use Rattle.text_rules.proofs.Passing.{check-passes}
use Rattle.op_check.specs.Checked.{Checks}
use Rattle.op_check.proofs.Checks.{answered-refused, answered-program, plan-refused, step_missing, step-there}
use Rattle.op_check.proofs.step.plan_step.Goals as goal

pub returns-in-Err : goal.returns-in-Err
returns-in-Err c = plan-refused _ _ _ (answered-refused (subst (Checks _) c.in-Err.is c.check-checked.ensures).answers)

-- a step that is there
step_within : {n m k : ℕ} {b : Bool} → n ≡ m → b ≡ leb 1 k && leb k n → b ≡ true → (1 ≤ k) × (k ≤ m)
step_within {n} {m} {k} s e t =
    let (a, b) = and_both (leb 1 k) (leb k n) (sym e ∙ t) in
    (leb-true 1 k a, omega (arith, leb-true k n b, s))

pub returns-then-not-is_step : goal.returns-then-not-is_step
returns-then-not-is_step c =
    let a = (subst (Checks _) c.in-Ok.is c.check-checked.ensures).answers in
    rw c.from.ensures (step_missing _ _ _ (answered-program a) (rw (← a.complete.steps_are) (sym c.is_step.ensures ∙ c.if-not-is_step.true)))

pub overflow_sub-frame : goal.overflow_sub-frame
overflow_sub-frame c = (step_within (subst (Checks _) c.in-Ok.is c.check-checked.ensures).answers.complete.steps_are c.is_step.ensures c.if-not-is_step.false).0

pub offset_bounds-program-step : goal.offset_bounds-program-step
offset_bounds-program-step c =
    let a = (subst (Checks _) c.in-Ok.is c.check-checked.ensures).answers in
    let within = step_within a.complete.steps_are c.is_step.ensures c.if-not-is_step.false in
    let below : c.args.step ≤ 32 = omega (arith, within.1, (check-passes _ _ _ (answered-program a)).2.few) in
    record { fits = omega (arith, below) }

pub bounds-program-step : goal.bounds-program-step
bounds-program-step c =
    let a = (subst (Checks _) c.in-Ok.is c.check-checked.ensures).answers in
    let within = step_within a.complete.steps_are c.is_step.ensures c.if-not-is_step.false in
    let below : c.args.step ≤ 32 = omega (arith, within.1, (check-passes _ _ _ (answered-program a)).2.few) in
    omega (arith, below)

pub returns : goal.returns
returns c =
    let a = (subst (Checks _) c.in-Ok.is c.check-checked.ensures).answers in
    let within = step_within a.complete.steps_are c.is_step.ensures c.if-not-is_step.false in
    step-there _ _ _ (answered-program a) _ _ a.complete.framed within.0 within.1 a.complete.lines_are
