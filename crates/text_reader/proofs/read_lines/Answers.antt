-- `text_reader::read_lines` meets its contract.
use mathlib.Core.Path.{refl, sym, ap, ◌∙◌}
use Rattle.std.specs.Prelude.{Some}
use native.Mathlib.Omega.{arith}
use Rattle.text_rules.specs.Text.{advance}
use Rattle.text_refusals.specs.Number.{check_number}
use Rattle.text_state.specs.State.{advance_of}
use Rattle.text_reader.proofs.Arms.{Behind}
use Rattle.text_reader.proofs.Reading.{passed, small, again, answer-line, answer-last, answer-read, begun}
use Rattle.text_reader.proofs.Storing.{fits, behind-rule, behind_close, behind-last, behind-none}
use Rattle.text_reader.proofs.read_lines.Goals as goal
use Rattle.text_reader.proofs.read_lines.Goals.{in-Some-Rule, in-Some-Close, in-Some-Last, in-None}

pub loop-at-init : goal.loop-at-init
loop-at-init c =
    let o = c.empty-open_step.ensures in
    begun _ _ o.0 o.1 c.requires.2 c.empty_slot-slots.ensures refl c.start-state.ensures

pub returns-in-Err : goal.returns-in-Err
returns-in-Err c = answer-line _ c.loop-at.invariant c.loop-at-test.true c.in-Err.ensures

pub plan_line-requires : goal.plan_line-requires
plan_line-requires c =
    let q = c.loop-at.invariant in
    let p = passed _ q c.loop-at-test.true c.in-Ok.ensures in
    ((small q).0, (small q).1, fits c.requires.0 p 0 c.requires.1 (c.next_line.auto.codes ∙ q.lent))

pub bounds-slots-place : goal.bounds-slots-place
bounds-slots-place c =
    let p = passed _ c.loop-at.invariant c.loop-at-test.true c.in-Ok.ensures in
    (behind-rule c.requires.0 p 0 c.in-Some-Rule.ensures (ap Some c.in-Some-Rule.field-0-is)).0

pub bounds-frames-step : goal.bounds-frames-step
bounds-frames-step c =
    let p = passed _ c.loop-at.invariant c.loop-at-test.true c.in-Ok.ensures in
    (behind_close c.requires.0 p 0 c.in-Some-Close.ensures (ap Some c.in-Some-Close.field-0-is)).0

pub overflow_add-at : goal.overflow_add-at
overflow_add-at c =
    let p = passed _ c.loop-at.invariant c.loop-at-test.true c.in-Ok.ensures in
    record { fits = omega (arith, p.inside, c.in-Ok.ensures.end_is, c.requires.1) }

pub loop-at-preserved : goal.loop-at-preserved
loop-at-preserved c =
    let q = c.loop-at.invariant in
    let n = c.in-Ok.next in
    let j = c.match-plan_line in
    let m = c.loop-at.open_step.plan.count in
    let l = c.requires.0 in
    let p = passed _ q c.loop-at-test.true c.in-Ok.ensures in
    let b : Behind c.plan_line.new.codes n.used j.slots j.frames j.open_step (advance_of c.loop-at.state m n.line) (advance q.state p.form) =
    elim j.branch [
      | in-Some-Rule w ↦ rw (w.slots-is, w.frames-is, w.open_step-is) (behind-rule l p m w.in-Some-Rule.ensures (ap Some w.in-Some-Rule.field-0-is)).1
      | in-Some-Close w ↦
          let e = w.empty-open_step-in-Some-Close.ensures in
          rw (w.slots-is, w.frames-is, w.open_step-is)
          ((behind_close l p m w.in-Some-Close.ensures (ap Some w.in-Some-Close.field-0-is)).1 _ w.open_frame.ensures.frame w.open_frame.ensures.sized _ e.0 e.1)
      | in-Some-Last w ↦
          rw (w.slots-is, w.frames-is, w.open_step-is, w.last_frame.ensures)
          ((behind-last l p m w.in-Some-Last.ensures (ap Some w.in-Some-Last.field-0-is)).1 _)
      | in-None w ↦ rw (w.slots-is, w.frames-is, w.open_step-is) (behind-none l p m w.in-None.ensures refl)
    ] in
    again l p c.advance-state.ensures c.in-Ok.ensures.end_is (c.plan_line.auto.codes ∙ (c.next_line.auto.codes ∙ q.lent)) b

pub returns-in-Ok-last_refusal : goal.returns-in-Ok-last_refusal
unfolding check_number
returns-in-Ok-last_refusal c = answer-read c.loop-at.invariant c.requires.1 c.loop-at-test.false (sym c.in-Ok-last_refusal.ensures)

pub returns-in-Err-last_refusal : goal.returns-in-Err-last_refusal
unfolding check_number
returns-in-Err-last_refusal c = answer-last c.loop-at.invariant c.requires.1 c.loop-at-test.false _ c.in-Err-last_refusal.ensures
