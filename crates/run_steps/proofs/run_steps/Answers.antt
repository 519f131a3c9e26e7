-- `run_steps::run_steps` meets its contract. The loop over the steps keeps where the run of the definition stands; a step's rules are
-- taken out of the slots, and then done for each record, each rule in order.
use Prim.Native.Nat.{◌*◌, ◌≤◌, ◌<◌}
use mathlib.Core.Path.{◌≡◌, refl, sym, ◌∙◌}
use mathlib.Core.List.{[]}
use native.Mathlib.Omega.{arith}
use lib.ListN.{length}
use Rattle.program.specs.Kept.{program_of}
use Rattle.step_cells.proofs.Working.{same_then}
use Rattle.step_rules.proofs.Locals.{plain_at, plain_ready}
use Rattle.run_steps.proofs.Loops.{with_offence, nearer, rules-first, rules-next, records-first, records-next, left_behind, local_as, left-within}
use Rattle.run_steps.proofs.Standing.{lines_end, scratch-behind, stands-start, ends_by}
use Rattle.run_steps.proofs.Turn.{Held, held-anew, held_still, plain_more, turn_at, limits, out_whole, out_length, at-step, few-steps, few-rules, setting_passes}
use Rattle.run_steps.proofs.Turn.{taken_first, taken_more, column_space, planned, lines_values, lines_marks, Prepared, rules_fit}
use Rattle.run_steps.proofs.Turn.{values_length, marks_length, Applied, room_still, ready_still, rule-ready, rule_agrees, small_still}
use Rattle.run_steps.proofs.Done.{Done, done_remote, done_local, ready, turn-stands, turn-nearer}
use Rattle.run_turn.proofs.Turning.{not-both, goes_through, sends_nowhere}
use Rattle.run_steps.proofs.run_steps.Goals as goal
use Rattle.run_steps.proofs.run_steps.Goals.{then-taken-step+else-loop-k-test, else-taken-step, then-plain, else-plain, then-sends, else-sends, then-records-test+then-loop-k-2-test+then-is_err, else-records-test}

pub overflow_mul-at : goal.overflow_mul-at
overflow_mul-at c =
    let at≤ : c.args.lines * c.args.sizes.records ≤ 262144 = lines_end c.args.sizes c.requires.1.lines≤ c.requires.0.valid.limits.records≤ in
    record { fits = omega (arith, at≤) }

pub overflow_add-base : goal.overflow_add-base
overflow_add-base c =
    let at≤ : c.args.lines * c.args.sizes.records ≤ 262144 = lines_end c.args.sizes c.requires.1.lines≤ c.requires.0.valid.limits.records≤ in
    record { fits = omega (arith, at≤, c.requires.0.valid.limits.records≤) }

pub loop-sizes-init : goal.loop-sizes-init
unfolding program_of
loop-sizes-init c =
    let start = stands-start c.requires.0 c.requires.4 (scratch-behind c.requires.1) c.requires.3 c.requires.2.steps_are in
    (rw c.start-run.ensures (record { stands = λ n. start; stopped = λ o h. not-both refl h }), refl, refl, refl, refl, λ h. absurd (omega arith))

-- A turn of the loop: the frame of the step.
pub offset_bounds-frames-step : goal.offset_bounds-frames-step
offset_bounds-frames-step c = record { fits = omega (arith, c.goes_on.ensures.left c.loop-sizes-test.true, c.requires.2.steps_are, c.requires.3.few) }

pub bounds-frames-step : goal.bounds-frames-step
bounds-frames-step c = omega (arith, c.goes_on.ensures.left c.loop-sizes-test.true, c.requires.2.steps_are, c.requires.3.few)

-- Its rules are taken out.
pub loop-k-init : goal.loop-k-init
loop-k-init c =
    let t = turn_at c.requires.0 c.requires.1 c.requires.2 c.requires.3 c.loop-sizes.invariant.0 c.goes_on.ensures c.loop-sizes-test.true refl in
    (taken_first t _ c.loop-sizes.invariant.1, λ e. tt)

pub overflow_mul-rules : goal.overflow_mul-rules
overflow_mul-rules c =
    let t = turn_at c.requires.0 c.requires.1 c.requires.2 c.requires.3 c.loop-sizes.invariant.0 c.goes_on.ensures c.loop-sizes-test.true refl in
    record { fits = omega (arith, few-steps t) }

pub overflow_add-rules : goal.overflow_add-rules
overflow_add-rules c =
    let t = turn_at c.requires.0 c.requires.1 c.requires.2 c.requires.3 c.loop-sizes.invariant.0 c.goes_on.ensures c.loop-sizes-test.true refl in
    record { fits = omega (arith, few-steps t, few-rules t, c.loop-k-test.true) }

pub offset_bounds-slots-step : goal.offset_bounds-slots-step
offset_bounds-slots-step c =
    let t = turn_at c.requires.0 c.requires.1 c.requires.2 c.requires.3 c.loop-sizes.invariant.0 c.goes_on.ensures c.loop-sizes-test.true refl in
    record { fits = omega (arith, few-steps t, few-rules t, c.loop-k-test.true) }

pub bounds-slots-step : goal.bounds-slots-step
bounds-slots-step c =
    let t = turn_at c.requires.0 c.requires.1 c.requires.2 c.requires.3 c.loop-sizes.invariant.0 c.goes_on.ensures c.loop-sizes-test.true refl in
    omega (arith, few-steps t, few-rules t, c.loop-k-test.true)

pub offset_bounds-rules-k : goal.offset_bounds-rules-k
offset_bounds-rules-k c =
    let t = turn_at c.requires.0 c.requires.1 c.requires.2 c.requires.3 c.loop-sizes.invariant.0 c.goes_on.ensures c.loop-sizes-test.true refl in
    record { fits = omega (arith, few-rules t, c.loop-k-test.true) }

pub offset_bounds-rules-k-in-loop-k : goal.offset_bounds-rules-k-in-loop-k
offset_bounds-rules-k-in-loop-k c =
    let t = turn_at c.requires.0 c.requires.1 c.requires.2 c.requires.3 c.loop-sizes.invariant.0 c.goes_on.ensures c.loop-sizes-test.true refl in
    record { fits = omega (arith, few-rules t, c.loop-k-test.true) }

pub overflow_step-k : goal.overflow_step-k
overflow_step-k c =
    let t = turn_at c.requires.0 c.requires.1 c.requires.2 c.requires.3 c.loop-sizes.invariant.0 c.goes_on.ensures c.loop-sizes-test.true refl in
    record { fits = omega (arith, few-rules t, c.loop-k-test.true) }

pub bounds-rules-k : goal.bounds-rules-k
bounds-rules-k c =
    let t = turn_at c.requires.0 c.requires.1 c.requires.2 c.requires.3 c.loop-sizes.invariant.0 c.goes_on.ensures c.loop-sizes-test.true refl in
    omega (arith, few-rules t, c.loop-k-test.true)

pub bounds-rules-k-in-loop-k : goal.bounds-rules-k-in-loop-k
bounds-rules-k-in-loop-k c =
    let t = turn_at c.requires.0 c.requires.1 c.requires.2 c.requires.3 c.loop-sizes.invariant.0 c.goes_on.ensures c.loop-sizes-test.true refl in
    omega (arith, few-rules t, c.loop-k-test.true)

pub loop-k-smaller : goal.loop-k-smaller
loop-k-smaller c = nearer c.loop-k-test.true

pub loop-k-preserved : goal.loop-k-preserved
loop-k-preserved c =
    let t = turn_at c.requires.0 c.requires.1 c.requires.2 c.requires.3 c.loop-sizes.invariant.0 c.goes_on.ensures c.loop-sizes-test.true refl in
    let inside : c.loop-k.k < length c.loop-k.rules = omega (arith, few-rules t, c.loop-k.invariant.0.length_is, c.loop-k-test.true) in
    (taken_more t c.loop-k.invariant.0 c.loop-k-test.true _, plain_more _ _ _ _ inside c.stay_plain-plain.ensures c.loop-k.invariant.1)

-- The pass is entered and the readings are gathered. What is held is of this step: it was taken anew, or is held from the step before,
-- which was the same.
pub begin-begun-requires : goal.begin-begun-requires
begin-begun-requires c =
    let held : Held c.args.slots c.args.frames c.loop-sizes.run.step c.if-taken-step.frame c.if-taken-step.rules c.if-taken-step.plain =
    elim c.if-taken-step.branch [
      | then-taken-step+else-loop-k-test w ↦ held-anew refl w.loop-k.invariant w.loop-k-test.false w.rules-is w.frame-is w.plain-is
      | else-taken-step w ↦
          let same : c.loop-sizes.taken ≡ c.loop-sizes.run.step = omega (arith, w.if-taken-step.false) in
          held_still (c.loop-sizes.invariant.5 (omega (arith, same, c.goes_on.ensures.left c.loop-sizes-test.true))) same w.rules-is w.frame-is w.plain-is
    ] in
    let t = turn_at c.requires.0 c.requires.1 c.requires.2 c.requires.3 c.loop-sizes.invariant.0 c.goes_on.ensures c.loop-sizes-test.true held.frame_is in
    (t.stands.register, setting_passes t, column_space t, planned t, (at-step t).frame.wanted_length, lines_values t, lines_marks t)

-- The local rules, record by record and rule by rule.
pub records-init : goal.records-init
records-init c = records-first

pub loop-k-2-init : goal.loop-k-2-init
loop-k-2-init c = rules-first c.records.invariant.nowhere

pub offset_bounds-rules-k-then-plain : goal.offset_bounds-rules-k-then-plain
offset_bounds-rules-k-then-plain c =
    let held : Held c.args.slots c.args.frames c.loop-sizes.run.step c.if-taken-step.frame c.if-taken-step.rules c.if-taken-step.plain =
    elim c.if-taken-step.branch [
      | then-taken-step+else-loop-k-test w ↦ held-anew refl w.loop-k.invariant w.loop-k-test.false w.rules-is w.frame-is w.plain-is
      | else-taken-step w ↦
          let same : c.loop-sizes.taken ≡ c.loop-sizes.run.step = omega (arith, w.if-taken-step.false) in
          held_still (c.loop-sizes.invariant.5 (omega (arith, same, c.goes_on.ensures.left c.loop-sizes-test.true))) same w.rules-is w.frame-is w.plain-is
    ] in
    let t = turn_at c.requires.0 c.requires.1 c.requires.2 c.requires.3 c.loop-sizes.invariant.0 c.goes_on.ensures c.loop-sizes-test.true held.frame_is in
    let at_hand : c.loop-k-2.k < 32 = omega (arith, few-rules t, c.loop-k-2-test.true) in
    record { fits = omega (arith, at_hand) }

pub offset_bounds-rules-k-else-plain : goal.offset_bounds-rules-k-else-plain
offset_bounds-rules-k-else-plain c =
    let held : Held c.args.slots c.args.frames c.loop-sizes.run.step c.if-taken-step.frame c.if-taken-step.rules c.if-taken-step.plain =
    elim c.if-taken-step.branch [
      | then-taken-step+else-loop-k-test w ↦ held-anew refl w.loop-k.invariant w.loop-k-test.false w.rules-is w.frame-is w.plain-is
      | else-taken-step w ↦
          let same : c.loop-sizes.taken ≡ c.loop-sizes.run.step = omega (arith, w.if-taken-step.false) in
          held_still (c.loop-sizes.invariant.5 (omega (arith, same, c.goes_on.ensures.left c.loop-sizes-test.true))) same w.rules-is w.frame-is w.plain-is
    ] in
    let t = turn_at c.requires.0 c.requires.1 c.requires.2 c.requires.3 c.loop-sizes.invariant.0 c.goes_on.ensures c.loop-sizes-test.true held.frame_is in
    let at_hand : c.loop-k-2.k < 32 = omega (arith, few-rules t, c.loop-k-2-test.true) in
    record { fits = omega (arith, at_hand) }

pub bounds-rules-k-then-plain : goal.bounds-rules-k-then-plain
bounds-rules-k-then-plain c =
    let held : Held c.args.slots c.args.frames c.loop-sizes.run.step c.if-taken-step.frame c.if-taken-step.rules c.if-taken-step.plain =
    elim c.if-taken-step.branch [
      | then-taken-step+else-loop-k-test w ↦ held-anew refl w.loop-k.invariant w.loop-k-test.false w.rules-is w.frame-is w.plain-is
      | else-taken-step w ↦
          let same : c.loop-sizes.taken ≡ c.loop-sizes.run.step = omega (arith, w.if-taken-step.false) in
          held_still (c.loop-sizes.invariant.5 (omega (arith, same, c.goes_on.ensures.left c.loop-sizes-test.true))) same w.rules-is w.frame-is w.plain-is
    ] in
    let t = turn_at c.requires.0 c.requires.1 c.requires.2 c.requires.3 c.loop-sizes.invariant.0 c.goes_on.ensures c.loop-sizes-test.true held.frame_is in
    let at_hand : c.loop-k-2.k < 32 = omega (arith, few-rules t, c.loop-k-2-test.true) in
    omega (arith, at_hand)

pub bounds-rules-k-else-plain : goal.bounds-rules-k-else-plain
bounds-rules-k-else-plain c =
    let held : Held c.args.slots c.args.frames c.loop-sizes.run.step c.if-taken-step.frame c.if-taken-step.rules c.if-taken-step.plain =
    elim c.if-taken-step.branch [
      | then-taken-step+else-loop-k-test w ↦ held-anew refl w.loop-k.invariant w.loop-k-test.false w.rules-is w.frame-is w.plain-is
      | else-taken-step w ↦
          let same : c.loop-sizes.taken ≡ c.loop-sizes.run.step = omega (arith, w.if-taken-step.false) in
          held_still (c.loop-sizes.invariant.5 (omega (arith, same, c.goes_on.ensures.left c.loop-sizes-test.true))) same w.rules-is w.frame-is w.plain-is
    ] in
    let t = turn_at c.requires.0 c.requires.1 c.requires.2 c.requires.3 c.loop-sizes.invariant.0 c.goes_on.ensures c.loop-sizes-test.true held.frame_is in
    let at_hand : c.loop-k-2.k < 32 = omega (arith, few-rules t, c.loop-k-2-test.true) in
    omega (arith, at_hand)

pub apply_plain-stop-requires : goal.apply_plain-stop-requires
apply_plain-stop-requires c =
    let held : Held c.args.slots c.args.frames c.loop-sizes.run.step c.if-taken-step.frame c.if-taken-step.rules c.if-taken-step.plain =
    elim c.if-taken-step.branch [
      | then-taken-step+else-loop-k-test w ↦ held-anew refl w.loop-k.invariant w.loop-k-test.false w.rules-is w.frame-is w.plain-is
      | else-taken-step w ↦
          let same : c.loop-sizes.taken ≡ c.loop-sizes.run.step = omega (arith, w.if-taken-step.false) in
          held_still (c.loop-sizes.invariant.5 (omega (arith, same, c.goes_on.ensures.left c.loop-sizes-test.true))) same w.rules-is w.frame-is w.plain-is
    ] in
    let t = turn_at c.requires.0 c.requires.1 c.requires.2 c.requires.3 c.loop-sizes.invariant.0 c.goes_on.ensures c.loop-sizes-test.true held.frame_is in
    let b : Prepared t c.if-taken-step.rules c.begin-begun.new.values c.begin-begun.new.marks c.begin-begun.result = record { taken = held.rules_are; begins = c.begin-begun.ensures } in
    let same = same_then c.records.invariant.same c.loop-k-2.invariant.done.same in
    let at_hand : c.loop-k-2.k < 32 = omega (arith, few-rules t, c.loop-k-2-test.true) in
    let inside : c.loop-k-2.k < length c.if-taken-step.rules = omega (arith, at_hand, held.rules_are.length_is) in
    record {
      limits = (limits t, out_whole t, c.records-test.true, room_still b same);
      rule_ready = plain_ready (plain_at [] _ _ _ inside c.loop-k-2-test.true held.plain_are c.if-plain.true) (rule-ready b same _ _ c.loop-k-2-test.true);
    }

pub apply_rule-stop-requires : goal.apply_rule-stop-requires
apply_rule-stop-requires c =
    let held : Held c.args.slots c.args.frames c.loop-sizes.run.step c.if-taken-step.frame c.if-taken-step.rules c.if-taken-step.plain =
    elim c.if-taken-step.branch [
      | then-taken-step+else-loop-k-test w ↦ held-anew refl w.loop-k.invariant w.loop-k-test.false w.rules-is w.frame-is w.plain-is
      | else-taken-step w ↦
          let same : c.loop-sizes.taken ≡ c.loop-sizes.run.step = omega (arith, w.if-taken-step.false) in
          held_still (c.loop-sizes.invariant.5 (omega (arith, same, c.goes_on.ensures.left c.loop-sizes-test.true))) same w.rules-is w.frame-is w.plain-is
    ] in
    let t = turn_at c.requires.0 c.requires.1 c.requires.2 c.requires.3 c.loop-sizes.invariant.0 c.goes_on.ensures c.loop-sizes-test.true held.frame_is in
    let b : Prepared t c.if-taken-step.rules c.begin-begun.new.values c.begin-begun.new.marks c.begin-begun.result = record { taken = held.rules_are; begins = c.begin-begun.ensures } in
    let same = same_then c.records.invariant.same c.loop-k-2.invariant.done.same in
    record {
      limits = (limits t, out_whole t, c.records-test.true, room_still b same);
      rule_ready = rule-ready b same _ _ c.loop-k-2-test.true;
    }

pub overflow_step-k-in-loop-k-2 : goal.overflow_step-k-in-loop-k-2
overflow_step-k-in-loop-k-2 c =
    let held : Held c.args.slots c.args.frames c.loop-sizes.run.step c.if-taken-step.frame c.if-taken-step.rules c.if-taken-step.plain =
    elim c.if-taken-step.branch [
      | then-taken-step+else-loop-k-test w ↦ held-anew refl w.loop-k.invariant w.loop-k-test.false w.rules-is w.frame-is w.plain-is
      | else-taken-step w ↦
          let same : c.loop-sizes.taken ≡ c.loop-sizes.run.step = omega (arith, w.if-taken-step.false) in
          held_still (c.loop-sizes.invariant.5 (omega (arith, same, c.goes_on.ensures.left c.loop-sizes-test.true))) same w.rules-is w.frame-is w.plain-is
    ] in
    let t = turn_at c.requires.0 c.requires.1 c.requires.2 c.requires.3 c.loop-sizes.invariant.0 c.goes_on.ensures c.loop-sizes-test.true held.frame_is in
    record { fits = omega (arith, few-rules t, c.loop-k-2-test.true) }

pub loop-k-2-smaller : goal.loop-k-2-smaller
loop-k-2-smaller c = nearer c.loop-k-2-test.true

pub loop-k-2-preserved : goal.loop-k-2-preserved
loop-k-2-preserved c =
    let held : Held c.args.slots c.args.frames c.loop-sizes.run.step c.if-taken-step.frame c.if-taken-step.rules c.if-taken-step.plain =
    elim c.if-taken-step.branch [
      | then-taken-step+else-loop-k-test w ↦ held-anew refl w.loop-k.invariant w.loop-k-test.false w.rules-is w.frame-is w.plain-is
      | else-taken-step w ↦
          let same : c.loop-sizes.taken ≡ c.loop-sizes.run.step = omega (arith, w.if-taken-step.false) in
          held_still (c.loop-sizes.invariant.5 (omega (arith, same, c.goes_on.ensures.left c.loop-sizes-test.true))) same w.rules-is w.frame-is w.plain-is
    ] in
    let t = turn_at c.requires.0 c.requires.1 c.requires.2 c.requires.3 c.loop-sizes.invariant.0 c.goes_on.ensures c.loop-sizes-test.true held.frame_is in
    let b : Prepared t c.if-taken-step.rules c.begin-begun.new.values c.begin-begun.new.marks c.begin-begun.result = record { taken = held.rules_are; begins = c.begin-begun.ensures } in
    let same = same_then c.records.invariant.same c.loop-k-2.invariant.done.same in
    rules-next c.loop-k-2.invariant c.loop-k-2-test.true (rules_fit b) (goes_through _ (sym c.is_err.ensures.value ∙ c.if-is_err.false)) _
    (elim c.if-plain.branch [
      | then-plain w ↦ local_as _ _ _ _ _ _ _ w.values-is w.marks-is w.stop-is (w.apply_plain-stop.ensures _ _ (rule_agrees b same _ _ c.loop-k-2-test.true _ c.records-test.true))
      | else-plain w ↦ local_as _ _ _ _ _ _ _ w.values-is w.marks-is w.stop-is (w.apply_rule-stop.ensures _ (rule_agrees b same _ _ c.loop-k-2-test.true _ c.records-test.true))
    ]) (omega arith)

pub overflow_step-u : goal.overflow_step-u
overflow_step-u c =
    let held : Held c.args.slots c.args.frames c.loop-sizes.run.step c.if-taken-step.frame c.if-taken-step.rules c.if-taken-step.plain =
    elim c.if-taken-step.branch [
      | then-taken-step+else-loop-k-test w ↦ held-anew refl w.loop-k.invariant w.loop-k-test.false w.rules-is w.frame-is w.plain-is
      | else-taken-step w ↦
          let same : c.loop-sizes.taken ≡ c.loop-sizes.run.step = omega (arith, w.if-taken-step.false) in
          held_still (c.loop-sizes.invariant.5 (omega (arith, same, c.goes_on.ensures.left c.loop-sizes-test.true))) same w.rules-is w.frame-is w.plain-is
    ] in
    let t = turn_at c.requires.0 c.requires.1 c.requires.2 c.requires.3 c.loop-sizes.invariant.0 c.goes_on.ensures c.loop-sizes-test.true held.frame_is in
    record { fits = omega (arith, (limits t).records≤, c.records-test.true) }

pub records-smaller : goal.records-smaller
records-smaller c = nearer c.records-test.true

pub records-preserved : goal.records-preserved
records-preserved c = records-next c.records.invariant c.records-test.true c.loop-k-2.invariant c.loop-k-2-test.false (omega arith)

-- The remote writes, where there are any and no local sum is out of range. What the rules did: the loop over the records ran out, and all
-- are done; or both loops were left at a rule whose sum is out of range.
pub apply-sent-requires : goal.apply-sent-requires
apply-sent-requires c =
    let held : Held c.args.slots c.args.frames c.loop-sizes.run.step c.if-taken-step.frame c.if-taken-step.rules c.if-taken-step.plain =
    elim c.if-taken-step.branch [
      | then-taken-step+else-loop-k-test w ↦ held-anew refl w.loop-k.invariant w.loop-k-test.false w.rules-is w.frame-is w.plain-is
      | else-taken-step w ↦
          let same : c.loop-sizes.taken ≡ c.loop-sizes.run.step = omega (arith, w.if-taken-step.false) in
          held_still (c.loop-sizes.invariant.5 (omega (arith, same, c.goes_on.ensures.left c.loop-sizes-test.true))) same w.rules-is w.frame-is w.plain-is
    ] in
    let t = turn_at c.requires.0 c.requires.1 c.requires.2 c.requires.3 c.loop-sizes.invariant.0 c.goes_on.ensures c.loop-sizes-test.true held.frame_is in
    let b : Prepared t c.if-taken-step.rules c.begin-begun.new.values c.begin-begun.new.marks c.begin-begun.result = record { taken = held.rules_are; begins = c.begin-begun.ensures } in
    let l : Applied b c.records-test.values c.records-test.marks c.records-test.stop =
    elim c.records-test.branch [
      | else-records-test w ↦ left_behind c.records.invariant w.records-test.false w.values-is w.marks-is w.stop-is
      | then-records-test+then-loop-k-2-test+then-is_err w ↦
          let same = same_then c.records.invariant.same w.loop-k-2.invariant.done.same in
          with_offence _ (sym w.is_err.ensures.value ∙ w.if-is_err.true) (λ o e. left-within c.records.invariant w.records-test.true w.loop-k-2.invariant w.loop-k-2-test.true (rules_fit b) e w.values-is w.marks-is w.stop-is _
          (elim w.if-plain.branch [
            | then-plain v ↦ local_as _ _ _ _ _ _ _ v.values-is v.marks-is v.stop-is (v.apply_plain-stop.ensures _ _ (rule_agrees b same _ _ w.loop-k-2-test.true _ w.records-test.true))
            | else-plain v ↦ local_as _ _ _ _ _ _ _ v.values-is v.marks-is v.stop-is (v.apply_rule-stop.ensures _ (rule_agrees b same _ _ w.loop-k-2-test.true _ w.records-test.true))
          ]))
    ] in
    let all = l.all (sends_nowhere _ _ (sym c.sends.ensures ∙ c.if-sends.true)) in
    record {
      limits = (limits t, out_whole t, room_still b l.same, few-rules t, b.taken.length_is);
      all_ready = ready_still b l.same;
      small = (small_still b l.same all, held.plain_are);
    }

-- The turn is finished.
pub finish-run-requires : goal.finish-run-requires
finish-run-requires c =
    let held : Held c.args.slots c.args.frames c.loop-sizes.run.step c.if-taken-step.frame c.if-taken-step.rules c.if-taken-step.plain =
    elim c.if-taken-step.branch [
      | then-taken-step+else-loop-k-test w ↦ held-anew refl w.loop-k.invariant w.loop-k-test.false w.rules-is w.frame-is w.plain-is
      | else-taken-step w ↦
          let same : c.loop-sizes.taken ≡ c.loop-sizes.run.step = omega (arith, w.if-taken-step.false) in
          held_still (c.loop-sizes.invariant.5 (omega (arith, same, c.goes_on.ensures.left c.loop-sizes-test.true))) same w.rules-is w.frame-is w.plain-is
    ] in
    let t = turn_at c.requires.0 c.requires.1 c.requires.2 c.requires.3 c.loop-sizes.invariant.0 c.goes_on.ensures c.loop-sizes-test.true held.frame_is in
    let b : Prepared t c.if-taken-step.rules c.begin-begun.new.values c.begin-begun.new.marks c.begin-begun.result = record { taken = held.rules_are; begins = c.begin-begun.ensures } in
    let l : Applied b c.records-test.values c.records-test.marks c.records-test.stop =
    elim c.records-test.branch [
      | else-records-test w ↦ left_behind c.records.invariant w.records-test.false w.values-is w.marks-is w.stop-is
      | then-records-test+then-loop-k-2-test+then-is_err w ↦
          let same = same_then c.records.invariant.same w.loop-k-2.invariant.done.same in
          with_offence _ (sym w.is_err.ensures.value ∙ w.if-is_err.true) (λ o e. left-within c.records.invariant w.records-test.true w.loop-k-2.invariant w.loop-k-2-test.true (rules_fit b) e w.values-is w.marks-is w.stop-is _
          (elim w.if-plain.branch [
            | then-plain v ↦ local_as _ _ _ _ _ _ _ v.values-is v.marks-is v.stop-is (v.apply_plain-stop.ensures _ _ (rule_agrees b same _ _ w.loop-k-2-test.true _ w.records-test.true))
            | else-plain v ↦ local_as _ _ _ _ _ _ _ v.values-is v.marks-is v.stop-is (v.apply_rule-stop.ensures _ (rule_agrees b same _ _ w.loop-k-2-test.true _ w.records-test.true))
          ]))
    ] in
    let d : Done b c.records-test.stop c.if-sends.values c.if-sends.marks c.if-sends.sent =
    elim c.if-sends.branch [
      | then-sends w ↦ done_remote l w.apply-sent.ensures w.values-is w.marks-is w.sent-is
      | else-sends w ↦ done_local l (sym c.sends.ensures ∙ w.if-sends.false) w.values-is w.marks-is w.sent-is
    ] in
    λ e. ready d e c.ranges.budget.fits

pub loop-sizes-smaller : goal.loop-sizes-smaller
loop-sizes-smaller c =
    let held : Held c.args.slots c.args.frames c.loop-sizes.run.step c.if-taken-step.frame c.if-taken-step.rules c.if-taken-step.plain =
    elim c.if-taken-step.branch [
      | then-taken-step+else-loop-k-test w ↦ held-anew refl w.loop-k.invariant w.loop-k-test.false w.rules-is w.frame-is w.plain-is
      | else-taken-step w ↦
          let same : c.loop-sizes.taken ≡ c.loop-sizes.run.step = omega (arith, w.if-taken-step.false) in
          held_still (c.loop-sizes.invariant.5 (omega (arith, same, c.goes_on.ensures.left c.loop-sizes-test.true))) same w.rules-is w.frame-is w.plain-is
    ] in
    let t = turn_at c.requires.0 c.requires.1 c.requires.2 c.requires.3 c.loop-sizes.invariant.0 c.goes_on.ensures c.loop-sizes-test.true held.frame_is in
    let b : Prepared t c.if-taken-step.rules c.begin-begun.new.values c.begin-begun.new.marks c.begin-begun.result = record { taken = held.rules_are; begins = c.begin-begun.ensures } in
    let l : Applied b c.records-test.values c.records-test.marks c.records-test.stop =
    elim c.records-test.branch [
      | else-records-test w ↦ left_behind c.records.invariant w.records-test.false w.values-is w.marks-is w.stop-is
      | then-records-test+then-loop-k-2-test+then-is_err w ↦
          let same = same_then c.records.invariant.same w.loop-k-2.invariant.done.same in
          with_offence _ (sym w.is_err.ensures.value ∙ w.if-is_err.true) (λ o e. left-within c.records.invariant w.records-test.true w.loop-k-2.invariant w.loop-k-2-test.true (rules_fit b) e w.values-is w.marks-is w.stop-is _
          (elim w.if-plain.branch [
            | then-plain v ↦ local_as _ _ _ _ _ _ _ v.values-is v.marks-is v.stop-is (v.apply_plain-stop.ensures _ _ (rule_agrees b same _ _ w.loop-k-2-test.true _ w.records-test.true))
            | else-plain v ↦ local_as _ _ _ _ _ _ _ v.values-is v.marks-is v.stop-is (v.apply_rule-stop.ensures _ (rule_agrees b same _ _ w.loop-k-2-test.true _ w.records-test.true))
          ]))
    ] in
    let d : Done b c.records-test.stop c.if-sends.values c.if-sends.marks c.if-sends.sent =
    elim c.if-sends.branch [
      | then-sends w ↦ done_remote l w.apply-sent.ensures w.values-is w.marks-is w.sent-is
      | else-sends w ↦ done_local l (sym c.sends.ensures ∙ w.if-sends.false) w.values-is w.marks-is w.sent-is
    ] in
    turn-nearer l d c.finish-run.ensures

pub loop-sizes-preserved : goal.loop-sizes-preserved
unfolding program_of
loop-sizes-preserved c =
    let held : Held c.args.slots c.args.frames c.loop-sizes.run.step c.if-taken-step.frame c.if-taken-step.rules c.if-taken-step.plain =
    elim c.if-taken-step.branch [
      | then-taken-step+else-loop-k-test w ↦ held-anew refl w.loop-k.invariant w.loop-k-test.false w.rules-is w.frame-is w.plain-is
      | else-taken-step w ↦
          let same : c.loop-sizes.taken ≡ c.loop-sizes.run.step = omega (arith, w.if-taken-step.false) in
          held_still (c.loop-sizes.invariant.5 (omega (arith, same, c.goes_on.ensures.left c.loop-sizes-test.true))) same w.rules-is w.frame-is w.plain-is
    ] in
    let t = turn_at c.requires.0 c.requires.1 c.requires.2 c.requires.3 c.loop-sizes.invariant.0 c.goes_on.ensures c.loop-sizes-test.true held.frame_is in
    let b : Prepared t c.if-taken-step.rules c.begin-begun.new.values c.begin-begun.new.marks c.begin-begun.result = record { taken = held.rules_are; begins = c.begin-begun.ensures } in
    let l : Applied b c.records-test.values c.records-test.marks c.records-test.stop =
    elim c.records-test.branch [
      | else-records-test w ↦ left_behind c.records.invariant w.records-test.false w.values-is w.marks-is w.stop-is
      | then-records-test+then-loop-k-2-test+then-is_err w ↦
          let same = same_then c.records.invariant.same w.loop-k-2.invariant.done.same in
          with_offence _ (sym w.is_err.ensures.value ∙ w.if-is_err.true) (λ o e. left-within c.records.invariant w.records-test.true w.loop-k-2.invariant w.loop-k-2-test.true (rules_fit b) e w.values-is w.marks-is w.stop-is _
          (elim w.if-plain.branch [
            | then-plain v ↦ local_as _ _ _ _ _ _ _ v.values-is v.marks-is v.stop-is (v.apply_plain-stop.ensures _ _ (rule_agrees b same _ _ w.loop-k-2-test.true _ w.records-test.true))
            | else-plain v ↦ local_as _ _ _ _ _ _ _ v.values-is v.marks-is v.stop-is (v.apply_rule-stop.ensures _ (rule_agrees b same _ _ w.loop-k-2-test.true _ w.records-test.true))
          ]))
    ] in
    let d : Done b c.records-test.stop c.if-sends.values c.if-sends.marks c.if-sends.sent =
    elim c.if-sends.branch [
      | then-sends w ↦ done_remote l w.apply-sent.ensures w.values-is w.marks-is w.sent-is
      | else-sends w ↦ done_local l (sym c.sends.ensures ∙ w.if-sends.false) w.values-is w.marks-is w.sent-is
    ] in
    let held-step : c.if-taken-step.taken ≡ c.loop-sizes.run.step =
    elim c.if-taken-step.branch [ then-taken-step+else-loop-k-test w ↦ w.taken-is | else-taken-step w ↦ w.taken-is ∙ omega (arith, w.if-taken-step.false) ] in (
      turn-stands l d c.finish-run.ensures c.finish-run.auto.out,
      held.rules_are.length_is,
      c.finish-run.auto.out ∙ out_length t,
      d.same.values_length ∙ values_length b ∙ c.loop-sizes.invariant.3,
      d.same.marks_length ∙ marks_length b ∙ c.loop-sizes.invariant.4,
      λ l. rw held-step held,
    )

-- No step is left, the budget is spent, or the run has stopped.
pub shape_of-out : goal.shape_of-out
shape_of-out c = c.loop-sizes.invariant.2

pub shape_of-values : goal.shape_of-values
shape_of-values c = c.loop-sizes.invariant.3

pub shape_of-marks : goal.shape_of-marks
shape_of-marks c = c.loop-sizes.invariant.4

pub returns : goal.returns
unfolding program_of
returns c = ends_by c.loop-sizes.invariant.0 c.requires.2.steps_are c.goes_on.ensures c.loop-sizes-test.false c.answer.ensures
