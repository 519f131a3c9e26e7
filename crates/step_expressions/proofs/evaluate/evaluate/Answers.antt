-- `step_expressions::evaluate::evaluate` meets its contract: a term waits until its operator comes.
use mathlib.Core.Path.{refl, ◌∙◌}
use native.Mathlib.Omega.{arith}
use Rattle.step_operations.proofs.Operating.{read_back}
use Rattle.step_expressions.proofs.Waiting.{worked_first, push_room, worked_push, some_wait, worked_pop, worked_as, worked_all}
use borrow.Author.Rules.{rules}
use Rattle.step_expressions.proofs.evaluate.evaluate.Goals.{then-kind-gt1, else-kind-gt1}
use Rattle.step_expressions.proofs.evaluate.evaluate.Goals as goal

pub term_at-value-requires : goal.term_at-value-requires
term_at-value-requires c =
    let p = c.requires in
    (p.0, p.1.reaches _ (omega arith) p.1.some)

pub overflow_sub-count : goal.overflow_sub-count
overflow_sub-count c =
    some_wait _ _ _ _ _ _ _ _ c.loop-at.invariant c.loop-at-test.true (rw (← c.kind-kind.ensures) c.if-kind-gt1.true)

pub bounds-waiting-count : goal.bounds-waiting-count
bounds-waiting-count c =
    let i = c.loop-at.invariant in omega (arith, i.few, i.room, overflow_sub-count c)

pub bounds-waiting-count-else-kind-gt1 : goal.bounds-waiting-count-else-kind-gt1
bounds-waiting-count-else-kind-gt1 c =
    let i = c.loop-at.invariant in
    omega (arith, push_room _ _ _ _ _ _ _ _ i c.loop-at-test.true (rw (← c.kind-kind.ensures) c.if-kind-gt1.false), i.room)

pub term_at-value-requires-else-kind-gt1 : goal.term_at-value-requires-else-kind-gt1
term_at-value-requires-else-kind-gt1 c =
    let p = c.requires in
    (p.0, p.1.reaches _ (omega (arith, c.loop-at.invariant.beyond)) c.loop-at-test.true)

pub loop-at-init : goal.loop-at-init
loop-at-init c = worked_first _ _ _ _ _ _ _ _ c.requires.1 refl (read_back _ c.term_at-value.type_inv ∙ c.term_at-value.ensures)

pub loop-at-preserved : goal.loop-at-preserved
loop-at-preserved c =
    let inv = c.loop-at.invariant in
    elim c.if-kind-gt1.branch [
      | then-kind-gt1 w ↦
          worked_as _ _ _ _ _ _ _ _
          (worked_pop _ _ _ _ _ _ _ _ inv c.loop-at-test.true (rw (← c.kind-kind.ensures) w.if-kind-gt1.true) (search rules)
          (λ op is. read_back _ w.join_by-value.type_inv ∙ w.join_by-value.ensures op (c.kind-kind.ensures ∙ is))) w.waiting-is w.count-is w.value-is
      | else-kind-gt1 w ↦
          worked_as _ _ _ _ _ _ _ _
          (worked_push _ _ _ _ _ _ _ _ inv c.loop-at-test.true (rw (← c.kind-kind.ensures) w.if-kind-gt1.false)
          (read_back _ w.term_at-value-else-kind-gt1.type_inv ∙ w.term_at-value-else-kind-gt1.ensures)) w.waiting-is w.count-is w.value-is
    ]

pub returns : goal.returns
returns c read agrees = c.answer_of.ensures ∙ worked_all _ _ _ _ _ _ _ _ c.loop-at.invariant c.loop-at-test.false read agrees
