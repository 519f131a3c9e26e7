-- `gather_exchanges::exchange` meets its contract. The loop's invariant: the lines of this round among those passed hold their messages,
-- which are counted, and no other place has changed.
use Prim.Native.Nat.{◌<◌}
use native.Mathlib.Nat.{mul-le-mul_right}
use native.Mathlib.Omega.{arith}
use mathlib.Core.Path.{◌≡◌}
use Rattle.gather_line.proofs.Sent.{line-below}
use Rattle.gather_exchanges.proofs.Exchanging.{lines_none, lines-few, lines_other}
use Rattle.gather_exchanges.proofs.Turning.{turn-ready, turn-sent}
use Rattle.gather_exchanges.proofs.exchange.Goals.{then-plan-i, else-plan-i}
use Rattle.gather_exchanges.proofs.exchange.Goals as goal

pub loop-i-init : goal.loop-i-init
loop-i-init c = lines_none

pub exchange_line-sent-requires : goal.exchange_line-sent-requires
exchange_line-sent-requires c =
    let listed = c.loop-i-test.true in
    let lines = c.requires.plan.lines in
    let stands = lines.each _ listed in
    (omega (arith, lines.count≤), turn-ready c.requires _ listed c.if-plan-i.true c.loop-i.invariant, stands.has_line, stands.short)

pub overflow_add-sent : goal.overflow_add-sent
overflow_add-sent c =
    let inside : c.loop-i.i < 64 = omega (arith, c.requires.plan.lines.count≤) in
    let so_far = lines-few c.loop-i.i c.loop-i.invariant in
    let here = line-below _ _ _ c.exchange_line-sent.ensures.messages in
    record { fits = omega (arith, so_far, here, mul-le-mul_right c.args.cells.now.sizes.records inside, c.args.cells.now.parts.limits.records≤) }

pub loop-i-preserved : goal.loop-i-preserved
loop-i-preserved c =
    let listed = c.loop-i-test.true in
    elim c.if-plan-i.branch [
      | then-plan-i w ↦ rw (w.values-is, w.marks-is, w.sent-is) (turn-sent c.requires _ listed w.if-plan-i.true c.loop-i.invariant w.exchange_line-sent.ensures)
      | else-plan-i w ↦ rw (w.values-is, w.marks-is, w.sent-is) (lines_other _ c.loop-i.invariant w.if-plan-i.false)
    ]

pub returns : goal.returns
returns c =
    let e : c.loop-i.i ≡ c.args.plan.now.count = omega arith in
    rw e at c.loop-i.invariant
