-- `gather_exchanges::exchange_to` meets its contract. The loop's invariant: the exchanges before t are done and their messages counted.
use Prim.Native.Nat.{◌+◌, ◌-◌, ◌*◌, ◌≤◌}
use mathlib.Core.Path.{◌≡◌}
use native.Mathlib.Nat.{mul-le-mul_right}
use native.Mathlib.Omega.{arith}
use Rattle.gather_exchanges.proofs.Counting.{lines_le}
use Rattle.gather_exchanges.proofs.Turning.{next-ready}
use Rattle.gather_exchanges.proofs.Exchanging.{to_none, to_next}
use Rattle.gather_exchanges.proofs.exchange_to.Goals as goal

pub loop-t-init : goal.loop-t-init
loop-t-init c = record { near = omega arith; done = to_none c.requires.1.lines }

pub exchange-sent-requires : goal.exchange-sent-requires
exchange-sent-requires c =
    let this : c.loop-t.t - 1 + 1 ≡ c.loop-t.t = omega arith in
    rw this at (next-ready c.requires.0 c.requires.1 c.loop-t.invariant.done)

pub overflow_add-sent : goal.overflow_add-sent
overflow_add-sent c =
    let n = c.args.cells.now.sizes.records in
    let this : c.loop-t.t - 1 + 1 ≡ c.loop-t.t = omega arith in
    let done = to_next (c.loop-t.t - 1) c.loop-t.invariant.done (rw (← this) at c.exchange-sent.ensures) in
    let all : c.loop-t.sent + c.exchange-sent.result ≤ c.args.plan.now.count * n = rw done.messages (lines_le _ _ n) in
    record { fits = omega (arith, all, mul-le-mul_right n c.requires.1.lines.count≤, c.args.cells.now.parts.limits.records≤) }

pub loop-t-preserved : goal.loop-t-preserved
loop-t-preserved c =
    let this : c.loop-t.t - 1 + 1 ≡ c.loop-t.t = omega arith in
    let same : c.loop-t.t + 1 - 1 ≡ c.loop-t.t - 1 + 1 = omega arith in
    record { near = omega arith; done = rw same (to_next (c.loop-t.t - 1) c.loop-t.invariant.done (rw (← this) at c.exchange-sent.ensures)) }

-- there is no exchange, or t is behind the last ..
pub returns : goal.returns
returns c =
    let e : c.loop-t.t - 1 ≡ c.args.last = omega arith in
    rw e at c.loop-t.invariant.done

-- .. or t is the last
pub returns-2 : goal.returns-2
returns-2 c =
    let this : c.loop-t.t - 1 + 1 ≡ c.loop-t.t = omega arith in
    let last : c.args.last ≡ c.loop-t.t - 1 + 1 = omega arith in
    rw last (to_next (c.loop-t.t - 1) c.loop-t.invariant.done (rw (← this) at c.exchange-sent.ensures))
