-- `chain_text::text::read` meets its contract: it calls itself on the inner chain, with room for one hop less.
use Prim.Native.Nat.{◌+◌, ◌<◌}
use mathlib.Core.Path.{sym}
use mathlib.Core.Bool.{true, false}
use native.Mathlib.Omega.{arith}
use lib.ListN.{length}
use Rattle.chain_text.proofs.Scanning.{starts-inside, opens-inside, opens-capital, first-u, first-none, step_small, inner_none, inner_some}
use Rattle.chain_text.proofs.text.+read.Goals as goal

pub overflow_add-result : goal.overflow_add-result
overflow_add-result t c = record { fits = omega (arith, starts-inside c.args.text.now c.args.at 117 (sym c.if-starts_with.ensures)) }

pub returns-then-starts_with : goal.returns-then-starts_with
returns-then-starts_with t c = sym (first-u _ _ _ _ _ (sym c.if-starts_with.ensures))

pub returns-then-not-opens_at : goal.returns-then-not-opens_at
returns-then-not-opens_at t c = sym (first-none _ _ _ _ _ (sym c.if-starts_with.ensures) (sym c.if-not-opens_at.ensures))

pub overlong-requires : goal.overlong-requires
overlong-requires t c = (c.requires.0, rw c.if-room-eq0.true at c.requires.2, c.requires.3)

pub returns-then-room-eq0 : goal.returns-then-room-eq0
returns-then-room-eq0 t c = rw c.if-room-eq0.true c.overlong.ensures

pub bounds-text-at : goal.bounds-text-at
bounds-text-at t c = omega (arith, opens-inside c.args.text.now c.args.at (sym c.if-not-opens_at.ensures))

pub step-next-requires : goal.step-next-requires
step-next-requires t c = (c.requires.0, opens-capital c.args.text.now c.args.at (sym c.if-not-opens_at.ensures), c.requires.1, c.requires.2)

pub read-requires : goal.read-requires
read-requires t c =
    let opening = sym c.if-not-opens_at.ensures in
    let inside : c.args.at + 1 < length c.args.text.now = opens-inside c.args.text.now c.args.at opening in (
      omega arith,
      (
        c.requires.0,
        omega (arith, c.requires.1),
        rw c.step-next.ensures (step_small _ _ _ _ (opens-capital c.args.text.now c.args.at opening) c.if-room-eq0.false c.requires.1 c.requires.2),
        omega (arith, inside),
      ),
    )

pub returns-in_err-inner : goal.returns-in_err-inner
returns-in_err-inner t c =
    rw c.from_residual.ensures (inner_none _ _ _ c.args.text.now _ (sym c.if-not-opens_at.ensures) c.step-next.ensures c.in_err-inner.ensures)

pub returns-then-not-starts_with : goal.returns-then-not-starts_with
returns-then-not-starts_with t c = inner_some _ _ _ c.args.text.now _ (sym c.if-not-opens_at.ensures) c.step-next.ensures _ _ c.in_ok-inner.ensures false c.if-not-starts_with.ensures

pub overflow_add-result-2 : goal.overflow_add-result-2
overflow_add-result-2 t c = record { fits = omega (arith, starts-inside c.args.text.now c.in_ok-inner.end 93 (sym c.if-not-starts_with.ensures)) }

pub returns : goal.returns
returns t c = inner_some _ _ _ c.args.text.now _ (sym c.if-not-opens_at.ensures) c.step-next.ensures _ _ c.in_ok-inner.ensures true c.if-not-starts_with.ensures
