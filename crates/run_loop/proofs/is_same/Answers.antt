-- `run_loop::is_same` meets its contract. The loop's invariant: the same is read of the records passed.
use mathlib.Core.Path.{◌≡◌, sym, ap, ◌∙◌}
use mathlib.Core.Bool.{not}
use native.Mathlib.Numerals.{add-one}
use native.Mathlib.Omega.{arith}
use Rattle.machine.proofs.Columns.{same_column-none, same_column-same, same_column-other}
use Rattle.run_loop.proofs.Standing.{same-told}
use Rattle.run_loop.proofs.is_same.Goals as goal

pub loop-u-init : goal.loop-u-init
loop-u-init c = λ before k. same_column-none _ _ _ _

pub returns-then-ne : goal.returns-then-ne
returns-then-ne c = record {
  same-is = λ before k.
      let told = same-told _ _ before _ _ c.loop-u.u c.loop-u-test.true c.read_at-before.ensures c.read_cell-after.ensures c.ne.ensures k in
      sym (same_column-other _ _ before _ _ c.loop-u.u c.loop-u-test.true (told ∙ ap not c.if-ne.true));
}

pub loop-u-preserved : goal.loop-u-preserved
loop-u-preserved c = λ before k.
    let told = same-told _ _ before _ _ c.loop-u.u c.loop-u-test.true c.read_at-before.ensures c.read_cell-after.ensures c.ne.ensures k in
    rw (add-one c.loop-u.u) (same_column-same _ _ before _ c.loop-u.u (c.loop-u.invariant before k) (told ∙ ap not c.if-ne.false))

pub returns : goal.returns
returns c =
    let e : c.loop-u.u ≡ c.args.cells.now.sizes.records = omega arith in
    record { same-is = λ before k. sym (rw e at (c.loop-u.invariant before k)) }
