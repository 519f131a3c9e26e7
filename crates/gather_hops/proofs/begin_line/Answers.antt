-- `gather_hops::begin_line` meets its contract. The loop's invariant: what the records passed read by two hops is stored.
use mathlib.Core.Path.{◌≡◌}
use native.Mathlib.Omega.{arith}
use Rattle.scratch.proofs.Storing.{stored-none, stored_more}
use Rattle.gather_hops.proofs.Hopping.{reading-stored}
use Rattle.gather_hops.proofs.begin_line.Goals as goal

pub loop-u-init : goal.loop-u-init
loop-u-init c = stored-none _ _ _ _

pub put_reading-requires : goal.put_reading-requires
put_reading-requires c = (omega (arith, c.loop-u.invariant.values_length), omega (arith, c.loop-u.invariant.marks_length))

pub loop-u-preserved : goal.loop-u-preserved
loop-u-preserved c =
    let put = c.put_reading.ensures in
    let so_far = c.loop-u.invariant in
    let one = reading-stored c.two_hops-reading.result _ _ _ (omega (arith, so_far.values_length)) (omega (arith, so_far.marks_length)) put.2 in
    rw (put.0, put.1) (stored_more so_far one c.two_hops-reading.ensures)

pub returns : goal.returns
returns c =
    let e : c.loop-u.u ≡ c.args.cells.now.sizes.records = omega arith in
    rw e at c.loop-u.invariant
