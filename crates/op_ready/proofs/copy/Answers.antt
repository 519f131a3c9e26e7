-- `op_ready::copy` meets its contract. The loop's invariant: the bytes passed are copied.
use mathlib.Core.Path.{refl, sym, ◌∙◌}
use native.Mathlib.Omega.{arith}
use lib.ListN.{length-set}
use Rattle.op_ready.proofs.Copying.{copied_more, copied_all}
use Rattle.op_ready.proofs.copy.Goals as goal

pub loop-i-init : goal.loop-i-init
loop-i-init c = (refl, refl)

pub bounds-to-i : goal.bounds-to-i
bounds-to-i c = omega (arith, c.loop-i.invariant.0, c.requires)

pub loop-i-preserved : goal.loop-i-preserved
loop-i-preserved c =
    let l = c.loop-i in
    (length-set l.to l.i _ ∙ l.invariant.0, copied_more c.args.from.now l.to l.i (omega arith) (omega (arith, l.invariant.0, c.requires)) l.invariant.1)

pub shape_of-to : goal.shape_of-to
shape_of-to c = c.loop-i.invariant.0

pub returns : goal.returns
returns c =
    let l = c.loop-i in
    copied_all c.args.from.now l.to l.i (omega arith) (l.invariant.0 ∙ sym c.requires) l.invariant.1
