-- `chain_text::text::open_letters` meets its contract. The loop's invariant: what is left from i on comes to the same as the whole.
use mathlib.Core.Path.{refl, sym}
use native.Mathlib.Omega.{arith}
use Rattle.chain_text.proofs.Scanning.{passed-more, passed-end, opens-inside, opens-capital}
use Rattle.chain_text.proofs.text.open_letters.Goals as goal

pub loop-sizes-init : goal.loop-sizes-init
loop-sizes-init c = record { inside = c.requires.2; letters = refl; place = refl; packed = refl }

pub bounds-text-i : goal.bounds-text-i
bounds-text-i c = omega (arith, opens-inside c.args.text.now c.loop-sizes.i (sym c.loop-sizes-test.ensures))

pub step-seen-requires : goal.step-seen-requires
step-seen-requires c = (
  c.requires.0,
  opens-capital c.args.text.now c.loop-sizes.i (sym c.loop-sizes-test.ensures),
  omega arith,
  omega (arith, c.loop-sizes.invariant.packed, c.requires.1),
)

pub overflow_add-i : goal.overflow_add-i
overflow_add-i c = record { fits = omega (arith, opens-inside c.args.text.now c.loop-sizes.i (sym c.loop-sizes-test.ensures)) }

pub loop-sizes-smaller : goal.loop-sizes-smaller
loop-sizes-smaller c = omega (arith, opens-inside c.args.text.now c.loop-sizes.i (sym c.loop-sizes-test.ensures))

pub loop-sizes-preserved : goal.loop-sizes-preserved
loop-sizes-preserved c = passed-more c.loop-sizes.invariant (sym c.loop-sizes-test.ensures) c.step-seen.ensures

pub returns : goal.returns
returns c =
    let p = passed-end c.loop-sizes.invariant (sym c.loop-sizes-test.ensures) in
    record { letters_are = p.0; at_is = p.1 }
