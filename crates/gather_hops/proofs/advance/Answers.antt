-- `gather_hops::advance` meets its contract. The loop's invariant: the places of the records passed are one hop on.
use Prim.Native.Nat.{◌+◌}
use mathlib.Core.Path.{◌≡◌, refl}
use native.Mathlib.Omega.{arith}
use Rattle.chain.proofs.Following.{column-below}
use Rattle.chain.proofs.Fields.{field_below}
use Rattle.scratch.specs.Places.{Kept}
use Rattle.scratch.proofs.Placed.{place_at-kept}
use Rattle.scratch.proofs.Storing.{stored-none, stored_more}
use Rattle.gather_hops.proofs.Leading.{hop-referred}
use Rattle.gather_hops.proofs.advance.Goals as goal

pub column-column-requires : goal.column-column-requires
column-column-requires c =
    let limits = c.args.cells.now.parts.limits in
    (limits.references≤, field_below _ limits _ c.requires.0)

pub loop-u-init : goal.loop-u-init
loop-u-init c = stored-none _ _ _ _

-- the place of record u is as it was
pub hop-requires : goal.hop-requires
hop-requires c =
    let before : Kept (c.args.first + c.loop-u.u) c.args.values.now c.args.marks.now c.loop-u.values c.loop-u.marks = c.loop-u.invariant.behind _ (omega arith) in
    let referring = c.requires.3 in (
      rw c.column-column.ensures (column-below _ c.args.cells.now.parts.limits _ c.requires.0),
      omega (arith, c.loop-u.invariant.values_length),
      omega (arith, c.loop-u.invariant.marks_length),
      rw before.value-is (referring.fits _ c.loop-u-test.true),
      rw (place_at-kept before) (referring.refers _ c.loop-u-test.true),
    )

pub loop-u-preserved : goal.loop-u-preserved
loop-u-preserved c =
    let before : Kept (c.args.first + c.loop-u.u) c.args.values.now c.args.marks.now c.loop-u.values c.loop-u.marks = c.loop-u.invariant.behind _ (omega arith) in
    stored_more c.loop-u.invariant (rw (c.column-column.ensures, hop-referred, place_at-kept before) at c.hop.ensures) refl

pub returns : goal.returns
returns c =
    let e : c.loop-u.u ≡ c.args.cells.now.sizes.records = omega arith in
    rw e at c.loop-u.invariant
