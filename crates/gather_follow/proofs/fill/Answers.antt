-- `gather_follow::fill` meets its contract. The loop's invariant: the lines passed are filled.
use Prim.Native.Nat.{◌≤◌, ◌<◌}
use mathlib.Core.Path.{◌≡◌, ◌∙◌}
use native.Mathlib.Nat.{mul-le-mul_right}
use native.Mathlib.Omega.{arith}
use lib.ListN.{length}
use Rattle.plan_lines.specs.Held.{facts}
use Rattle.plan_lines.proofs.Search.{facts-length}
use Rattle.gather_follow.proofs.Filling.{line_by_key, kind_by_key, plan-none, plan-other, plan-read, plan_unwanted}
use Rattle.gather_follow.proofs.fill.Goals.{then-wanted-i+in-Read, then-wanted-i+in_default, else-wanted-i}
use Rattle.gather_follow.proofs.fill.Goals as goal

pub loop-i-init : goal.loop-i-init
loop-i-init c = plan-none _ _ _ _ _ _

pub fill_line-requires : goal.fill_line-requires
fill_line-requires c =
    let p = c.args.plan.now in
    let ready = c.requires.1 in
    let so_far = c.loop-i.invariant in
    let within : p.count ≤ length p.keys = omega (arith, ready.keys_length, ready.count≤) in
    let this = line_by_key p.keys p.count _ within c.loop-i-test.true c.in-Read.ensures c.chain_of.ensures in
    let inside : c.loop-i.i < length (facts p) = omega (arith, facts-length p.keys p.count within) in
    let room = mul-le-mul_right c.args.cells.now.sizes.records c.loop-i-test.true in (
      c.requires.0,
      ready.follow.each _ _ inside this,
      ready.follow.two _ _ inside this,
      omega (arith, room, so_far.values_length, ready.values_room),
      omega (arith, room, so_far.marks_length, ready.marks_room),
    )

pub returns : goal.returns
returns c =
    let e : c.loop-i.i ≡ c.args.plan.now.count = omega arith in
    rw e at c.loop-i.invariant

-- one more line is filled, or has no reading that is wanted
pub loop-i-preserved : goal.loop-i-preserved
loop-i-preserved c =
    let p = c.args.plan.now in
    let so_far = c.loop-i.invariant in
    let within : p.count ≤ length p.keys = omega (arith, c.requires.1.keys_length, c.requires.1.count≤) in
    elim c.if-wanted-i.branch [
      | then-wanted-i+in-Read w ↦
          let this = line_by_key p.keys p.count _ within c.loop-i-test.true w.in-Read.ensures w.chain_of.ensures in
          rw (w.values-is, w.marks-is) (plan-read _ _ _ _ _ _ _ so_far this w.fill_line.ensures)
      | then-wanted-i+in_default w ↦
          let kind-is = kind_by_key p.keys p.count _ within c.loop-i-test.true w.kind_of.ensures in
          rw (w.values-is, w.marks-is) (plan-other _ _ _ _ _ _ _ so_far (λ e. w.in_default.not-Read (kind-is ∙ e)))
      | else-wanted-i w ↦ rw (w.values-is, w.marks-is) (plan_unwanted _ _ _ _ _ _ _ so_far w.if-wanted-i.false)
    ]
