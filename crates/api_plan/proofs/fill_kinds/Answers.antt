-- `api_plan::fill_kinds` meets its contract. The loop's invariant: the places passed hold their kinds, the others 0.
use Prim.Native.Nat.{ℕ, ◌<◌}
use mathlib.Core.Path.{ap, ◌∙◌}
use lib.Seq.{get_or-take, length-take-le}
use Rattle.plan_keys.specs.Keys.{fact_of}
use Rattle.api_plan.specs.PlanArrays.{kind_number}
use native.Mathlib.Omega.{arith}
use Rattle.api_plan.proofs.Filling.{progress_none, progress_next, progress_all, kind-value, kind-behind}
use Rattle.api_plan.proofs.fill_kinds.Goals as goal

pub loop-i-init : goal.loop-i-init
loop-i-init c = progress_none

pub loop-i-preserved : goal.loop-i-preserved
loop-i-preserved c =
    let p = c.args.plan.now in
    let i = c.loop-i.i in
    let k = c.requires.keyed in
    let left : i < p.count = omega (arith, c.loop-i-test.true, length-take-le p.count p.keys (omega (arith, k.taken≤, k.places))) in
    progress_next c.loop-i.invariant (omega (arith, k.taken≤, left))
    (c.kind_number.ensures ∙ ap (λ (key : ℕ). kind_number (fact_of key)) (get_or-take p.count p.keys i 0 left) ∙ kind-value p c.requires i left)

pub returns : goal.returns
returns c =
    let p = c.args.plan.now in
    let k = c.requires.keyed in
    progress_all c.loop-i.invariant
    (λ i l. kind-behind p c.requires i (omega (arith, l, c.loop-i-test.false, length-take-le p.count p.keys (omega (arith, k.taken≤, k.places)))))
