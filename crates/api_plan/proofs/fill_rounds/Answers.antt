-- `api_plan::fill_rounds` meets its contract: the rounds of the lines, then 0.
use Prim.Native.Nat.{ℕ, ◌+◌, ◌-◌, ◌≤◌, ◌<◌}
use mathlib.Core.Logic.{⊎_elim}
use mathlib.Core.Path.{◌≡◌, sym, ap, ◌∙◌}
use mathlib.Core.List.{List, ◌++◌}
use native.Mathlib.Omega.{arith}
use lib.ListN.{length, get_or, take, drop, replicate, get_or-append}
use lib.Seq.{get_or-take, get_or-drop, length-take-le}
use Rattle.std.proofs.lemmas.List.{get_or-append_right}
use Rattle.laws.proofs.Cases.{lt_or_le}
use Rattle.plan_lines.specs.Held.{facts, HoldsLines}
use Rattle.plan_lines.specs.declared.Plan.{Plan}
use Rattle.api_plan.specs.PlanArrays.{round_at, plan_lines}
use Rattle.api_plan.proofs.Filling.{cleared_all, round-value, round-behind}
use Rattle.api_plan.proofs.fill_rounds.Goals as goal

placed : (p : Plan) (h : HoldsLines p (facts p)) (i : ℕ) → get_or (take p.count p.rounds ++ drop p.count (replicate 64 0)) i 0 ≡ round_at (plan_lines p) i
placed p h i = ⊎_elim line none (lt_or_le i p.count)
  where
    front : List ℕ
    front = take p.count p.rounds

    long : length front ≡ p.count
    long = length-take-le p.count p.rounds (omega (arith, h.keyed.taken≤, h.rounds_are.places))

    line : i < p.count → get_or (front ++ drop p.count (replicate 64 0)) i 0 ≡ round_at (plan_lines p) i
    line l = get_or-append front (drop p.count (replicate 64 0)) 0 i (omega (arith, long)) ∙ get_or-take p.count p.rounds i 0 l ∙ round-value p h i l

    none : p.count ≤ i → get_or (front ++ drop p.count (replicate 64 0)) i 0 ≡ round_at (plan_lines p) i
    none l =
        get_or-append_right front (drop p.count (replicate 64 0)) p.count i 0 long l
        ∙ get_or-drop p.count (replicate 64 0) (i - p.count) 0
        ∙ cleared_all 0 64 (p.count + (i - p.count))
        ∙ sym (round-behind p h i l)

pub returns : goal.returns
returns c = λ i b. ap (λ (l : List ℕ). get_or (l ++ drop c.args.plan.now.count (replicate 64 0)) i 0) c.copy_from_slice.ensures.after ∙ placed c.args.plan.now c.requires i
