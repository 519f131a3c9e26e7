-- `c_api::step::plot_plan` meets its contract.
use Prim.Native.Nat.{ℕ}
use mathlib.Core.Path.{refl, sym, ap₂, ◌∙◌}
use mathlib.Core.List.{[], ◌∷◌}
use lib.ListN.{length-map}
use Rattle.plan_theory.specs.Plan.{Fact, round}
use Rattle.plan_lines.specs.Held.{facts}
use Rattle.plan_lines.proofs.Appending.{holds_count}
use Rattle.op_check.proofs.Checks.{holds-lines, planned-answer, refused-answer}
use Rattle.c_api.proofs.step.plot_plan.Goals as goal

pub returns-in-Err : goal.returns-in-Err
returns-in-Err c = rw (refused-answer c.in-Err.ensures.0) (record { result_is = c.number.ensures; answer_is = refl; arrays_stay = refl })

pub returns : goal.returns
returns c =
    let a = c.in-Ok.ensures.0 in
    let h = a.sound in
    let count = sym (holds_count h) ∙ sym (length-map {B = Fact × ℕ} (facts c.in-Ok.found.plan) (λ (f : Fact). (f, round f))) in
    rw (planned-answer a, holds-lines h)
    (record {
      result_is = refl;
      answer_is = ap₂ (λ (n m : ℕ). 0 ∷ 0 ∷ 0 ∷ 0 ∷ 0 ∷ 0 ∷ n ∷ m ∷ []) count c.flag_number.ensures;
      arrays_are = c.fill.ensures;
    })
