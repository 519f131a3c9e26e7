-- `api_plan::kind_number` meets its contract.
use Prim.Native.Nat.{ℕ}
use mathlib.Core.Path.{◌≡◌, refl, sym, ap, ◌∙◌}
use Rattle.plan_theory.specs.Plan.{Fact, back, read}
use Rattle.plan_keys.specs.Keys.{kind}
use Rattle.plan_keys.specs.declared.key.Kind.{Kind}
use Rattle.plan_keys.specs.declared.key.Kind.TheVariants.{Back, Read}
use Rattle.api_plan.specs.PlanArrays.{kind_number}
use Rattle.api_plan.proofs.kind_number.Goals as goal

abbrev number : Kind → ℕ
number Back = 0
number Read = 1

of_kind_lem : (f : Fact) → number (kind f) ≡ kind_number f
unfolding kind_number
of_kind_lem (back w) = refl
of_kind_lem (read w) = refl

pub returns-in-Back : goal.returns-in-Back
returns-in-Back c = ap number (sym c.in-Back.is ∙ c.kind_of.ensures) ∙ of_kind_lem _

pub returns-in-Read : goal.returns-in-Read
returns-in-Read c = ap number (sym c.in-Read.is ∙ c.kind_of.ensures) ∙ of_kind_lem _
