-- What `plot_plan` answers.
use Rattle.std.specs.Prelude.{ℕ, ◌≡◌, List, [], ◌∷◌, length}
use Rattle.laws.specs.Outcome.{Outcome, done, refused}
use Rattle.text_rules.specs.Text.{PlanResult}
use Rattle.api_plan.specs.PlanArrays.{flag_number, PlanArrays}

-- the caller's three arrays, document 01's lent arrays
pub record Buffers : Type 0 where
  pub kinds : List ℕ
  pub chains : List ℕ
  pub rounds : List ℕ

-- a plan: the number of its lines, 1 where a remote exchange follows, and the lines in the arrays
pub record PlanDone (p : PlanResult) (result : ℕ) (answer : List ℕ) (after : Buffers) : Type 0 where
  pub result_is : result ≡ 0
  pub answer_is : answer ≡ 0 ∷ 0 ∷ 0 ∷ 0 ∷ 0 ∷ 0 ∷ length p.plan_lines ∷ flag_number p.remote ∷ []
  pub arrays_are : PlanArrays p.plan_lines after.kinds after.chains after.rounds

-- a refusal: its number and line, and the arrays as they were
pub record PlanRefused (number line result : ℕ) (answer : List ℕ) (before after : Buffers) : Type 0 where
  pub result_is : result ≡ number
  pub answer_is : answer ≡ line ∷ 0 ∷ 0 ∷ 0 ∷ 0 ∷ 0 ∷ 0 ∷ 0 ∷ []
  pub arrays_stay : after ≡ before

abbrev pub PlanAnswer : Outcome PlanResult → ℕ → List ℕ → Buffers → Buffers → Type 0
PlanAnswer (done p) result answer before after = PlanDone p result answer after
PlanAnswer (refused number line) result answer before after = PlanRefused number line result answer before after
