-- The answer of a look: by the plan of the step, and by the lengths of the buffers.
use Prim.Native.Nat.{ℕ, ◌*◌, ◌≤◌}
use mathlib.Core.Path.{◌≡◌, refl, sym, subst}
use mathlib.Core.Bool.{true, false}
use mathlib.Core.List.{List}
use native.Mathlib.Omega.{arith}
use native.Mathlib.Nat.{mul-le-mul_right}
use lib.IntN.{ℤ}
use Rattle.laws.specs.Outcome.{Outcome, done, refused, after}
use Rattle.register.specs.File.{sizes_of}
use Rattle.register.specs.declared.Sizes.{Sizes}
use Rattle.plan_theory.specs.Plan.{Fact}
use Rattle.program.specs.Program.{Rule, Program, most_lines, step_plan}
use Rattle.text_rules.specs.Text.{check, rules_at, plan_of_step}
use Rattle.machine.specs.Run.{scratch, is_short}
use Rattle.op_limits.proofs.Room.{room}
use Rattle.op_inspect.specs.Inspection.{step_lines, inspection}
use Rattle.op_inspect.specs.Answer.{inspect_refusal, StepAnswered, InspectAnswered}
use Rattle.op_inspect.specs.declared.InspectAnswer.{InspectAnswer}

-- a refusal stays, whatever follows a result
same_refusal : {A B C : Type 0} (o : Outcome A) {f : A → Outcome B} {g : A → Outcome C} {n k : ℕ}
    → ((a : A) → f a ≡ refused n k → g a ≡ refused n k) → after o f ≡ refused n k → after o g ≡ refused n k
unfolding after
same_refusal (done a) h e = h a e
same_refusal (refused a b) {n = n} {k = k} h e = let x : a ≡ n = cc in let y : b ≡ k = cc in rw (x, y)

module _ (file text : List ℕ) (step values marks : ℕ) where
  -- the plan of the step is refused
  pub inspect_refused : {n k : ℕ} → plan_of_step file text step ≡ refused n k → inspection file text step values marks ≡ refused n k
  unfolding plan_of_step inspection step_lines
  inspect_refused = same_refusal (check file text) (λ p. same_refusal (rules_at p step) (λ rs e. absurd (let z : ◌≡◌ {A = ℕ} 0 1 = cc in omega arith)))

  -- the step is there: by the lengths of the buffers
  module _ {p : Program} (e : check file text ≡ done p) {rs : List Rule} (there : rules_at p step ≡ done rs) where
    pub inspect_short : is_short (scratch (sizes_of file) (most_lines p)) values marks ≡ true → inspection file text step values marks ≡ refused 19 0
    unfolding inspection step_lines after
    inspect_short h = rw (e, there, h)

    pub inspect_done : is_short (scratch (sizes_of file) (most_lines p)) values marks ≡ false → inspection file text step values marks ≡ done (step_plan rs)
    unfolding inspection step_lines after
    inspect_done h = rw (e, there, h)

-- both buffers have room for the lines of a step
pub lines-room : (s : Sizes) {lines most values marks : ℕ} → lines ≤ most → is_short (scratch s most) values marks ≡ false
    → (lines * s.records ≤ values) × (lines * s.records ≤ marks)
unfolding scratch
lines-room s {most = most} {values = values} {marks = marks} h e =
    let (v, m) = room (scratch s most) values marks e in
    (omega (arith, mul-le-mul_right s.records h, v), omega (arith, mul-le-mul_right s.records h, m))

-- an answer by its outcome
module _ (file : List ℕ) (t : ℕ) (values : List ℤ) (marks : List ℕ) {o : Outcome (List Fact)} {r : InspectAnswer} where
  pub refused-answered : {n k : ℕ} → o ≡ refused n k → r ≡ inspect_refusal n k → InspectAnswered o file t values marks values marks r
  refused-answered e h =
      subst (λ (o : Outcome (List Fact)). InspectAnswered o file t values marks values marks r) (sym e)
      (record { answer_is = h; values_same = refl; marks_same = refl })

  pub step-answered : {l : List Fact} {values' : List ℤ} {marks' : List ℕ} → o ≡ done l → StepAnswered l file t values marks values' marks' r
      → InspectAnswered o file t values marks values' marks' r
  step-answered {values' = values'} {marks' = marks'} e h = subst (λ (o : Outcome (List Fact)). InspectAnswered o file t values marks values' marks' r) (sym e) h
