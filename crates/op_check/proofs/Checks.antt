-- The ways out of a check and of the plan of a step.
use Prim.Native.Nat.{ℕ, zero, suc, ◌-◌, ◌≤◌, ◌<◌}
use mathlib.Core.Path.{◌≡◌, refl, sym, ap, ap₂, ◌∙◌}
use mathlib.Core.Bool.{Bool, true, false, cond, ◌&&◌}
use mathlib.Core.List.{List, [], ◌∷◌, map}
use native.Mathlib.Omega.{arith}
use borrow.Author.Tests.{le-leb, leb-false}
use lib.Dec.{leb, ltb}
use lib.ListN.{length, get_or}
use Rattle.laws.specs.Outcome.{Outcome, refused, after}
use Rattle.laws.specs.Outcome as O
use Rattle.laws.proofs.Bools.{and-true}
use Rattle.register.specs.Load.{load}
use Rattle.register.specs.declared.Sizes.{Sizes}
use Rattle.plan_theory.specs.Plan.{Fact, round, line, result}
use Rattle.plan_lines.specs.Held.{HoldsLines}
use Rattle.plan_lines.specs.declared.Plan.{Plan}
use Rattle.plan_lines.proofs.Adding.{holds-facts}
use Rattle.plan_lines.proofs.Appending.{holds_count}
use Rattle.program.specs.declared.setting.Setting.TheVariants.{Single}
use Rattle.program.specs.Program.{Program, most_lines, step_plan}
use Rattle.text_rules.specs.Text.{lines, start, read_from, text_program, check, rules_at, PlanResult, plan_result, plan_of_step}
use Rattle.program.specs.Kept.{program_of, Framed}
use Rattle.op_limits.specs.Admitted.{admitted}
use Rattle.op_limits.proofs.Admitting.{admitted-both}
use Rattle.std.specs.Prelude.{Result, Ok, Err, IfOk}
use Rattle.op_limits.specs.Number.{refusal_number}
use Rattle.op_limits.specs.declared.Refusal.TheVariants.{Step}
use Rattle.op_check.specs.Checked.{check_outcome, Answers}
use Rattle.op_check.specs.declared.check.Refused.{Refused}
use Rattle.program.specs.declared.Program as R
use Rattle.program.specs.Program as P
use Rattle.register.specs.Shape.{Limits}
use Rattle.register.proofs.Bounds.{limits}
use Rattle.op_check.specs.StepPlan.{zip, lines_of, plan_outcome, PlanAnswers, StepFound}
use Rattle.program.specs.declared.frame.Frame.{Frame}
use Rattle.op_check.specs.declared.step.StepPlan.{StepPlan}
use Rattle.program.proofs.Frames.{frame_at}

-- the check by what is asked before the text is read
asked-first : {A : Type 0} (o : Outcome Sizes) (b : Bool) (f : Sizes → Outcome A) → after o (λ s. cond b (refused 6 0) (f s)) ≡ after (after o (λ s. cond b (refused 6 0) (O.done s))) f
unfolding after
asked-first (O.done s) true f = refl
asked-first (O.done s) false f = refl
asked-first (refused n k) b f = refl

module _ (file t : List ℕ) where
  check-admitted : check file t ≡ after (admitted file t) (λ s. read_from (record { sizes = s }) start 1 (lines t))
  unfolding check text_program admitted
  check-admitted = asked-first (load file) (ltb 8192 (length t)) _

  -- what is refused before, and what is read
  pub check_unread : {n k : ℕ} → admitted file t ≡ refused n k → check file t ≡ refused n k
  unfolding after
  check_unread h = check-admitted ∙ rw h

  pub check-read : {s : Sizes} → admitted file t ≡ O.done s → check file t ≡ read_from (record { sizes = s }) start 1 (lines t)
  unfolding after
  check-read h = check-admitted ∙ rw h

  pub read-limits : {s : Sizes} → admitted file t ≡ O.done s → Limits s × (length t ≤ 8192)
  read-limits {s} h = let (l, n) = admitted-both file t h in (limits s l.within, n)

-- an answer that is refused, and one that is not
pub answered-refused : {codes : List ℕ} {o : Outcome Program} {e : Refused} → Answers codes o (Err e)
    → o ≡ refused (refusal_number e.refusal) e.line
unfolding check_outcome
answered-refused a = sym a.outcome_is

pub answered-program : {codes : List ℕ} {o : Outcome Program} {p : R.Program} → Answers codes o (Ok p) → o ≡ O.done (program_of codes p)
unfolding check_outcome
answered-program a = sym a.outcome_is

-- a step that is not there
no_step_lem : (xs : Program) → rules_at xs 0 ≡ refused 17 0
unfolding rules_at
no_step_lem [] = refl
no_step_lem (x ∷ xs) = refl

past-step : (xs : Program) (k : ℕ) → length xs < k → rules_at xs k ≡ refused 17 0
unfolding rules_at
past-step [] k h = refl
past-step (x ∷ xs) zero h = absurd (omega arith)
past-step (x ∷ xs) (suc zero) h = absurd (omega arith)
past-step (x ∷ xs) (suc (suc k)) h = past-step xs (suc k) (omega arith)

not_there : (xs : Program) (k : ℕ) → leb 1 k && leb k (length xs) ≡ false → rules_at xs k ≡ refused 17 0
not_there xs zero h = no_step_lem xs
not_there xs (suc k) h = past-step xs (suc k) (leb-false (suc k) (length xs) (and-true _ (le-leb 1 (suc k) (omega arith)) ∙ h))

-- a step that is there
rules-there : (xs : Program) (k : ℕ) (d : P.Step) → k < length xs → rules_at xs (suc k) ≡ O.done (get_or xs k d).rules
unfolding rules_at
rules-there [] k d h = absurd (omega arith)
rules-there (x ∷ xs) zero d h = refl
rules-there (x ∷ xs) (suc k) d h = rules-there xs k d (omega arith)

-- the lines of a plan with their rounds
zip-rounds : (l : List Fact) (ns : List ℕ) → length l ≤ length ns → ((i : ℕ) → i < length l → get_or ns i 0 ≡ round (line l i)) → zip l ns ≡ map (λ f. (f, round f)) l
unfolding zip
zip-rounds [] ns b h = refl
zip-rounds (f ∷ l) [] b h = absurd (omega arith)
zip-rounds (f ∷ l) (n ∷ ns) b h = ap₂ (λ (m : ℕ) (r : List (Fact × ℕ)). (f, m) ∷ r) (h 0 (omega arith)) (zip-rounds l ns (omega arith) (λ i c. h (suc i) (omega arith)))

pub holds-lines : {p : Plan} {l : List Fact} → HoldsLines p l → lines_of p ≡ map (λ f. (f, round f)) l
unfolding lines_of
holds-lines {p} {l} h = ap (λ (m : List Fact). zip m p.rounds) h.facts_are ∙ zip-rounds l p.rounds (omega (arith, holds_count h, h.keyed, h.rounds_are.places)) h.rounds_are.entry

-- an answer with a plan, and one that is refused
pub planned-answer : {o : Outcome PlanResult} {r : StepPlan} → PlanAnswers o (Ok r) → o ≡ O.done (record { plan_lines = lines_of r.plan; remote = r.remote })
unfolding plan_outcome
planned-answer a = sym a.outcome_is

pub refused-answer : {o : Outcome PlanResult} {e : Refused} → PlanAnswers o (Err e) → o ≡ refused (refusal_number e.refusal) e.line
unfolding plan_outcome
refused-answer a = sym a.outcome_is

-- the plan of a step: a refusal of the check, 17, or the frame's plan
module _ (file t : List ℕ) (k : ℕ) where
  abbrev Answer : Result StepPlan Refused → Type 0
  Answer r = PlanAnswers (plan_of_step file t k) r × IfOk r (λ p. StepFound file t k p)

  pub plan-refused : {e : Refused} → check file t ≡ refused (refusal_number e.refusal) e.line → Answer (Err e)
  unfolding plan_of_step after plan_outcome
  plan-refused e = (record { outcome_is = rw e; sound = tt }, tt)

  module _ {xs : Program} (e : check file t ≡ O.done xs) where
    pub step_missing : leb 1 k && leb k (length xs) ≡ false → Answer (Err (record { refusal = Step; line = 0 }))
    unfolding plan_of_step after plan_outcome refusal_number
    step_missing h = (record { outcome_is = rw (e, not_there xs k h); sound = tt }, tt)

    pub step-there : (fs : List Frame) (d : Frame) {most : ℕ} → Framed fs xs → 1 ≤ k → k ≤ length xs → most ≡ most_lines xs
        → Answer (Ok (record { plan = (get_or fs (k - 1) d).plan; remote = (get_or fs (k - 1) d).remote; most = most }))
    unfolding plan_of_step after plan_result plan_outcome result step_plan
    step-there fs d h p b m =
        let none : P.Step = record { rules = []; setting = Single } in
        let at : suc (k - 1) ≡ k = omega arith in
        let there = rw at at (rules-there xs (k - 1) none (omega arith)) in
        let f = frame_at fs xs (k - 1) none d h (omega arith) in (
          record { outcome_is = rw (e, there, holds-lines f.holds, f.remote_is); sound = holds-facts f.holds },
          record { program = xs; checked = e; rules = (get_or xs (k - 1) none).rules; there = there; lines_are = f.holds.facts_are; most_is = m },
        )
