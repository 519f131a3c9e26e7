-- What is known of a register and a text that passed the check, and of a step of the text.
use Prim.Native.Nat.{ℕ, zero, suc, ◌≤◌}
use mathlib.Core.Path.{◌≡◌, subst}
use mathlib.Core.List.{List, [], ◌∷◌}
use native.Mathlib.Omega.{arith}
use lib.ListN.{length}
use Rattle.laws.specs.Outcome.{done}
use Rattle.register.specs.File.{sizes_of}
use Rattle.register.specs.declared.Sizes.{Sizes}
use Rattle.register.proofs.Roundtrip.{Loads, loads}
use Rattle.program.specs.Program.{Rule, Program, most_lines, step_plan}
use Rattle.laws.specs.Lists.{Each}
use Rattle.program.specs.Passed.{RulesPass, StepPasses, ProgramPasses}
use Rattle.text_rules.specs.Text.{check, rules_at}
use Rattle.text_rules.proofs.Passing.{check-passes}

-- no step of a text that passed has more than 64 lines
most-few : (s : Sizes) (p : Program) → Each (StepPasses s) p → most_lines p ≤ 64
unfolding most_lines
most-few s [] h = omega arith
most-few s (x ∷ xs) h = omega (arith, h.0.fits, most-few s xs h.1)

-- a step that is there
pub record StepThere (s : Sizes) (p : Program) (rs : List Rule) : Type 0 where
  pub passes : RulesPass s rs
  pub lines : length (step_plan rs) ≤ most_lines p

pub step-passes : (s : Sizes) (p : Program) (k : ℕ) {rs : List Rule} → Each (StepPasses s) p → rules_at p k ≡ done rs → StepThere s p rs
unfolding rules_at most_lines
step-passes s [] k h e = absurd (let z : ◌≡◌ {A = ℕ} 0 1 = cc in omega arith)
step-passes s (x ∷ xs) zero h e = absurd (let z : ◌≡◌ {A = ℕ} 0 1 = cc in omega arith)
step-passes s (x ∷ xs) (suc zero) {rs} h e =
    let same : x.rules ≡ rs = cc in rw (← same) (record { passes = h.0.rules; lines = omega arith })
step-passes s (x ∷ xs) (suc (suc k)) h e =
    let r = step-passes s xs (suc k) h.1 e in record { passes = r.passes; lines = omega (arith, r.lines) }

module _ (file text : List ℕ) {p : Program} (e : check file text ≡ done p) where
  pub loaded : Loads (sizes_of file) file
  loaded = let (s, l, k) = check-passes file text p e in let h = loads s file l in subst (λ (s : Sizes). Loads s file) h.sizes h

  pub passed : ProgramPasses (sizes_of file) p
  passed = let (s, l, k) = check-passes file text p e in subst (λ (s : Sizes). ProgramPasses s p) (loads s file l).sizes k

  pub few-lines : most_lines p ≤ 64
  few-lines = most-few (sizes_of file) p passed.each
