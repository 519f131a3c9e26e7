-- The cells at the end of a run of a program that passes are such as a register may hold.
use Prim.Native.Nat.{ℕ, zero, suc}
use mathlib.Core.List.{List, [], ◌∷◌}
use Rattle.laws.specs.Lists.{Each}
use Rattle.laws.proofs.Bools.{cond_both}
use Rattle.register.specs.Shape.{Valid}
use Rattle.register.specs.declared.Sizes.{Sizes}
use Rattle.register.specs.declared.cells.Cell.{Cell}
use Rattle.program.specs.Program.{Step, Program}
use Rattle.program.specs.Passed.{StepPasses, ProgramPasses}
use Rattle.machine.specs.Step.{step_cells, offence}
use Rattle.machine.specs.Run.{direct, Pass, Run, begins, goes_on, entered, following, behind, step_first, run_from, run}
use Rattle.machine.proofs.Keeping.{step_cells-valid}
use Rattle.machine.proofs.Direct.{direct_refers}
use Rattle.machine.proofs.Stops.{offended_cases}

module _ (s : Sizes) where
  abbrev AllPass : List Step → Type 0
  AllPass = Each (StepPasses s)

  run_from-valid : (budget : ℕ) (steps : List Step) (p : Pass) (cells : List Cell) → AllPass steps → AllPass p.steps → Valid s cells
      → Valid s (run_from s (direct s) budget steps p cells).cells
  unfolding run_from step_first behind entered following
  run_from-valid zero [] p cells k l v = v
  run_from-valid zero (x ∷ rest) p cells k l v = v
  run_from-valid (suc budget) [] p cells k l v = v
  run_from-valid (suc budget) (x ∷ rest) p cells k l v =
      let read = direct s x.rules cells in
      let after = step_cells s read x.rules cells in
      let pass = entered x.setting (x ∷ rest) cells p in
      let pass-passes : AllPass pass.steps = cond_both (λ (q : Pass). AllPass q.steps) (begins x.setting) _ _ k l in
      offended_cases (λ (r : Run). Valid s r.cells) (offence s read x.rules cells) cells _ (λ o e. v)
      (λ e.
      run_from-valid budget _ pass after (cond_both AllPass (goes_on s x.setting pass.before after) _ _ k.1 pass-passes) pass-passes
      (step_cells-valid v k.0.rules read (λ u w h r. direct_refers v x.rules u h w r) e))

  pub run-valid : {p : Program} {cells : List Cell} → ProgramPasses s p → Valid s cells → (budget : ℕ) → Valid s (run s (direct s) p budget cells).cells
  unfolding run
  run-valid {p} {cells} k v budget = run_from-valid budget p _ cells k.each tt v
