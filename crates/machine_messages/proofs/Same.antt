-- The message machine does the same as the machine that follows hop by hop: a step, and a whole run.
use Prim.Native.Nat.{ℕ, zero, suc}
use mathlib.Core.Path.{◌≡◌, refl, ap}
use mathlib.Core.List.{List, [], ◌∷◌}
use mathlib.Core.Option.{Option, none, some}
use Rattle.register.specs.Shape.{Valid}
use Rattle.register.specs.declared.Sizes.{Sizes}
use Rattle.register.specs.declared.cells.Cell.{Cell}
use Rattle.program.specs.Program.{Rule, Step, Program}
use Rattle.laws.specs.Lists.{Each}
use Rattle.program.specs.Passed.{RulesPass, StepPasses, ProgramPasses}
use Rattle.machine.specs.Remote.{record_messages}
use Rattle.machine.specs.Step.{step_cells, Offence, offence}
use Rattle.machine.specs.Run.{direct, Pass, begins, goes_on, entered, following, Run, behind, unless_offended, step_first, run_from, run}
use Rattle.laws.proofs.Bools.{cond_both}
use Rattle.machine.proofs.Agreeing.{step_cells_agree, offence_agree, record_messages_agree}
use Rattle.machine.proofs.Keeping.{step_cells-valid}
use Rattle.machine.proofs.Direct.{direct_refers}
use Rattle.machine_messages.specs.Counts.{by_messages}
use Rattle.machine_messages.proofs.Knowing.{knows-direct}

-- a step of rules that pass
module _ {s : Sizes} {rs : List Rule} {cells : List Cell} (k : RulesPass s rs) (v : Valid s cells) where
  -- leaves the same cells
  pub step-cells : step_cells s (by_messages s rs cells) rs cells ≡ step_cells s (direct s rs cells) rs cells
  step-cells = step_cells_agree _ _ rs s (knows-direct k v) cells

  -- stops where the other does, at the same record and column
  pub step-stops : offence s (by_messages s rs cells) rs cells ≡ offence s (direct s rs cells) rs cells
  step-stops = offence_agree _ _ rs s (knows-direct k v) cells

  -- and sends the same remote writes
  pub step-writes : record_messages (by_messages s rs cells) rs s.records ≡ record_messages (direct s rs cells) rs s.records
  step-writes = record_messages_agree _ _ rs s.records (knows-direct k v)

  -- behind a step that does not stop the register is valid
  step-valid : offence s (direct s rs cells) rs cells ≡ none → Valid s (step_cells s (direct s rs cells) rs cells)
  step-valid go_on = step_cells-valid v k (direct s rs cells) (λ u w l h. direct_refers v rs u l w h) go_on

-- the run that goes on counts only where no place offends
unless-same : (o : Option Offence) (cells : List Cell) (r r' : Run) → (o ≡ none → r ≡ r') → unless_offended o cells r ≡ unless_offended o cells r'
unfolding unless_offended
unless-same none cells r r' h = h refl
unless-same (some x) cells r r' h = refl

module _ (s : Sizes) where
  -- the steps of the pass that a step is done in, and those to come behind it, pass
  entered-passes : (x : Step) (rest : List Step) (cells : List Cell) (p : Pass) → Each (StepPasses s) (x ∷ rest) → Each (StepPasses s) p.steps
      → Each (StepPasses s) (entered x.setting (x ∷ rest) cells p).steps
  unfolding entered
  entered-passes x rest cells p k q = cond_both (λ (p : Pass). Each (StepPasses s) p.steps) (begins x.setting) _ _ k q

  following-passes : (x : Step) (rest : List Step) (after : List Cell) (p : Pass) → Each (StepPasses s) rest → Each (StepPasses s) p.steps
      → Each (StepPasses s) (following s x.setting rest after p)
  unfolding following
  following-passes x rest after p k q = cond_both (Each (StepPasses s)) (goes_on s x.setting p.before after) rest p.steps k q

  -- two ways to go on do the same with steps that pass, in a pass whose steps do
  abbrev Same : (List Step → Pass → List Cell → Run) → (List Step → Pass → List Cell → Run) → Type 0
  Same goOn goOn' = (steps : List Step) (p : Pass) (cells : List Cell) → Each (StepPasses s) steps → Each (StepPasses s) p.steps → Valid s cells
      → goOn steps p cells ≡ goOn' steps p cells

  -- so does a first step with a run that goes on
  step_first-same : (goOn goOn' : List Step → Pass → List Cell → Run) → Same goOn goOn' → Same (step_first s (by_messages s) goOn) (step_first s (direct s) goOn')
  unfolding step_first
  step_first-same goOn goOn' same [] p cells k q v = refl
  step_first-same goOn goOn' same (x ∷ rest) p cells k q v =
      let passes = entered-passes x rest cells p k q in
      rw (step-stops k.0.rules v, step-cells k.0.rules v)
      (unless-same _ cells _ _
      (λ go_on. ap (behind x cells) (same _ _ _ (following-passes x rest _ _ k.1 passes) passes (step-valid k.0.rules v go_on))))

  -- and a run with any budget
  run_from-same : (budget : ℕ) → Same (run_from s (by_messages s) budget) (run_from s (direct s) budget)
  unfolding run_from
  run_from-same zero [] p cells k q v = refl
  run_from-same zero (x ∷ rest) p cells k q v = refl
  run_from-same (suc budget) steps p cells k q v = step_first-same _ _ (run_from-same budget) steps p cells k q v

-- the run of a program that passes: the same cells, the same finished steps, each over the same cells, and the same ending
pub run-same : {s : Sizes} {p : Program} {cells : List Cell} (budget : ℕ) → ProgramPasses s p → Valid s cells
    → run s (by_messages s) p budget cells ≡ run s (direct s) p budget cells
unfolding run
run-same {s} {p} {cells} budget k v = run_from-same s budget p _ cells k.each tt v
