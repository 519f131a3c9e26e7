-- Where a run stands between two steps: the steps that are finished, and the run of those to come.
use Prim.Native.Nat.{ℕ, zero, suc, ◌-◌, ◌≤◌, ◌<◌}
use mathlib.Core.Path.{◌≡◌, refl, ap, ◌∙◌}
use mathlib.Core.Bool.{Bool, true, false, cond}
use mathlib.Core.List.{List, [], ◌∷◌, ◌++◌, append-nil, append_assoc}
use mathlib.Core.Option.{Option, none, some}
use native.Mathlib.Omega.{arith}
use native.Mathlib.Nat.{sub-zero}
use lib.ListN.{length, take, drop, length-append, take-append-drop, drop_of_length-le}
use lib.Seq.{drop-length}
use Rattle.register.specs.Shape.{Valid}
use Rattle.register.specs.declared.Sizes.{Sizes}
use Rattle.register.specs.declared.cells.Cell.{Cell}
use Rattle.program.specs.Program.{Step, Program}
use Rattle.program.specs.Passed.{open_behind, Loops, StepPasses, ProgramPasses}
use Rattle.laws.proofs.Lists.{each_back}
use Rattle.machine.specs.Step.{step_cells, Offence, offence}
use Rattle.machine.specs.Run.{Reader, direct, Pass, begins, goes_on, entered, following, Ending, complete, exhausted, offended, Run, behind, unless_offended, step_first, run_from, run}
use Rattle.machine.proofs.Keeping.{step_cells-valid}
use Rattle.machine.proofs.Direct.{direct_refers}
use Rattle.machine.proofs.RunningPass.{open_before, fits-before, begins_outside, back_outside, pass_from, entered-drop, following-drop}

-- the finished steps of a run, each with the cells before it
abbrev pub Trace : Type 0
Trace = List (Step × List Cell)

-- a run with finished steps in front
unfoldable pub prepend : Trace → Run → Run
prepend t r = record { cells = r.cells; trace = t ++ r.trace; ending = r.ending }

pub prepend-append : (t u : Trace) (r : Run) → prepend t (prepend u r) ≡ prepend (t ++ u) r
unfolding prepend
prepend-append t u r = rw append_assoc

-- The run of p from the cells `start` on has finished the steps of `trace`, is before `step` and holds `cells`. The pass of
-- the loop around, if there is one, began with step `first` over the cells `before`.
pub record Running (s : Sizes) (p : Program) (budget : ℕ) (start : List Cell) (step first finished : ℕ) (trace : Trace) (around : Option ℕ)
    (before cells : List Cell) : Type 0 where
  pub count : length trace ≡ finished
  pub within : finished ≤ budget
  pub so_far :
      run s (direct s) p budget start
      ≡ prepend trace (run_from s (direct s) (budget - finished) (drop step p) (pass_from p first before) cells)
  pub loops : Loops around (drop step p) none
  pub back : Loops none (drop first p) none
  pub valid : Valid s cells

-- no step is finished, and no loop is around: `first` is behind the last step
pub running_start : {s : Sizes} {p : Program} {budget : ℕ} {cells : List Cell} → ProgramPasses s p → Valid s cells
    → Running s p budget cells 0 (length p) 0 [] none [] cells
unfolding run prepend
running_start k v = record {
  count = refl;
  within = omega arith;
  so_far = rw (drop-length, sub-zero);
  loops = k.loops;
  back = rw drop-length refl;
  valid = v;
}

-- the run of no steps
run_from-none : (s : Sizes) (reader : Reader) (b : ℕ) (pass : Pass) (cells : List Cell)
    → run_from s reader b [] pass cells ≡ record { cells = cells; trace = []; ending = complete }
unfolding run_from step_first
run_from-none s reader zero pass cells = refl
run_from-none s reader (suc b) pass cells = refl

-- the run of steps of which the first does not stop
run_from-step : (s : Sizes) (reader : Reader) (b : ℕ) {steps : List Step} (pass : Pass) (cells : List Cell) {x : Step} {rest : List Step} → steps ≡ x ∷ rest
    → offence s (reader x.rules cells) x.rules cells ≡ none
    → let cells' = step_cells s (reader x.rules cells) x.rules cells in
    let pass' = entered x.setting steps cells pass in
    run_from s reader (suc b) steps pass cells
    ≡ prepend ((x, cells) ∷ []) (run_from s reader b (following s x.setting rest cells' pass') pass' cells')
unfolding run_from step_first unless_offended behind prepend
run_from-step s reader b pass cells here go_on = rw (here, go_on)

-- what holds of each arm where its test does
cond_cases : {A : Type 0} (P : A → Type 0) (b : Bool) (x y : A) → (b ≡ true → P x) → (b ≡ false → P y) → P (cond b x y)
cond_cases P true x y h k = h refl
cond_cases P false x y h k = k refl

module _ {s : Sizes} {p : Program} {budget : ℕ} {start : List Cell} {step first finished : ℕ} {trace : Trace} {around : Option ℕ}
    {before cells : List Cell} (r : Running s p budget start step first finished trace around before cells) where
  -- the run ends here
  running_end : {e : Ending}
      → run_from s (direct s) (budget - finished) (drop step p) (pass_from p first before) cells
      ≡ record { cells = cells; trace = []; ending = e }
      → run s (direct s) p budget start ≡ record { cells = cells; trace = trace; ending = e }
  unfolding prepend
  running_end h = r.so_far ∙ ap (prepend trace) h ∙ rw append-nil

  -- no step is left
  pub running_complete : length p ≤ step → run s (direct s) p budget start ≡ record { cells = cells; trace = trace; ending = complete }
  running_complete l = running_end (rw (drop_of_length-le p l) (run_from-none s (direct s) (budget - finished) _ cells))

  -- x is the next step
  module _ {x : Step} (here : drop step p ≡ x ∷ drop (suc step) p) where
    -- the loop that is open before it is around
    pub running_around : around ≡ open_before x.setting
    running_around = fits-before around x.setting (rw here at r.loops).0

    -- it passes, as the whole program does
    pub running_passes : ProgramPasses s p → StepPasses s x
    running_passes k = (rw here at (each_back (StepPasses s) (take step p) (drop step p) (rw take-append-drop k.each))).0

    -- the budget is spent
    pub running_exhausted : finished ≡ budget → run s (direct s) p budget start ≡ record { cells = cells; trace = trace; ending = exhausted }
    unfolding run_from
    running_exhausted e = let none_left : budget - finished ≡ 0 = omega arith in running_end (rw (none_left, here))

    -- x stops
    pub running_offended : finished < budget → {o : Offence} → offence s (direct s x.rules cells) x.rules cells ≡ some o
        → run s (direct s) p budget start ≡ record { cells = cells; trace = trace; ending = offended o }
    unfolding run_from step_first unless_offended
    running_offended more stop = let left : budget - finished ≡ suc (budget - suc finished) = omega arith in running_end (rw (left, here, stop))

    -- behind x, the loops from the first step of the pass on
    first_loops : Loops none (drop (cond (begins x.setting) step first) p) none
    first_loops =
        cond_cases (λ i. Loops none (drop i p) none) (begins x.setting) step first
        (λ e. rw (running_around ∙ begins_outside x.setting e) at r.loops)
        (λ e. r.back)

    -- and from the next step on
    next_loops : (before' cells' : List Cell)
        → Loops (open_behind x.setting) (drop (cond (goes_on s x.setting before' cells') (suc step) (cond (begins x.setting) step first)) p) none
    next_loops before' cells' =
        cond_cases (λ i. Loops (open_behind x.setting) (drop i p) none) (goes_on s x.setting before' cells') (suc step) _
        (λ e. (rw here at r.loops).1)
        (λ e. rw (back_outside s x.setting before' cells' e) first_loops)

    -- x is finished
    pub running_step : finished < budget → ProgramPasses s p → offence s (direct s x.rules cells) x.rules cells ≡ none
        → let cells' = step_cells s (direct s x.rules cells) x.rules cells in
        let first' = cond (begins x.setting) step first in
        let before' = cond (begins x.setting) cells before in
        let step' = cond (goes_on s x.setting before' cells') (suc step) first' in
        Running s p budget start step' first' (suc finished) (trace ++ ((x, cells) ∷ [])) (open_behind x.setting) before' cells'
    running_step more k go_on =
        let left : budget - finished ≡ suc (budget - suc finished) = omega arith in
        let one = run_from-step s (direct s) (budget - suc finished) (pass_from p first before) cells here go_on in
        record {
          count = simp length-append (omega arith);
          within = more;
          so_far = r.so_far ∙ ap (prepend trace) (rw left (simp (entered-drop, following-drop) at one)) ∙ prepend-append trace _ _;
          loops = next_loops _ _;
          back = first_loops;
          valid = step_cells-valid r.valid (running_passes k).rules (direct s x.rules cells) (λ u w l h. direct_refers r.valid x.rules u l w h) go_on;
        }
