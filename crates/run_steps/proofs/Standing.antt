-- Where the run's loop stands: the register in the output, the column of the loop around in the buffers, and how it ends.
use Prim.Native.Nat.{ℕ, suc, ◌-◌, ◌+◌, ◌*◌, ◌≤◌, ◌<◌}
use mathlib.Core.Path.{◌≡◌, refl, sym, ap, ap₂, subst, ◌∙◌}
use mathlib.Core.Bool.{Bool, true, false, cond}
use mathlib.Core.List.{List, [], ◌∷◌, ◌++◌}
use mathlib.Core.Option.{Option, none, some}
use mathlib.Core.Logic.{⊎_elim}
use native.Mathlib.Omega.{arith}
use native.Mathlib.Nat.{mul_comm, mul-add, mul-le-mul_right}
use lib.IntN.{ℤ}
use lib.ListN.{length, get_or, drop}
use lib.Seq.{drop-cons}
use Rattle.laws.proofs.Bools.{true_false}
use Rattle.laws.proofs.Cases.{lt_or_le}
use Rattle.register.specs.File.{width, cell_count, file_of, cells_of_file}
use Rattle.register.specs.Shape.{Register}
use Rattle.register.specs.declared.Sizes.{Sizes}
use Rattle.register.specs.declared.cells.Cell.{Cell}
use Rattle.register.proofs.Roundtrip.{decode_encode}
use Rattle.program.specs.declared.setting.Setting.{Setting}
use Rattle.program.specs.declared.setting.Setting.TheVariants.{Single, Looped}
use Rattle.program.specs.Program.{Step, Program}
use Rattle.program.specs.Passed.{open_behind, ProgramPasses}
use Rattle.machine.specs.Step.{step_cells, offence}
use Rattle.machine.specs.Run.{begins, goes_on, direct, scratch}
use Rattle.machine.proofs.RunningPass.{open_before}
use Rattle.machine.proofs.Running.{Trace, Running, running_start, running_complete, running_around, running_exhausted, running_offended, running_step}
use Rattle.scratch.specs.Places.{Kept}
use Rattle.scratch.proofs.Placed.{place_at-kept}
use Rattle.step_cells.specs.Work.{HoldsCells}
use Rattle.step_rules.specs.Stepped.{GoesThrough}
use Rattle.run_loop.specs.Column.{LoopColumn, InPass, HasPass, Entered, NextIs}
use Rattle.machine_messages.specs.declared.Machine.{Machine}
use Rattle.gather.specs.Counted.{no_counts}
use Rattle.run_steps.specs.Answer.{counts_of, ended_with, stopped_at, AnswerIs, Scratch, Ends}
use Rattle.run_steps.specs.declared.RunAnswer.{RunAnswer}
use Rattle.gather.specs.declared.counts.Counts.{Counts}
use Rattle.std.specs.Prelude.{Ok, Err}
use Rattle.step_cells.specs.Stop.{Stop}
use Rattle.step_cells.specs.declared.stop.Offence.{Offence}
use Rattle.run_turn.specs.declared.Progress.{Progress}
use Rattle.run_turn.specs.Turned.{GoesOn}
use Rattle.run_steps.proofs.Counting.{counts_none}
use Rattle.run_steps.proofs.Bounds.{Few}

-- what a place behind the last step would hold
abbrev pub no_step : Step
no_step = record { rules = []; setting = Single }

-- the room for the lines, the column and the working cells
scratch-is : (s : Sizes) (lines : ℕ) → scratch s lines ≡ lines * s.records + s.records + cell_count s
unfolding scratch cell_count
scratch-is s lines =
    let n = s.records in
    omega (arith, mul-add n (lines + width s) 1, mul-add n lines (width s), mul_comm lines n)

-- room for the column at `at` and the working cells behind it
pub record Behind (s : Sizes) (at : ℕ) (values : List ℤ) (marks : List ℕ) : Type 0 where
  pub values_room : at + s.records + cell_count s ≤ length values
  pub marks_room : at + s.records + cell_count s ≤ length marks

-- the lines end early enough, and the scratch buffers have that room
pub lines_end : (s : Sizes) {lines : ℕ} → lines ≤ 64 → s.records ≤ 4096 → lines * s.records ≤ 262144
lines_end s few k = omega (arith, mul-le-mul_right s.records few, k)

pub scratch-behind : {s : Sizes} {lines : ℕ} {values : List ℤ} {marks : List ℕ} → Scratch s lines values marks → Behind s (lines * s.records) values marks
scratch-behind {s} {lines} t =
    let is = scratch-is s lines in
    record { values_room = omega (arith, is, t.values_room); marks_room = omega (arith, is, t.marks_room) }

-- before step `step` of the program p
pub record Stands (m : Machine) (s : Sizes) (p : Program) (at budget : ℕ) (file : List ℕ) (step first finished : ℕ) (counts : Counts)
    (out : List ℕ) (values : List ℤ) (marks : List ℕ) : Type 0 where
  pub trace : Trace
  pub around : Option ℕ
  pub before : List Cell
  pub running : Running s p budget (cells_of_file s file) step first finished trace around before (cells_of_file s out)
  pub counts_are : counts ≡ counts_of m s trace
  pub few : Few finished counts
  pub register : Register s out
  pub working : HoldsCells (at + s.records) (cells_of_file s out) values marks
  pub room : Behind s at values marks
  pub column : (f : ℕ) → around ≡ some f → LoopColumn s f before at values marks

some_is : {i j : ℕ} → some i ≡ some j → i ≡ j
some_is e = cc

-- the column stays where its places do
pass_kept : (s : Sizes) (at : ℕ) {values values' : List ℤ} {marks marks' : List ℕ} → ((u : ℕ) → u < s.records → Kept (at + u) values marks values' marks')
    → (g : Setting) (before : List Cell) → InPass s g before at values marks → InPass s g before at values' marks'
pass_kept s at k Single before h = tt
pass_kept s at k (Looped f first last) before h = record {
  column = record { fits = λ u l. rw (k u l).value-is (h.column.fits u l) };
  place_is = λ u l. place_at-kept (k u l) ∙ h.place_is u l;
}

has_pass : (s : Sizes) (g : Setting) (before : List Cell) (at : ℕ) (values : List ℤ) (marks : List ℕ) → InPass s g before at values marks
    → HasPass s g at values
has_pass s Single before at values marks h = tt
has_pass s (Looped f first last) before at values marks h = h.column

module _ {m : Machine} {s : Sizes} {p : Program} {at budget : ℕ} {file : List ℕ} where
  pub stands-start : {values : List ℤ} {marks : List ℕ} → Register s file → HoldsCells (at + s.records) (cells_of_file s file) values marks
      → Behind s at values marks → ProgramPasses s p → {steps : ℕ} → steps ≡ length p → Stands m s p at budget file 0 steps 0 no_counts file values marks
  stands-start g w c q e = record {
    trace = [];
    around = none;
    before = [];
    running = rw e (running_start q g.valid);
    counts_are = counts_none m s;
    few = record { exchanges≤ = omega arith; messages≤ = omega arith };
    register = g;
    working = w;
    room = c;
    column = λ f e. absurd (let z : ◌≡◌ {A = ℕ} 0 1 = cc in omega arith);
  }

  module _ {step first finished : ℕ} {counts : Counts} {out : List ℕ} {values : List ℤ} {marks : List ℕ}
      (t : Stands m s p at budget file step first finished counts out values marks) where
    -- no step is left
    pub stands-complete : length p ≤ step → Ends m s p budget file out (ended_with 0 finished counts)
    stands-complete l =
        let e = running_complete t.running l in
        record { finished_is = rw e (sym t.running.count); counts_are = rw e t.counts_are; ends_by = rw e (refl, t.register.file-is) }

    module _ (l : step < length p) where
      -- the step that comes next
      abbrev pub here : Step
      here = get_or p step no_step

      pub comes : drop step p ≡ here ∷ drop (suc step) p
      comes = drop-cons p step no_step l

      -- the budget is spent
      pub stands_exhausted : finished ≡ budget → Ends m s p budget file out (ended_with 20 finished counts)
      stands_exhausted q =
          let e = running_exhausted t.running comes q in
          record { finished_is = rw e (sym t.running.count); counts_are = rw e t.counts_are; ends_by = rw e refl }

      -- a sum or total is out of range
      pub stands_offended : finished < budget → {out' : List ℕ} {u c : ℕ}
          → offence s (direct s here.rules (cells_of_file s out)) here.rules (cells_of_file s out) ≡ some (record { row = u; column = c })
          → Ends m s p budget file out' (stopped_at finished counts u c)
      stands_offended b o =
          let e = running_offended t.running comes b o in
          record { finished_is = rw e (sym t.running.count); counts_are = rw e t.counts_are; ends_by = rw e refl }

      -- the column of the loop that the step stands in, where its pass has begun before
      pub in_pass : {g : Setting} → here.setting ≡ g → begins g ≡ false → InPass s g t.before at values marks
      in_pass {g} q = go g (running_around t.running comes ∙ ap open_before q)
        where
          go : (g : Setting) → t.around ≡ open_before g → begins g ≡ false → InPass s g t.before at values marks
          go Single e h = tt
          go (Looped f true last) e h = true_false refl h
          go (Looped f false last) e h = t.column f e

      -- one step is done: its pass was entered, its rules run, and the next step found
      module _ {g : Setting} {values₁ values₂ : List ℤ} {marks₁ marks₂ : List ℕ} (q : here.setting ≡ g)
          (entered : Entered s g (cells_of_file s out) at values marks values₁ marks₁)
          (kept : (u : ℕ) → u < s.records → Kept (at + u) values₁ marks₁ values₂ marks₂) where
        abbrev before' : List Cell
        before' = cond (begins g) (cells_of_file s out) t.before

        abbrev trace' : Trace
        trace' = t.trace ++ ((here, cells_of_file s out) ∷ [])

        stepped_pass : InPass s g before' at values₂ marks₂
        stepped_pass = pass_kept s at kept g before' (entered.in_pass t.before (in_pass q))

        pub passed-column : HasPass s g at values₂
        passed-column = has_pass s g before' at values₂ marks₂ stepped_pass

        behind-column : (g : Setting) (i : ℕ) → open_behind g ≡ some i → InPass s g before' at values₂ marks₂ → LoopColumn s i before' at values₂ marks₂
        unfolding open_behind
        behind-column Single i o h = absurd (let z : ◌≡◌ {A = ℕ} 0 1 = cc in omega arith)
        behind-column (Looped f first true) i o h = absurd (let z : ◌≡◌ {A = ℕ} 0 1 = cc in omega arith)
        behind-column (Looped f first false) i o h = subst (λ (j : ℕ). LoopColumn s j before' at values₂ marks₂) (some_is o) h

        pub stands-next : {out' : List ℕ} {sent : ℕ}
            → GoesThrough s (direct s here.rules (cells_of_file s out)) here.rules out out' (at + s.records) values₂ marks₂ sent
            → finished < budget → ProgramPasses s p → length out' ≡ length out → Behind s at values₂ marks₂ → {first' next finished' : ℕ} {counts' : Counts} → first' ≡ cond (begins g) step first
            → NextIs s g (cells_of_file s out') at values₂ marks₂ step first' next → finished' ≡ suc finished
            → counts' ≡ counts_of m s trace' → Few (suc finished) counts'
            → Stands m s p at budget file next first' finished' counts' out' values₂ marks₂
        stands-next {out'} through b k n room {first'} {next} {finished'} f follows c counted few =
            let cells = cells_of_file s out in
            let after = step_cells s (direct s here.rules cells) here.rules cells in
            let first_is = cond (begins g) step first in
            let r : Running s p budget (cells_of_file s file) (cond (goes_on s g before' after) (suc step) first_is) first_is (suc finished) trace'
            (open_behind g) before' after =
            subst
            (λ (x : Setting).
            Running s p budget (cells_of_file s file) (cond (goes_on s x (cond (begins x) cells t.before) after) (suc step) (cond (begins x) step first))
            (cond (begins x) step first) (suc finished) trace' (open_behind x) (cond (begins x) cells t.before) after) q
            (running_step t.running comes b k through.stops_not) in
            let cells_are : cells_of_file s out' ≡ after = ap (cells_of_file s) through.file-is ∙ decode_encode s after r.valid in
            let next_is : next ≡ cond (goes_on s g before' after) (suc step) first_is =
            follows.next_is before' stepped_pass ∙ ap₂ (λ (cs : List Cell) (i : ℕ). cond (goes_on s g before' cs) (suc step) i) cells_are f in
            record {
              trace = trace';
              around = open_behind g;
              before = before';
              running = rw (next_is, f, c, cells_are) r;
              counts_are = counted;
              few = rw c few;
              register = record {
                valid = rw cells_are r.valid;
                file-is = through.file-is ∙ ap (file_of s) (sym cells_are);
                whole = n ∙ t.register.whole;
              };
              working = rw cells_are through.holds;
              room = room;
              column = λ i o. behind-column g i o stepped_pass;
            }

-- how far the run has come: it stands before a step, or has stopped at one
pub record StandsBy (m : Machine) (s : Sizes) (p : Program) (at budget : ℕ) (file : List ℕ) (run : Progress) (out : List ℕ) (values : List ℤ) (marks : List ℕ)
    : Type 0 where
  pub stands : run.stop ≡ Ok tt → Stands m s p at budget file run.step run.first run.finished run.counts out values marks
  pub stopped : (o : Offence) → run.stop ≡ Err o → Ends m s p budget file out (stopped_at run.finished run.counts o.row o.column)

-- the turns that the budget allows
abbrev turns_left : Stop → ℕ → ℕ
turns_left (Ok done) n = suc n
turns_left (Err o) n = 0

abbrev pub turns : ℕ → Progress → ℕ
turns budget run = turns_left run.stop (budget - run.finished)

pub turns-nearer : (budget : ℕ) (run r : Progress) → run.stop ≡ Ok tt → run.finished < budget → (r.stop ≡ Ok tt → r.finished ≡ suc run.finished)
    → turns budget r < turns budget run
turns-nearer budget run r n l f = rw n (go r.stop refl)
  where
    go : (x : Stop) → r.stop ≡ x → turns_left x (budget - r.finished) < suc (budget - run.finished)
    go (Ok done) e = omega (arith, f e, l)
    go (Err o) e = omega arith

-- there is no further turn: the run has stopped, no step is left, or the budget is spent
module _ {m : Machine} {s : Sizes} {p : Program} {at budget : ℕ} {file : List ℕ} {run : Progress} {out : List ℕ} {values : List ℤ} {marks : List ℕ}
    (a : StandsBy m s p at budget file run out values marks) {steps : ℕ} (n : steps ≡ length p) {goes : Bool} (g : GoesOn run steps budget goes)
    (f : goes ≡ false) where
  pub ends_by : {r : RunAnswer} → AnswerIs run.stop run.step steps run.finished run.counts r → Ends m s p budget file out r
  ends_by {r} h = go run.stop refl
    where
      go : (x : Stop) → run.stop ≡ x → Ends m s p budget file out r
      go (Ok done) e =
          let (more, complete) = rw e at h in
          let t = a.stands e in
          ⊎_elim
          (λ l. rw (more l) (stands_exhausted t (omega (arith, n)) (g.ends f e l)))
          (λ l. rw (complete l) (stands-complete t (omega (arith, n))))
          (lt_or_le run.step steps)
      go (Err o) e = rw (rw e at h) (a.stopped o e)
