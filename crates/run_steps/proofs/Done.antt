-- The end of a turn: what the step's rules leave, where a sum or total stops it, and where the run stands behind it.
use Prim.Native.Nat.{ℕ, suc, ◌+◌, ◌≤◌, ◌<◌}
use mathlib.Core.Path.{◌≡◌, refl, sym, ap, subst, ◌∙◌}
use mathlib.Core.Bool.{Bool, false}
use mathlib.Core.List.{List}
use native.Mathlib.Omega.{arith}
use lib.IntN.{ℤ, pos}
use lib.ListN.{length, get_or}
use lib.Seq.{get_or-take}
use Rattle.register.specs.File.{width, cell_count, cell_index}
use Rattle.register.specs.declared.Sizes.{Sizes}
use Rattle.register.specs.declared.cells.Cell.{Cell}
use Rattle.register.specs.declared.cells.Cell.TheVariants.{Missing}
use Rattle.program.specs.declared.location.Located.{Located}
use Rattle.program.specs.declared.frame.Frame.{Frame}
use Rattle.program.specs.declared.setting.Setting.{Setting}
use Rattle.program.specs.Kept.{program_of}
use Rattle.program.specs.declared.Program as R
use Rattle.machine.specs.Run.{direct}
use Rattle.machine.specs.declared.message.Message.{Message}
use Rattle.machine.specs.Remote.{record_messages}
use Rattle.machine.specs.Step.{step_cells}
use Rattle.machine.proofs.Untouched.{step_untouched}
use Rattle.machine.proofs.Folding.{step_cells-length}
use Rattle.machine.proofs.Stops.{offence-sum}
use Rattle.machine_messages.specs.declared.Machine.{Machine}
use Rattle.scratch.specs.Places.{Kept}
use Rattle.scratch.proofs.Placed.{kept_again}
use Rattle.step_cells.specs.Work.{HoldsCells, Same}
use Rattle.std.specs.Prelude.{Ok, Err}
use Rattle.step_cells.specs.Stop.{Stop}
use Rattle.step_cells.specs.declared.stop.Offence.{Offence}
use Rattle.step_cells.proofs.Working.{same_refl, same_then, proper-held}
use Rattle.step_rules.specs.Delivered.{Delivers, Delivered, AllSend}
use Rattle.step_rules.specs.Stepped.{GoesThrough}
use Rattle.step_rules.proofs.Remotes.{silent_step}
use Rattle.step_rules.proofs.Stepping.{AllDone, all_done, goes_through, total-stops}
use Rattle.step_commit.specs.Committed.{is_written, AllCommitted, Committed}
use Rattle.step_commit.proofs.Committing.{stop_first, committed-in_range, committed-file}
use Rattle.run_turn.specs.declared.Progress.{Progress}
use Rattle.run_turn.specs.declared.Begun.{Begun}
use Rattle.run_turn.specs.Turned.{sends_by, EndReady, StepCounted, StepEnded, FinishedBy}
use Rattle.run_turn.proofs.Turning.{not-both}
use Rattle.run_steps.specs.Answer.{stopped_at, Ends}
use Rattle.run_steps.proofs.Bounds.{few-more, writes-few}
use Rattle.run_steps.proofs.Finding.{followed}
use Rattle.run_steps.proofs.Counting.{counts_step}
use Rattle.run_steps.proofs.Standing.{Behind, Stands, stands_offended, stands-next, passed-column, StandsBy, turns, turns-nearer}
use Rattle.run_steps.proofs.Turn.{Turn, frame, at, base, cells, inside, step_here, rs, at-step, step-passes, limits, out_whole, few-steps, setting_passes, Prepared, ls}
use Rattle.run_steps.proofs.Turn.{rules_taken, filled, lines-before, lines-few, step_room, step-working, step_sends, room_still, agrees_still, Applied}

-- what stands below `base` is kept
kept-below : {base j : ℕ} {values values' : List ℤ} {marks marks' : List ℕ} → j < base → Same base values marks values' marks'
    → Kept j values marks values' marks'
kept-below {base} {j} {values} {values'} {marks} {marks'} h a =
    record {
      value-is = sym (get_or-take base values' j (pos 0) h) ∙ ap (λ (l : List ℤ). get_or l j (pos 0)) a.values_same ∙ get_or-take base values j (pos 0) h;
      mark_is = sym (get_or-take base marks' j 0 h) ∙ ap (λ (l : List ℕ). get_or l j 0) a.marks_same ∙ get_or-take base marks j 0 h;
    }

-- the end of a step with what its beginning carries
ended_as : {m m' : Machine} {s : Sizes} {at at' : ℕ} {fields : List Bool} {g g' : Setting} {begun : Begun} {remote remote' : Bool} {sent : ℕ}
    {values : List ℤ} {marks : List ℕ} {file file' : List ℕ} {run r : Progress} → m ≡ m' → at ≡ at' → g ≡ g' → remote ≡ remote'
    → StepEnded m s at fields g begun remote sent values marks file file' run r
    → StepEnded m' s at' fields g' begun remote' sent values marks file file' run r
ended_as a b c d h = rw (a, b, c, d) at h

module _ {m : Machine} {s : Sizes} {codes : List ℕ} {p : R.Program} {budget : ℕ} {file : List ℕ} {run : Progress}
    {out : List ℕ} {values : List ℤ} {marks : List ℕ} {f : Frame} {a : Turn m s codes p budget file run out values marks f}
    {places : List Located} {values₂ : List ℤ} {marks₂ : List ℕ} {begun : Begun} where
  -- a local sum is out of range
  ends_local : (b : Prepared a places values₂ marks₂ begun) {values₃ : List ℤ} {marks₃ : List ℕ} {stop : Stop} → Applied b values₃ marks₃ stop
      → {o : Offence} → stop ≡ Err o → Ends m s (program_of codes p) budget file out (stopped_at run.finished run.counts o.row o.column)
  unfolding direct
  ends_local b h {o} e =
      stands_offended a.stands (inside a) a.later (offence-sum s (direct s (rs a) (cells a)) (rs a) (cells a) (rw (rules_taken b) at (h.stops o e)))

  -- the rules of the step are done, local and remote, where none stops
  pub record Done (b : Prepared a places values₂ marks₂ begun) (stop : Stop) (values₄ : List ℤ) (marks₄ : List ℕ) (sent : ℕ) : Type 0 where
    pub same : Same (base a) values₂ marks₂ values₄ marks₄
    pub all : stop ≡ Ok tt → AllDone s (followed s (cells a)) (cells a) (base a) (rs a) values₄ marks₄ sent

  module _ {b : Prepared a places values₂ marks₂ begun} {stop : Stop} {values₃ values₄ : List ℤ} {marks₃ marks₄ : List ℕ} {sent : ℕ}
      (l : Applied b values₃ marks₃ stop) where
    delivers : Same (base a) values₃ marks₃ values₄ marks₄ → (stop ≡ Ok tt → Delivers s (base a) (record_messages (followed s (cells a)) (ls b) s.records) values₃ marks₃ values₄ marks₄ 0 sent)
        → Done b stop values₄ marks₄ sent
    delivers k d = record {
      same = same_then l.same k;
      all = λ e.
          all_done s (followed s (cells a)) (cells a) (rs a) a.stands.register.valid.count (step-working b) (rw (rules_taken b) at (l.all e))
          (rw (rules_taken b) at (d e));
    }

    -- they are those that the places tell
    pub done_remote : {values' : List ℤ} {marks' : List ℕ} {sent' : ℕ}
        → Delivered s (base a) (AllSend s (cells a) values₃ marks₃ (base a) codes (frame a).rules places (λ read. record_messages read (ls b) s.records))
        values₃ marks₃ values' marks' 0 sent'
        → values₄ ≡ values' → marks₄ ≡ marks' → sent ≡ sent' → Done b stop values₄ marks₄ sent
    done_remote {values'} {marks'} {sent'} d v k n =
        delivers (rw (v, k) d.delivers.same) (λ e.
        let told = d.tells (followed s (cells a)) (agrees_still b l.same) (l.all e).in_range in
        rw (v, k, n) (subst (λ (ms : List Message). Delivers s (base a) ms values₃ marks₃ values' marks' 0 sent') told d.delivers))

    pub done_local : sends_by stop (frame a).remote ≡ false → values₄ ≡ values₃ → marks₄ ≡ marks₃ → sent ≡ 0 → Done b stop values₄ marks₄ sent
    done_local none v k n =
        delivers (rw (v, k) same_refl) (λ e. rw (v, k, n) (silent_step s (followed s (cells a)) (ls b) (sym (step_sends b) ∙ (rw e at none))))

  module _ {b : Prepared a places values₂ marks₂ begun} {stop : Stop} {values₄ : List ℤ} {marks₄ : List ℕ} {sent : ℕ}
      (d : Done b stop values₄ marks₄ sent) (e : stop ≡ Ok tt) where
    -- the cells behind the step
    abbrev after : List Cell
    after = step_cells s (direct s (rs a) (cells a)) (rs a) (cells a)

    after_count : length after ≡ cell_count s
    after_count = step_cells-length s (direct s (rs a) (cells a)) (rs a) (cells a) ∙ a.stands.register.valid.count

    after_held : HoldsCells (base a) after values₄ marks₄
    unfolding direct
    after_held = (d.all e).holds

    -- no other column than those of the step's fields has changed
    untouched : (u c : ℕ) → u < s.records → c < width s → is_written s (frame a).fields c ≡ false
        → get_or after (cell_index s u c) Missing ≡ get_or (cells a) (cell_index s u c) Missing
    untouched u c row col w =
        step_untouched s (limits a) (direct s (rs a) (cells a)) (rs a) (cells a) (step-passes a).rules.each u c col (sym ((at-step a).frame.fields_are _) ∙ w)

    -- a total is out of range
    ends_total : {out' : List ℕ} {o : Offence} → Committed s (base a) (frame a).fields values₄ marks₄ out out' (Err o)
        → Ends m s (program_of codes p) budget file out' (stopped_at run.finished run.counts o.row o.column)
    unfolding direct
    ends_total h =
        stands_offended a.stands (inside a) a.later (total-stops s (followed s (cells a)) out (rs a) (d.all e) (stop_first s after after_count (base a) after_held h))

    -- or the step goes through
    goes : {out' : List ℕ} → AllCommitted s (base a) (frame a).fields values₄ marks₄ out out'
        → GoesThrough s (direct s (rs a) (cells a)) (rs a) out out' (base a) values₄ marks₄ sent
    unfolding direct
    goes c =
        goes_through s (followed s (cells a)) out (rs a) (d.all e) (committed-in_range s after after_count (base a) after_held a.stands.register untouched c)
        (committed-file s after after_count (base a) after_held a.stands.register untouched c)

    -- the column of the loop stands where it stood
    column_kept : (u : ℕ) → u < s.records → Kept (at a + u) b.begins.values₁ b.begins.marks₁ values₄ marks₄
    column_kept u h = kept_again ((filled b).behind (at a + u) (omega (arith, lines-before b))) (kept-below {j = at a + u} (omega arith) d.same)

    room_behind : Behind s (at a) values₄ marks₄
    room_behind =
        let room = step_room b in
        record {
          values_room = omega (arith, room.values_room, d.same.values_length);
          marks_room = omega (arith, room.marks_room, d.same.marks_length);
        }

    -- so many remote messages are sent at most
    sent-few : sent ≤ 131072
    unfolding direct
    sent-few = writes-few (direct s (rs a) (cells a)) (rs a) s.records sent (step-passes a).rules.few (limits a).records≤ (d.all e).sent_is

    -- what the end of the step asks for
    pub ready : budget < 65536 → EndReady s begun.at begun.setting begun sent values₄ marks₄ out run
    ready h =
        let few = a.stands.few in
        rw (b.begins.at_is, b.begins.setting_is) (record {
          limits = limits a;
          whole = out_whole a;
          setting_passes = setting_passes a;
          has_pass = passed-column a.stands (inside a) (at-step a).setting_is b.begins.entered column_kept;
          room = room_still b d.same;
          proper = proper-held after_count after_held;
          few-steps = few-steps a;
          few_finished = omega (arith, a.later);
          counts_small = (
            omega (arith, few.exchanges≤, a.later),
            omega (arith, few.messages≤, a.later),
            omega (arith, b.begins.gathered.few_exchanges),
            omega (arith, lines-few b),
            omega (arith, sent-few),
          );
        })

    -- the step went through, and this is where the run stands then
    next-stands : {r : Progress} {out' : List ℕ} → AllCommitted s (base a) (frame a).fields values₄ marks₄ out out' → length out' ≡ length out
        → StepCounted m s (at a) (frame a).setting begun (frame a).remote sent values₄ marks₄ out' run r
        → Stands m s (program_of codes p) (at a) budget file r.step r.first r.finished r.counts out' values₄ marks₄
    next-stands h n c =
        let t = a.stands in
        let holds = (at-step a).frame in
        let through = goes h in
        let gathered = b.begins.gathered in
        stands-next t (inside a) (at-step a).setting_is b.begins.entered column_kept through a.later a.passes n room_behind
        (c.first_is ∙ b.begins.first_is) (rw c.first_is c.next) c.finished_is
        (c.counts_are ∙ counts_step m t.trace (step_here a) (step-passes a).rules t.register.valid t.counts_are gathered.counted
        holds.holds.facts_are holds.remote_is through.sent_is)
        (rw c.counts_are (few-more m begun.gathered (frame a).remote t.few gathered.few_exchanges (lines-few b) sent-few))

  -- where the run stands behind the turn, and that it comes to its end
  module _ {b : Prepared a places values₂ marks₂ begun} {stop : Stop} {values₃ values₄ : List ℤ} {marks₃ marks₄ : List ℕ} {sent : ℕ}
      (l : Applied b values₃ marks₃ stop) (d : Done b stop values₄ marks₄ sent) {r : Progress} {out' : List ℕ}
      (h : FinishedBy stop s begun (frame a).fields sent values₄ marks₄ out out' run r) where
    pub turn-stands : length out' ≡ length out → StandsBy m s (program_of codes p) (at a) budget file r out' values₄ marks₄
    turn-stands n = go stop refl
      where
        go : (x : Stop) → stop ≡ x → StandsBy m s (program_of codes p) (at a) budget file r out' values₄ marks₄
        go (Ok done) e =
            let end = ended_as b.begins.machine_is b.begins.at_is b.begins.setting_is b.begins.remote_is (h.ended e) in
            record {
              stands = λ w. next-stands d e (rw w at end.committed) n (end.counted w);
              stopped = λ o w. rw (end.uncounted o w) (ends_total d e (rw w at end.committed));
            }
        go (Err o) e =
            let (same, is) = h.stays o e in
            rw (same, is) (record { stands = λ w. not-both w refl; stopped = λ q w. ends_local b l (e ∙ w) })

    pub turn-nearer : turns budget r < turns budget run
    turn-nearer = turns-nearer budget run r a.nowhere a.later (λ w. go w stop refl)
      where
        go : r.stop ≡ Ok tt → (x : Stop) → stop ≡ x → r.finished ≡ suc run.finished
        go w (Ok done) e = ((h.ended e).counted w).finished_is
        go w (Err o) e = not-both w (ap (λ (x : Progress). x.stop) (h.stays o e).1)
