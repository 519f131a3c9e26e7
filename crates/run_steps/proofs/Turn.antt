-- One turn of the run's loop: what the step at hand asks for, until its readings are gathered.
use Prim.Native.Nat.{ℕ, zero, suc, ◌+◌, ◌*◌, ◌≤◌, ◌<◌}
use mathlib.Core.Path.{◌≡◌, refl, sym, ap, subst, ◌∙◌}
use mathlib.Core.Bool.{Bool, true, ◌&&◌}
use mathlib.Core.List.{List, [], ◌∷◌, map}
use native.Mathlib.Omega.{arith}
use native.Mathlib.Nat.{mul-le-mul_right}
use lib.IntN.{ℤ}
use lib.ListN.{length, get_or, take, set, length-set}
use lib.Seq.{get_or-set_same, take-suc-set}
use Rattle.laws.specs.Lists.{Each}
use Rattle.laws.proofs.Bools.{and_both}
use Rattle.laws.proofs.Lists.{each_append}
use Rattle.step_tests.specs.Plain.{plain_slot}
use Rattle.register.specs.File.{cell_count, cells_of_file}
use Rattle.register.specs.Shape.{Limits, Register}
use Rattle.register.specs.declared.Sizes.{Sizes}
use Rattle.register.specs.declared.cells.Cell.{Cell}
use Rattle.plan_lines.specs.Held.{facts}
use Rattle.plan_lines.proofs.Appending.{holds_count}
use Rattle.program.specs.declared.location.Located.{Located}
use Rattle.program.specs.Program.{Rule, Step, Program, readings, step_plan, has_remote, most_lines}
use Rattle.program.specs.Passed.{SettingPasses, RulesPass, StepPasses, ProgramPasses}
use Rattle.program.specs.Location.{LocatedAmong}
use Rattle.program.specs.Stored.{rule_in, rules_in}
use Rattle.program.specs.declared.frame.Frame.{Frame}
use Rattle.program.specs.Kept.{steps_in, program_of, Complete}
use Rattle.program.specs.declared.Program as R
use Rattle.machine.proofs.Readings.{readings_pass, step-promised}
use Rattle.machine.proofs.Running.{running_passes}
use Rattle.machine_messages.specs.declared.Machine.{Machine}
use Rattle.scratch.specs.Places.{Kept}
use Rattle.scratch.proofs.Placed.{kept_again}
use Rattle.gather_follow.specs.Filled.{Filled}
use Rattle.step_cells.specs.Work.{Room, HoldsCells, Same, Small}
use Rattle.step_cells.proofs.Working.{room-same, small-held}
use Rattle.step_rules.specs.Ready.{RuleReady, AllReady, RuleAgrees, AllAgree, AllPlain, LocalDone}
use Rattle.step_rules.proofs.Locals.{all_at}
use Rattle.std.specs.Prelude.{Ok}
use Rattle.step_cells.specs.Stop.{Stop}
use Rattle.run_loop.specs.Column.{Space}
use Rattle.run_turn.specs.declared.Progress.{Progress}
use Rattle.run_turn.specs.declared.Begun.{Begun}
use Rattle.run_turn.specs.Turned.{GoesOn, TurnBegun}
use Rattle.gather_exchanges.specs.Lines.{StepPlanned}
use Rattle.run_steps.specs.Answer.{Scratch}
use Rattle.run_steps.proofs.Arrays.{no_frame, StepAt, step-at, slots_at, slots_length, slot_at, taken_next}
use Rattle.run_steps.proofs.Finding.{followed, LinesHold, filled-lines, all_ready, all_agree}
use Rattle.run_steps.proofs.Loops.{Taken, LocalsLeft}
use Rattle.run_steps.proofs.Standing.{no_step, Stands, StandsBy, here, comes}

-- no step has more lines than the most
lines-most : (xs : Program) (i : ℕ) (d : Step) → i < length xs → length (step_plan (get_or xs i d).rules) ≤ most_lines xs
unfolding most_lines
lines-most [] i d h = absurd (omega arith)
lines-most (x ∷ xs) zero d h = omega arith
lines-most (x ∷ xs) (suc i) d h = omega (arith, lines-most xs i d (omega arith))

-- the frame and the rules that are held are those of a step, and a flag tells whether these are plain
pub record Held (slots : List Located) (frames : List Frame) (step : ℕ) (f : Frame) (rules : List Located) (plain : Bool) : Type 0 where
  pub frame_is : f ≡ get_or frames step no_frame
  pub rules_are : Taken slots step f.rules rules f.rules
  pub plain_are : AllPlain plain (take f.rules rules)

module _ {slots : List Located} {frames : List Frame} {step : ℕ} {f g : Frame} {rules rules' : List Located} {plain plain' : Bool} where
  -- they are taken anew
  pub held-anew : {k : ℕ} → g ≡ get_or frames step no_frame → Taken slots step g.rules rules k × AllPlain plain (take k rules) → g.rules ≤ k
      → rules' ≡ rules → f ≡ g → plain' ≡ plain → Held slots frames step f rules' plain'
  held-anew {k} e (h, a) l p q r =
      let all : k ≡ g.rules = omega (arith, h.k≤) in
      rw (p, q, r) (record {
        frame_is = e;
        rules_are = subst (Taken slots step g.rules rules) all h;
        plain_are = subst (λ (i : ℕ). AllPlain plain (take i rules)) all a;
      })

  -- they are those of the step before, which is the same step
  pub held_still : {taken : ℕ} → Held slots frames taken g rules plain → taken ≡ step → rules' ≡ rules → f ≡ g → plain' ≡ plain
      → Held slots frames step f rules' plain'
  held_still h e p q r = rw (← e, p, q, r) h

abbrev IsPlain : Located → Type 0
IsPlain x = plain_slot x.slot ≡ true

-- one plain rule more
pub plain_more : {plain plain' : Bool} (rules : List Located) (k : ℕ) (x y : Located) → k < length rules → plain' ≡ plain && plain_slot (get_or (set rules k x) k y).slot
    → AllPlain plain (take k rules) → AllPlain plain' (take (k + 1) (set rules k x))
plain_more {plain} rules k x y h q a e =
    let next : k + 1 ≡ suc k = omega arith in
    let same = get_or-set_same rules k x y h in
    let (before, here) = and_both plain (plain_slot (get_or (set rules k x) k y).slot) (sym q ∙ e) in
    rw (next, take-suc-set rules k x h) (each_append IsPlain (take k rules) (x ∷ []) (a before) (subst IsPlain same here, tt))

-- The loop's turn for the step of the program p that comes next: the run stands before it, and the budget allows it.
pub record Turn (m : Machine) (s : Sizes) (codes : List ℕ) (p : R.Program) (budget : ℕ) (file : List ℕ) (run : Progress)
    (out : List ℕ) (values : List ℤ) (marks : List ℕ) (f : Frame) : Type 0 where
  pub nowhere : run.stop ≡ Ok tt
  pub held : f ≡ get_or p.frames run.step no_frame
  pub complete : Complete codes p
  pub passes : ProgramPasses s (program_of codes p)
  pub few-lines : p.lines ≤ 64
  pub whole : length file ≡ 12 + 5 * cell_count s
  pub stands : Stands m s (program_of codes p) (p.lines * s.records) budget file run.step run.first run.finished run.counts out values marks
  pub more : run.step < p.steps
  pub later : run.finished < budget

-- the loop goes on, and this is the frame of the step that comes next
pub turn_at : {m : Machine} {s : Sizes} {codes : List ℕ} {p : R.Program} {budget : ℕ} {file : List ℕ} {run : Progress}
    {out : List ℕ} {values values₀ : List ℤ} {marks marks₀ : List ℕ} {f : Frame} {goes : Bool}
    → Register s file → Scratch s p.lines values₀ marks₀ → Complete codes p → ProgramPasses s (program_of codes p)
    → StandsBy m s (steps_in codes p.slots (take p.steps p.frames)) (p.lines * s.records) budget file run out values marks
    → GoesOn run p.steps budget goes → goes ≡ true → f ≡ get_or p.frames run.step no_frame → Turn m s codes p budget file run out values marks f
unfolding program_of
turn_at register scratch complete passes by going goes held =
    let nowhere = going.nowhere goes in
    let stands = by.stands nowhere in
    record {
      nowhere = nowhere;
      held = held;
      complete = complete;
      passes = passes;
      few-lines = scratch.lines≤;
      whole = register.whole;
      stands = stands;
      more = going.left goes;
      later = omega (arith, stands.running.within, going.allowed goes);
    }

module _ {m : Machine} {s : Sizes} {codes : List ℕ} {p : R.Program} {budget : ℕ} {file : List ℕ} {run : Progress}
    {out : List ℕ} {values : List ℤ} {marks : List ℕ} {f : Frame} (a : Turn m s codes p budget file run out values marks f) where
  abbrev pub frame : Frame
  frame = f

  abbrev pub at : ℕ
  at = p.lines * s.records

  abbrev pub base : ℕ
  base = at + s.records

  abbrev pub cells : List Cell
  cells = cells_of_file s out

  abbrev t : Stands m s (program_of codes p) at budget file run.step run.first run.finished run.counts out values marks
  t = a.stands

  pub limits : Limits s
  limits = t.register.valid.limits

  pub out_whole : length out ≡ 12 + 5 * cell_count s
  out_whole = t.register.whole

  pub out_length : length out ≡ length file
  out_length = out_whole ∙ sym a.whole

  pub inside : run.step < length (program_of codes p)
  inside = omega (arith, a.more, a.complete.steps_are)

  pub few-steps : run.step < 32
  few-steps = omega (arith, inside, a.passes.few)

  -- the run.step, its frame and its rules
  abbrev pub step_here : Step
  step_here = here t inside

  abbrev pub rs : List Rule
  rs = step_here.rules

  pub at-step : StepAt codes p run.step frame step_here
  at-step = rw a.held (step-at codes p run.step no_step no_frame a.complete a.more)

  pub step-passes : StepPasses s step_here
  step-passes = running_passes t.running (comes t inside) a.passes

  pub few-rules : frame.rules ≤ 32
  few-rules = at-step.frame.few

  pub setting_passes : SettingPasses s frame.setting
  setting_passes = subst (SettingPasses s) at-step.setting_is step-passes.field

  -- the rules as they are taken out, one by one
  pub taken_first : (places : List Located) → length places ≡ 32 → Taken p.slots run.step frame.rules places 0
  taken_first places n = record { so_far = refl; length_is = n; k≤ = omega arith }

  pub taken_more : {places : List Located} {k : ℕ} → Taken p.slots run.step frame.rules places k → k < frame.rules → (d : Located)
      → Taken p.slots run.step frame.rules (set places k (get_or p.slots (32 * run.step + k) d)) (k + 1)
  taken_more {places} {k} h l d =
      let slot = get_or p.slots (32 * run.step + k) d in
      record {
        so_far = taken_next k (slots_at p run.step) places d (omega (arith, few-rules, slots_length p run.step a.complete few-steps))
            (omega (arith, few-rules, h.length_is)) (sym (slot_at p run.step a.complete few-steps k d (omega (arith, few-rules)))) h.so_far;
        length_is = length-set places k slot ∙ h.length_is;
        k≤ = omega arith;
      }

  -- room for the column of the pass, and for the lines of the plan
  pub column_space : Space s at values marks
  column_space = record { values_room = omega (arith, t.room.values_room); marks_room = omega (arith, t.room.marks_room) }

  pub planned : StepPlanned s frame.plan
  planned =
      let holds = at-step.frame.holds in
      record {
        readings = readings rs;
        passes = readings_pass s rs step-passes.rules.each;
        promised = step-promised rs holds;
        keys_length = holds.keyed.places;
        rounds_length = holds.rounds_are.places;
      }

  lines-room : frame.plan.count * s.records ≤ at
  lines-room =
      let most = lines-most (program_of codes p) run.step no_step inside in
      let count : frame.plan.count ≤ p.lines = omega (arith, holds_count at-step.frame.holds, most, a.complete.lines_are) in
      mul-le-mul_right s.records count

  pub lines_values : frame.plan.count * s.records ≤ length values
  lines_values = omega (arith, lines-room, t.room.values_room)

  pub lines_marks : frame.plan.count * s.records ≤ length marks
  lines_marks = omega (arith, lines-room, t.room.marks_room)

  -- the rules are all taken out, the pass is entered and the readings are gathered
  pub record Prepared (places : List Located) (values₂ : List ℤ) (marks₂ : List ℕ) (begun : Begun) : Type 0 where
    pub taken : Taken p.slots run.step frame.rules places frame.rules
    pub begins : TurnBegun m s at frame.setting frame.remote cells (facts frame.plan) frame.wanted values marks values₂ marks₂ run begun

-- then the step can be run
module _ {m : Machine} {s : Sizes} {codes : List ℕ} {p : R.Program} {budget : ℕ} {file : List ℕ} {run : Progress}
    {out : List ℕ} {values : List ℤ} {marks : List ℕ} {f : Frame} {a : Turn m s codes p budget file run out values marks f}
    {places : List Located} {values₂ : List ℤ} {marks₂ : List ℕ} {begun : Begun} (b : Prepared a places values₂ marks₂ begun) where
  abbrev n : ℕ
  n = (frame a).rules

  abbrev held : List Cell
  held = cells a

  -- the rules that are taken out are the step's
  abbrev pub ls : List Rule
  ls = rules_in codes n places

  pub rules_taken : ls ≡ rs a
  unfolding rules_in
  rules_taken = ap (map (λ (x : Located). rule_in codes x.slot)) b.taken.so_far ∙ sym (at-step a).rules_are

  pub rules_fit : n ≤ length places
  rules_fit = omega (arith, few-rules a, b.taken.length_is)

  pub filled : Filled s held (step_plan (rs a)) (frame a).wanted (length (step_plan (rs a))) b.begins.values₁ b.begins.marks₁ values₂ marks₂
  filled = rw (at-step a).frame.holds.facts_are at b.begins.gathered.filled

  pub lines-before : length (step_plan (rs a)) * s.records ≤ at a
  lines-before = rw (holds_count (at-step a).frame.holds) (lines-room a)

  -- the buffers keep their lengths
  pub values_length : length values₂ ≡ length values
  values_length = filled.values_length ∙ b.begins.entered.behind.values_length

  pub marks_length : length marks₂ ≡ length marks
  marks_length = filled.marks_length ∙ b.begins.entered.behind.marks_length

  pub step_room : Room (base a) (cell_count s) values₂ marks₂
  step_room =
      let room = a.stands.room in
      record {
        base≤ = omega (arith, mul-le-mul_right s.records a.few-lines, (limits a).records≤);
        values_room = omega (arith, values_length, room.values_room);
        marks_room = omega (arith, marks_length, room.marks_room);
      }

  -- so many messages are sent for the readings at most
  pub lines-few : begun.gathered.messages ≤ 262144
  lines-few =
      let few = rw (at-step a).frame.holds.facts_are at b.begins.gathered.few_messages in
      omega (arith, few, mul-le-mul_right s.records (step-passes a).fits, (limits a).records≤)

  -- the lines that are read hold what is had by following
  lines : LinesHold s (step_plan (rs a)) (frame a).wanted held (take (base a) values₂) (take (base a) marks₂)
  lines =
      let room = step_room in
      filled-lines s (step_plan (rs a)) (frame a).wanted (base a) (omega (arith, lines-before)) (omega (arith, room.values_room))
      (omega (arith, room.marks_room)) filled

  -- the working cells are those of the register still, and every rule can be run
  kept_cell : (j : ℕ) → Kept (base a + j) values marks values₂ marks₂
  kept_cell j = kept_again (b.begins.entered.behind.kept (base a + j) (omega arith)) (filled.behind (base a + j) (omega (arith, lines-before)))

  pub step-working : HoldsCells (base a) held values₂ marks₂
  step-working =
      record {
        value-is = λ j h. (kept_cell j).value-is ∙ a.stands.working.value-is j h;
        mark_is = λ j h. (kept_cell j).mark_is ∙ a.stands.working.mark_is j h;
      }

  -- where the readings of the step's rules are located
  located : Each (LocatedAmong (step_plan (rules_in codes n (slots_at p run.step))) (frame a).wanted codes) (take n (slots_at p run.step))
  located = rw ((at-step a).frame.holds.facts_are, (at-step a).rules_are) at (at-step a).located

  abbrev passing : RulesPass s (rules_in codes n (slots_at p run.step))
  passing = rw (← (at-step a).rules_are) (step-passes a).rules

  pub step-ready : AllReady s held (take (base a) values₂) (take (base a) marks₂) codes (take n places)
  step-ready =
      rw b.taken.so_far
      (all_ready s codes n (slots_at p run.step) passing (frame a).wanted located (rw (at-step a).rules_are at lines) a.stands.register.valid)

  -- and the places agree with what is had by following
  pub step_agrees : AllAgree s held (take (base a) values₂) (take (base a) marks₂) codes (followed s held) (take n places)
  step_agrees =
      rw b.taken.so_far (all_agree s codes n (slots_at p run.step) passing (frame a).wanted located (rw (at-step a).rules_are at lines))

  pub step_sends : (frame a).remote ≡ has_remote ls
  step_sends = (at-step a).frame.remote_is ∙ ap has_remote (sym rules_taken)

  -- what the local rules leave, with where they stop
  abbrev pub Applied : List ℤ → List ℕ → Stop → Type 0
  Applied = LocalsLeft s held (base a) ls values₂ marks₂

  -- what a rule asks for, over what stands below the working cells
  module _ {values' : List ℤ} {marks' : List ℕ} (same : Same (base a) values₂ marks₂ values' marks') where
    pub room_still : Room (base a) (cell_count s) values' marks'
    room_still = room-same same step_room

    pub ready_still : AllReady s held (take (base a) values') (take (base a) marks') codes (take n places)
    ready_still = rw (same.values_same, same.marks_same) step-ready

    pub agrees_still : AllAgree s held (take (base a) values') (take (base a) marks') codes (followed s held) (take n places)
    agrees_still = rw (same.values_same, same.marks_same) step_agrees

    module _ (k : ℕ) (x : Located) (h : k < n) where
      pub rule-ready : RuleReady s held (take (base a) values') (take (base a) marks') codes (get_or places k x)
      rule-ready = all_at codes places k x (omega (arith, rules_fit)) (RuleReady s held (take (base a) values') (take (base a) marks') codes) h ready_still

      pub rule_agrees : RuleAgrees s held (take (base a) values') (take (base a) marks') codes (followed s held) (get_or places k x)
      rule_agrees =
          all_at codes places k x (omega (arith, rules_fit)) (RuleAgrees s held (take (base a) values') (take (base a) marks') codes (followed s held)) h agrees_still

    -- and the remote writes besides
    pub small_still : LocalDone s (followed s held) (base a) ls s.records values₂ marks₂ values' marks'
        → Small 2147483648 (base a) (cell_count s) values' marks'
    small_still l = let valid = a.stands.register.valid in l.small (small-held valid.count valid.values step-working)
