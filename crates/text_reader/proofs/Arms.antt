-- What each sort of line that has passed does to the reader's arrays and to the plan of the open step.
use Prim.Native.Nat.{ℕ, ◌+◌, ◌-◌, ◌*◌, ◌≤◌, ◌<◌}
use mathlib.Core.Path.{◌≡◌, refl, sym, ap, ◌∙◌}
use mathlib.Core.Bool.{Bool, true, false, not}
use mathlib.Core.List.{List, [], ◌∷◌, ◌++◌}
use mathlib.Core.Option.{Option, none, some}
use native.Mathlib.Omega.{arith}
use native.Mathlib.Numerals.{add-one}
use borrow.Author.Tests.{ltb-true, leb-true, not-true, le-ltb}
use lib.ListN.{length, get_or, take, drop, set, length-set}
use lib.Seq.{length-take-le, take-suc-set}
use Rattle.laws.specs.Lists.{Each}
use Rattle.laws.proofs.Bools.{and_both, true_false}
use Rattle.plan_lines.specs.Held.{HoldsLines}
use Rattle.plan_lines.proofs.Appending.{holds_count}
use Rattle.text_syntax.specs.Tree.{rule_of}
use Rattle.text_syntax.specs.Written as W
use Rattle.text_syntax.specs.Written.{step, end, done, loop, rule}
use Rattle.program.specs.declared.rule.Rule as C
use Rattle.program.specs.declared.rule.Rule.TheVariants.{Set, Combine, Remote}
use Rattle.program.specs.declared.rule.Sort.TheVariants.{Least, Total}
use Rattle.program.specs.declared.rule.Slot.{Slot}
use Rattle.program.specs.declared.location.Located.{Located}
use Rattle.program.specs.declared.location.Locations.{Locations}
use Rattle.program.specs.Program.{Rule, Step, step_plan}
use Rattle.program.specs.Code.{SameBelow}
use Rattle.program.specs.Terms.{SlotTerms, TermFrom, TermInside, TermFormed}
use Rattle.text_rules.specs.declared.scope.Scope.{Scope}
use Rattle.text_rules.specs.declared.line.Checks.{Checks}
use Rattle.text_rules.specs.declared.line.LineRead.TheVariants as L
use Rattle.text_rules.specs.Check.{State, is_outside, is_used, is_open, open_rules, in_place, has_room, plan_fits}
use Rattle.text_rules.specs.Text.{setting_in, close_loop, advance}
use Rattle.program.specs.Passed.{Loops}
use Rattle.text_rules.specs.declared.around.Around.{Around}
use Rattle.text_rules.specs.declared.around.Around.TheVariants.{Outside, Unused, Used}
use Rattle.text_rules.proofs.Checked.{Clean}
use Rattle.text_rules.proofs.Loops.{open_loop}
use Rattle.text_rules.proofs.Passing.{Reached}
use Rattle.program.specs.Stored.{rule_in, rules_in}
use Rattle.program.specs.Kept.{steps_in, FrameOf, Framed}
use Rattle.text_readings.specs.Readings.{NotFull}
use Rattle.text_readings.specs.declared.Open.{Open}
use Rattle.text_plan.specs.Walked.{SlotWalked}
use Rattle.text_state.specs.State.{no_rules, more_rules, with_remote, with_rule, frame_of, last_frame, standing, advance_of}
use Rattle.text_state.specs.declared.tally.Tally.{Tally}
use Rattle.program.specs.declared.frame.Frame.{Frame}
use Rattle.text_state.specs.declared.state.State as S
use Rattle.text_state.proofs.Standing.{Stands}
use Rattle.text_reader.proofs.Lists.{each_map, each_take, each_drop, each_set}
use Rattle.program.proofs.Agreeing.{slot_map, slot-both, inside-more, formed-alike, rule-alike}
use Rattle.text_reader.proofs.Agreeing.{SlotKept, AllPlaced, rules-same, steps-same, slot_kept, all_placed}
use Rattle.text_reader.proofs.Keeping.{store_steps, store_placed, store_place, store_rule, more_frames, more-placed, framed_more, close_frames, framed_close, placed_close}
use Rattle.text_reader.proofs.Opening.{OpenStep, open_none, open_still, open_same, open_rule}

-- what the arrays hold of the lines so far, n codes among it
pub record Kept (codes : List ℕ) (n : ℕ) (slots : List Located) (frames : List Frame) (x : S.State) (st : State) : Type 0 where
  pub slots_length : length slots ≡ 1024
  pub frames_length : length frames ≡ 32
  pub steps_are : steps_in codes slots (take x.steps frames) ≡ st.steps
  pub rules_are : rules_in codes x.tally.rules (take 32 (drop (32 * x.steps) slots)) ≡ open_rules st
  pub framed : Framed frames st.steps
  pub placed : AllPlaced codes slots (take x.steps frames)
  pub terms : Each (SlotKept codes n) slots

-- the slots of the open step's rules
abbrev pub open_slots : List Located → S.State → List Located
open_slots slots x = take x.tally.rules (take 32 (drop (32 * x.steps) slots))

-- the arrays and the open step behind a line
pub record Behind (codes : List ℕ) (n : ℕ) (slots : List Located) (frames : List Frame) (a : Open) (x : S.State) (st : State) : Type 0 where
  pub kept : Kept codes n slots frames x st
  pub opened : OpenStep codes (open_rules st) (open_slots slots x) a

module _ {codes : List ℕ} {n : ℕ} {slots : List Located} {frames : List Frame} {a : Open} {x : S.State} {st : State} (b : Behind codes n slots frames a x st) where
  step_terms : Each (SlotKept codes n) (take 32 (drop (32 * x.steps) slots))
  step_terms = each_take _ 32 (drop (32 * x.steps) slots) (each_drop _ (32 * x.steps) slots b.kept.terms)

  pub open_terms : Each (SlotKept codes n) (open_slots slots x)
  open_terms = each_take _ x.tally.rules (take 32 (drop (32 * x.steps) slots)) step_terms

  -- with codes that are the same so far, and with more of them
  pub behind-same : (codes' : List ℕ) {m : ℕ} → SameBelow codes codes' n → n ≤ m → Behind codes' m slots frames a x st
  behind-same codes' same l = record {
    kept = record {
      slots_length = b.kept.slots_length;
      frames_length = b.kept.frames_length;
      steps_are = sym (steps-same codes codes' same slots (take x.steps frames) b.kept.terms) ∙ b.kept.steps_are;
      rules_are = sym (rules-same codes codes' same x.tally.rules (take 32 (drop (32 * x.steps) slots)) step_terms) ∙ b.kept.rules_are;
      framed = b.kept.framed;
      placed = all_placed codes codes' same slots (take x.steps frames) b.kept.terms b.kept.placed;
      terms = each_map _ _ (λ y k. slot_map (λ t h. (inside-more l t h.0, h.1)) y.slot (slot_kept codes codes' same y k)) slots b.kept.terms;
    };
    opened = open_same b.opened codes' same open_terms;
  }

-- the open step's rules where none is open
closed_none : (st : State) → is_open st ≡ false → open_rules st ≡ []
unfolding is_open open_rules
closed_none st h = go st.open_rules h
  where
    go : (o : Option (List Rule)) → elim o [ none ↦ false | some rs ↦ true ] ≡ false → ◌≡◌ {A = List Rule} (elim o [ none ↦ [] | some rs ↦ rs ]) []
    go none h = refl
    go (some rs) h = true_false refl h

rules-more : (x : Tally) (r : C.Rule) → (with_rule x r).rules ≡ x.rules + 1
unfolding with_rule more_rules with_remote
rules-more x (Set f y) = refl
rules-more x (Combine f op y z) = refl
rules-more x (Remote Least f c y) = refl
rules-more x (Remote Total f c y) = refl

-- a loop that holds a step
used_steps : (a : Around) (xs : List Step) → is_used a ≡ true → Loops none xs (open_loop a) → 1 ≤ length xs
unfolding is_used open_loop
used_steps Outside xs u h = true_false u refl
used_steps (Unused f) xs u h = true_false u refl
used_steps (Used f) [] u h = absurd (let z : ◌≡◌ {A = ℕ} 0 1 = cc in omega arith)
used_steps (Used f) (x ∷ xs) u h = omega arith

module _ (scope : Scope) {codes : List ℕ} {n : ℕ} {slots : List Located} {frames : List Frame} {a : Open} {x : S.State}
    {st : State} (r : Reached scope.sizes st) (h : Stands x st) (b : Behind codes n slots frames a x st) (i : ℕ) where
  -- these store nothing
  pub at-step : Clean scope st step → Behind codes n slots frames a (advance_of x i L.Step) (advance st step)
  unfolding advance_of standing advance open_rules in_place rules_in no_rules
  at-step c = record {
    kept = record {
      slots_length = b.kept.slots_length;
      frames_length = b.kept.frames_length;
      steps_are = b.kept.steps_are;
      rules_are = refl;
      framed = b.kept.framed;
      placed = b.kept.placed;
      terms = b.kept.terms;
    };
    opened = open_still b.opened (closed_none st (not-true _ c.placed));
  }

  pub at_loop : (f g : ℕ) (named : Bool) → Clean scope st (loop f) → Behind codes n slots frames a (advance_of x i (L.Loop g named)) (advance st (loop f))
  unfolding advance_of standing advance open_rules in_place rules_in no_rules
  at_loop f g named c = record {
    kept = record {
      slots_length = b.kept.slots_length;
      frames_length = b.kept.frames_length;
      steps_are = b.kept.steps_are;
      rules_are = refl;
      framed = b.kept.framed;
      placed = b.kept.placed;
      terms = b.kept.terms;
    };
    opened = open_still b.opened (closed_none st (not-true _ (and_both (not (is_open st)) (is_outside st.around) c.placed).0));
  }

  -- a rule stands in its place, and the plan is that of the rules with it
  module _ {u : W.Condition} {act : W.Action} (c : Clean scope st (rule u act)) where
    pub rule-steps : x.steps < 32
    unfolding in_place
    rule-steps = omega (arith, r.room c.placed, h.steps_are)

    pub rule-rules : x.tally.rules < 32
    unfolding has_room
    rule-rules = omega (arith, ltb-true (length (open_rules st)) 32 c.room, h.tally_is.rules_are)

    -- the place of the rule, behind the closed steps and the rules of this one
    abbrev here : ℕ
    here = 32 * x.steps + x.tally.rules

    pub at-rule : {b' : Open} {codes' : List ℕ} (z : Slot) (at : Locations) (ch : Checks) {m : ℕ} → rule_in codes z ≡ rule_of u act
        → SlotTerms (TermFormed codes) z → SlotTerms (TermFrom n) z → SlotTerms (TermInside m) z → n ≤ m → SlotWalked a codes b' codes' at z
        → Behind codes' m (set slots here (record { slot = z; at = at })) frames b' (advance_of x i (L.Rule z ch)) (advance st (rule u act))
    unfolding advance_of standing advance open_rules
    at-rule {codes' = codes'} z at ch {m} is formed from inside l w =
        let y : Located = record { slot = z; at = at } in
        let old : Kept codes' m slots frames x st = (behind-same b codes' (λ j e. sym (w.below n from j e)) l).kept in
        let front : length (take x.steps frames) ≡ x.steps = length-take-le x.steps frames (omega (arith, rule-steps, b.kept.frames_length)) in
        let room : 32 * x.steps + 32 ≤ length slots = omega (arith, rule-steps, b.kept.slots_length) in
        let more = rules-more x.tally z.rule in
        let new : rule_in codes' z ≡ rule_of u act = sym (rule-alike codes codes' (λ j e. w.same j) z inside) ∙ is in
        record {
          kept = record {
            slots_length = length-set slots here y ∙ b.kept.slots_length;
            frames_length = b.kept.frames_length;
            steps_are = rw front at (store_steps codes' slots (take x.steps frames) x.tally.rules y) ∙ old.steps_are;
            rules_are = rw (more, store_rule codes' slots x.steps x.tally.rules y rule-rules room, old.rules_are, new);
            framed = b.kept.framed;
            placed = rw front at (store_placed codes' slots (take x.steps frames) x.tally.rules y old.placed);
            terms = each_set _ slots here y old.terms
                (slot_map (λ t h. (h.0, formed-alike codes codes' (λ j e. w.same j) t h.0 h.1)) z (slot-both (TermInside m) (TermFormed codes) z inside formed));
          };
          opened = rw (more, store_place slots x.steps x.tally.rules y rule-rules room, ← is) (open_rule b.opened z at n w (open_terms b) formed);
        }

  -- the step is closed, with its plan
  module _ (c : Clean scope st end) where
    pub end-steps : x.steps < 32
    unfolding in_place
    end-steps = omega (arith, r.room c.placed, h.steps_are)

    end_fits : length (step_plan (open_rules st)) ≤ 64
    unfolding plan_fits
    end_fits = leb-true (length (step_plan (open_rules st))) 64 c.fits

    end-holds : HoldsLines a.plan (step_plan (open_rules st))
    end-holds = b.opened.planned.holds end_fits

    pub end_count : a.plan.count ≡ length (step_plan (open_rules st))
    end_count = sym (holds_count end-holds)

    end_frame : length a.wanted ≡ 64 → FrameOf (frame_of x a.plan a.wanted) (open_rules st)
    unfolding frame_of
    end_frame l = record {
      few = omega (arith, r.rules.few, h.tally_is.rules_are);
      remote_is = h.tally_is.remote_is;
      fields_are = h.tally_is.fields_are;
      holds = end-holds;
      wanted_length = l;
    }

    -- it has room for its lines
    end-room : NotFull a
    end-room = b.opened.planned.full_is ∙ le-ltb 64 (length (step_plan (open_rules st))) end_fits

    -- the next step has no line yet
    pub at-end : {o : Open} → length a.wanted ≡ 64 → HoldsLines o.plan [] → NotFull o
        → Behind codes n slots (set frames x.steps (frame_of x a.plan a.wanted)) o (advance_of x i L.End) (advance st end)
    unfolding advance_of advance open_rules rules_in no_rules frame_of
    at-end l held empty =
        let f = frame_of x a.plan a.wanted in
        let front : length (take x.steps frames) ≡ x.steps = length-take-le x.steps frames (omega (arith, end-steps, b.kept.frames_length)) in
        let more : take (x.steps + 1) (set frames x.steps f) ≡ take x.steps frames ++ (f ∷ []) =
        ap (λ (i : ℕ). take i (set frames x.steps f)) (add-one x.steps)
        ∙ take-suc-set frames x.steps f (omega (arith, end-steps, b.kept.frames_length)) in
        let new : steps_in codes slots (take (x.steps + 1) (set frames x.steps f))
        ≡ st.steps ++ (record { rules = open_rules st; setting = setting_in st.around } ∷ []) =
        ap (steps_in codes slots) more ∙ more_frames codes slots (take x.steps frames) f
        ∙ rw (b.kept.steps_are, front, b.kept.rules_are, h.around_is) in
        record {
          kept = record {
            slots_length = b.kept.slots_length;
            frames_length = length-set frames x.steps f ∙ b.kept.frames_length;
            steps_are = new;
            rules_are = refl;
            framed = rw h.steps_are (framed_more frames st.steps f (record { rules = open_rules st; setting = setting_in st.around })
                b.kept.framed (omega (arith, end-steps, b.kept.frames_length, h.steps_are)) (end_frame l));
            placed = rw more (more-placed codes slots (take x.steps frames) f b.kept.placed (rw front (b.opened.placed end-room)));
            terms = b.kept.terms;
          };
          opened = open_none held empty;
        }

  -- the last step is the last of its loop
  module _ (c : Clean scope st done) where
    closed_now : is_open st ≡ false
    unfolding in_place
    closed_now = not-true _ (and_both (not (is_open st)) (is_used st.around) c.placed).0

    pub done-steps : 1 ≤ x.steps
    unfolding in_place
    done-steps = omega (arith, h.steps_are, used_steps st.around st.steps (and_both (not (is_open st)) (is_used st.around) c.placed).1 r.loops)

    pub done-most : x.steps ≤ 32
    done-most = omega (arith, h.steps_are, r.few)

    pub at_done : (d : Frame)
        → Behind codes n slots (set frames (x.steps - 1) (last_frame (get_or frames (x.steps - 1) d))) a (advance_of x i L.Done) (advance st done)
    unfolding advance_of standing advance open_rules rules_in no_rules
    at_done d = record {
      kept = record {
        slots_length = b.kept.slots_length;
        frames_length = length-set frames (x.steps - 1) (last_frame (get_or frames (x.steps - 1) d)) ∙ b.kept.frames_length;
        steps_are = close_frames codes slots frames x.steps d done-steps (omega (arith, done-most, b.kept.frames_length)) ∙ ap close_loop b.kept.steps_are;
        rules_are = refl;
        framed = framed_close frames x.steps d done-steps st.steps b.kept.framed h.steps_are;
        placed = placed_close codes slots frames x.steps d done-steps b.kept.placed;
        terms = b.kept.terms;
      };
      opened = open_still b.opened (closed_none st closed_now);
    }
