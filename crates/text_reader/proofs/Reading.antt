-- The loop of the text reader: what it has read so far, and what one more line does to it.
use Prim.Native.Nat.{ℕ, zero, suc, ◌+◌, ◌-◌, ◌*◌, ◌≤◌, ◌<◌}
use mathlib.Core.Path.{◌≡◌, refl, sym, ap, subst, ◌∙◌}
use mathlib.Core.Bool.{Bool, true, false, cond, not, ◌&&◌}
use mathlib.Core.List.{List, [], ◌∷◌}
use mathlib.Core.Option.{Option, none, some}
use native.Mathlib.Omega.{arith}
use native.Mathlib.Numerals.{add-one}
use borrow.Author.Tests.{ltb-true}
use lib.Dec.{ltb}
use lib.ListN.{length, get_or, take, drop, set, replicate, length-drop, drop_of_length-le}
use lib.Seq.{drop-drop}
use Rattle.register.specs.Shape.{Limits}
use Rattle.laws.specs.Outcome.{Outcome, refused, unless, after}
use Rattle.laws.specs.Outcome as O
use Rattle.plan_lines.specs.Held.{HoldsLines}
use Rattle.text_syntax.specs.Written.{Line, step, end, done}
use Rattle.text_syntax.specs.Lexing.{tokens}
use Rattle.text_syntax.specs.Grammar.{line_form}
use Rattle.text_rules.specs.declared.scope.Scope.{Scope}
use Rattle.text_rules.specs.declared.line.Checks.{Checks}
use Rattle.text_rules.specs.declared.line.LineRead.TheVariants as L
use Rattle.text_rules.specs.LineRead.{Reads}
use Rattle.text_lines.specs.Line.{Leaves}
use Rattle.text_lines.specs.declared.line.LineParts.{LineParts}
use Rattle.program.specs.declared.rule.Slot.{Slot}
use Rattle.program.specs.Program.{Program, step_plan}
use Rattle.text_rules.specs.Check.{State, is_outside, is_open, open_rules, line_refusal}
use Rattle.text_rules.specs.Text.{lines, advance, line_outcome, closed_text, read_from, start}
use Rattle.text_rules.proofs.Checked.{Clean, refusal_none, rule-passes}
use Rattle.text_rules.proofs.Passing.{Reached, start_reached, advance_reached}
use Rattle.text_next.specs.Front.{line_bytes, first_form, CodeRoom, LineNext}
use Rattle.program.specs.Stored.{rules_in}
use Rattle.program.specs.Kept.{steps_in, program_of}
use Rattle.text_judge.specs.declared.RefusedLine.{RefusedLine}
use Rattle.text_judge.specs.Judged.{parts_of, Judged}
use Rattle.text_judge.specs.declared.Next.{Next}
use Rattle.text_reader.specs.Answers.{check_outcome, Answers}
use Rattle.program.specs.declared.location.Located.{Located}
use Rattle.program.specs.declared.location.Locations.{Locations}
use Rattle.program.specs.Code.{SameBelow}
use Rattle.program.specs.Terms.{SlotTerms, TermInside}
use Rattle.text_readings.specs.Readings.{Short, NotFull}
use Rattle.text_readings.specs.declared.Open.{Open}
use Rattle.text_plan.specs.Walked.{slot_words, SlotWalked}
use Rattle.text_plan.specs.Store.{empty_slot}
use Rattle.text_plan.proofs.Words.{slot-words}
use Rattle.text_state.specs.State.{no_rules, start_state, frame_of, last_frame, advance_of}
use Rattle.std.specs.Prelude.{Ok, Err}
use Rattle.text_refusals.specs.Number.{refusal_number}
use Rattle.text_refusals.specs.declared.Refusal.{Refusal}
use Rattle.text_refusals.proofs.Numbers.{not_none}
use Rattle.text_refusals.specs.Refusal.{refusal_of, last_refusal}
use Rattle.program.specs.declared.Program as C
use Rattle.program.specs.declared.frame.Frame.{Frame}
use Rattle.text_state.specs.declared.state.State as S
use Rattle.text_reader.proofs.Lists.{each_replicate}
use Rattle.program.proofs.Agreeing.{slot_map, inside-more}
use Rattle.text_reader.proofs.Agreeing.{SlotKept, all_located}
use Rattle.text_reader.proofs.Opening.{open_none}
use Rattle.text_reader.proofs.Forms.{rule-short, step-form, end-form, done-form, loop_form, no_form, Written, rule-form, codes-kept}
use Rattle.text_reader.proofs.Arms.{Behind, behind-same, at-step, at_loop, at-rule, at-end, at_done, rule-steps, rule-rules, end-steps, end_count, done-steps}
use Rattle.text_next.proofs.Fronts.{lines-first}
use Rattle.text_state.proofs.Standing.{Stands, start-stands, advance-stands}
use Rattle.text_refusals.proofs.Refusals.{number, refusal_is, last-is}

-- the state of the definition before line i, which begins at `at`, and what the code has of it, with n codes in the lent array
pub record Read (scope : Scope) (t : List ℕ) (a : Open) (codes : List ℕ) (slots : List Located) (frames : List Frame) (x : S.State) (n at i : ℕ) : Type 0 where
  pub state : State
  pub reached : Reached scope.sizes state
  pub stands : Stands x state
  pub behind : Behind codes n slots frames a x state
  pub lent : length codes ≡ 8192
  pub rest : read_from scope start 1 (lines t) ≡ read_from scope state i (lines (drop at t))
  pub within : at ≤ length t
  pub few : i ≤ at + 1
  pub few_codes : n ≤ at

-- before the first line
pub begun : (scope : Scope) (t : List ℕ) {a : Open} {codes : List ℕ} {y : Located} {frames : List Frame} {x : S.State}
    → HoldsLines a.plan [] → NotFull a → length codes ≡ 8192
    → y.slot ≡ empty_slot → length frames ≡ 32 → x ≡ start_state → Read scope t a codes (replicate 1024 y) frames x 0 0 1
unfolding start_state start open_rules steps_in rules_in no_rules
begun scope t {codes = codes} {y} h room lent ey lf e = record {
  state = start;
  reached = start_reached scope.sizes;
  stands = rw e start-stands;
  behind = rw e (record {
    kept = record {
      slots_length = refl;
      frames_length = lf;
      steps_are = refl;
      rules_are = refl;
      framed = tt;
      placed = tt;
      terms = each_replicate (SlotKept codes 0) 1024 y (rw ey (tt, (tt, tt)));
    };
    opened = open_none h room;
  });
  lent = lent;
  rest = refl;
  within = omega arith;
  few = omega arith;
  few_codes = omega arith;
}

-- the outcome of a text from its first line
first-line : (scope : Scope) (st : State) (k : ℕ) (t : List ℕ) → 0 < length t
    → read_from scope st k (lines t) ≡ after (line_outcome scope st k (first_form t)) (λ st. read_from scope st (suc k) (lines (drop (length (line_bytes t) + 1) t)))
unfolding read_from
first-line scope st k [] h = absurd (omega arith)
first-line scope st k (b ∷ t) h =
    let p = lines-first b t in
    ap (read_from scope st k) p.2
    ∙ ap (λ (o : Option Line). after (line_outcome scope st k o) (λ st. read_from scope st (suc k) (lines (drop (length (line_bytes (b ∷ t)) + 1) (b ∷ t))))) p.1

-- a line that is refused
pub refuse-none : {A : Type 0} (n k : ℕ) (o : Outcome A) → (n ≡ 0 → ⊥) → unless n k o ≡ refused n k
unfolding unless
refuse-none zero k o h = absurd (h refl)
refuse-none (suc n) k o h = refl

refuse : {A B : Type 0} (n k : ℕ) (o : Outcome A) (f : A → Outcome B) → (n ≡ 0 → ⊥) → after (unless n k o) f ≡ refused n k
unfolding after unless
refuse n k o f h = rw (refuse-none n k o h)

refused-line : (scope : Scope) (st : State) (k : ℕ) (o : Option Line) (f : State → Outcome Program) → (number scope st o ≡ 0 → ⊥)
    → after (line_outcome scope st k o) f ≡ refused (number scope st o) k
unfolding number line_outcome after
refused-line scope st k none f h = refl
refused-line scope st k (some l) f h = refuse (line_refusal scope st l) k (O.done (advance st l)) f h

-- a line that passes
passed-line : (scope : Scope) (st : State) (k : ℕ) (o : Option Line) (f : State → Outcome Program) → number scope st o ≡ 0
    → (l : Line) × (o ≡ some l) × Clean scope st l × (after (line_outcome scope st k o) f ≡ f (advance st l))
unfolding number line_outcome after unless
passed-line scope st k none f h = absurd (omega arith)
passed-line scope st k (some l) f h = (l, refl, refusal_none scope st l h, rw h)

first_some_lem : (t : List ℕ) (l : Line) → first_form t ≡ some l → length (line_bytes t) < length t
unfolding first_form
first_some_lem t l h = go (ltb (length (line_bytes t)) (length t)) refl h
  where
    go : (b : Bool) → ltb (length (line_bytes t)) (length t) ≡ b → cond b (line_form (tokens (line_bytes t))) none ≡ some l → length (line_bytes t) < length t
    go true e h = ltb-true (length (line_bytes t)) (length t) e
    go false e h = absurd (let z : ◌≡◌ {A = ℕ} 0 1 = cc in omega arith)

module _ (scope : Scope) {t : List ℕ} {a : Open} {codes : List ℕ} {slots : List Located} {frames : List Frame} {x : S.State} {n at i : ℕ}
    (q : Read scope t a codes slots frames x n at i) where
  -- the next line, where it passes
  pub record Passes (b : List ℕ) (r : LineParts) : Type 0 where
    pub form : Line
    pub clean : Clean scope q.state form
    pub reads : Reads scope.sizes b (some form) r.line
    pub leaves : Leaves codes b n r.used r.line
    pub more_codes : n ≤ r.used
    pub few_codes : r.used ≤ at + length (line_bytes (drop at t))
    pub inside : at + length (line_bytes (drop at t)) < length t
    pub onward : read_from scope start 1 (lines t) ≡ read_from scope (advance q.state form) (suc i) (lines (drop (at + length (line_bytes (drop at t)) + 1) t))

  module _ {b : List ℕ} (r : LineParts) {stop : ℕ} (e : stop ≡ at + length (line_bytes (drop at t))) (here : at < length t)
      (l : LineNext scope.sizes (first_form (drop at t)) stop codes b n r) where
    -- what follows it
    abbrev follows : State → Outcome Program
    follows st = read_from scope st (suc i) (lines (drop (length (line_bytes (drop at t)) + 1) (drop at t)))

    outcome : read_from scope start 1 (lines t) ≡ after (line_outcome scope q.state i (first_form (drop at t))) follows
    outcome = q.rest ∙ first-line scope q.state i (drop at t) (simp length-drop (omega arith))

    numbered : refusal_of x a.full r.line ≡ number scope q.state (first_form (drop at t))
    numbered = refusal_is scope q.stands a.full q.behind.opened.planned.full_is l.reads

    -- a line that is refused
    stopped : (e : Refusal) → refusal_number e ≡ refusal_of x a.full r.line → read_from scope start 1 (lines t) ≡ refused (refusal_number e) i
    stopped e is =
        outcome ∙ refused-line scope q.state i (first_form (drop at t)) follows (λ z. not_none e (is ∙ (numbered ∙ z)))
        ∙ ap (λ (m : ℕ). refused m i) (sym (is ∙ numbered))

    passes : refusal_of x a.full r.line ≡ 0 → Passes b r
    passes h =
        let p = passed-line scope q.state i (first_form (drop at t)) follows (sym numbered ∙ h) in
        let behind : at + (length (line_bytes (drop at t)) + 1) ≡ at + length (line_bytes (drop at t)) + 1 = omega arith in
        record {
          form = p.0;
          clean = p.2;
          reads = subst (λ (o : Option Line). Reads scope.sizes b o r.line) p.1 l.reads;
          leaves = l.leaves;
          more_codes = l.more_codes;
          few_codes = omega (arith, l.few_codes, e);
          inside = omega (arith, first_some_lem (drop at t) p.0 p.1, length-drop at t);
          onward = outcome ∙ p.3
              ∙ ap (λ (u : List ℕ). read_from scope (advance q.state p.0) (suc i) (lines u))
              (drop-drop (length (line_bytes (drop at t)) + 1) at t ∙ ap (λ (j : ℕ). drop j t) behind);
        }

  -- the next line as it is judged, where it passes and where it is refused
  module _ (here : at < length t) {b : List ℕ} where
    pub passed : {y : Next} → Judged scope t at x a.full codes b n (Ok y) → Passes b (parts_of y)
    passed {y} j = passes (parts_of y) j.end_is here j.read (sym j.refusal_is)

    pub answer-line : {e : RefusedLine} → Judged scope t at x a.full codes b n (Err e)
        → Answers b (read_from scope start 1 (lines t)) (Err (record { refusal = e.refusal; line = i }))
    unfolding check_outcome
    answer-line {e} j = record { outcome_is = sym (stopped (parts_of e.next) j.end_is here j.read e.refusal j.refusal_is); complete = tt }

-- the arrays and the plan behind each sort of line; m is the number of lines of the open step's plan
module _ {scope : Scope} (lim : Limits scope.sizes) {t : List ℕ} {a : Open} {codes : List ℕ} {slots : List Located} {frames : List Frame} {x : S.State} {n at i : ℕ}
    {q : Read scope t a codes slots frames x n at i} where
  module _ {b : List ℕ} {r : LineParts} (p : Passes scope q b r) (m : ℕ) where
    -- what stood before the line, with the codes behind it
    before : SameBelow codes b n
    before = codes-kept codes b n r.used p.reads p.clean p.leaves

    same : Behind b n slots frames a x q.state
    same = behind-same q.behind b before (omega arith)

    more : Behind b r.used slots frames a x q.state
    more = behind-same q.behind b before p.more_codes

    pub arm_step : r.line ≡ L.Step → Behind b r.used slots frames a (advance_of x m r.line) (advance q.state p.form)
    arm_step e =
        let is : p.form ≡ step = step-form p.reads e in
        rw (e, is) (at-step scope q.reached q.stands more m (subst (Clean scope q.state) is p.clean))

    pub arm_loop : {f : ℕ} {named : Bool} → r.line ≡ L.Loop f named
        → Behind b r.used slots frames a (advance_of x m r.line) (advance q.state p.form)
    arm_loop {f} {named} e =
        let v = loop_form p.reads e in
        rw (e, v.1) (at_loop scope q.reached q.stands more m v.0 f named (subst (Clean scope q.state) v.1 p.clean))

    pub arm_none : {A : Type 0} → r.line ≡ L.NoForm → A
    arm_none e = absurd (no_form p.reads e)

    module _ (e : r.line ≡ L.End) where
      end_clean : Clean scope q.state end
      end_clean = subst (Clean scope q.state) (end-form p.reads e) p.clean

      pub arm_end-steps : x.steps < 32
      arm_end-steps = end-steps scope q.reached q.stands more m end_clean

      pub arm_end : {o : Open} → length a.wanted ≡ 64 → HoldsLines o.plan [] → NotFull o
          → Behind b r.used slots (set frames x.steps (frame_of x a.plan a.wanted)) o (advance_of x m r.line) (advance q.state p.form)
      arm_end l held empty = rw (e, end-form p.reads e) (at-end scope q.reached q.stands more m end_clean l held empty)

    module _ (e : r.line ≡ L.Done) where
      done_clean : Clean scope q.state done
      done_clean = subst (Clean scope q.state) (done-form p.reads e) p.clean

      pub arm_done-steps : 1 ≤ x.steps
      arm_done-steps = done-steps scope q.reached q.stands more m done_clean

      pub arm_done : (d : Frame)
          → Behind b r.used slots (set frames (x.steps - 1) (last_frame (get_or frames (x.steps - 1) d))) a
          (advance_of x m r.line) (advance q.state p.form)
      arm_done d = rw (e, done-form p.reads e) (at_done scope q.reached q.stands more m done_clean d)

    module _ {y : Slot} {ch : Checks} (e : r.line ≡ L.Rule y ch) where
      abbrev written : Written scope q.state b n r.used p.form y
      written = rule-form codes b n r.used p.reads p.clean p.leaves e

      pub arm_steps : x.steps < 32
      arm_steps = rule-steps scope q.reached q.stands more m written.clean

      pub arm_rules : x.tally.rules < 32
      arm_rules = rule-rules scope q.reached q.stands more m written.clean

      pub arm_fits : length t ≤ 8192 → length b ≡ 8192 → Short (slot_words b y) × SlotTerms (TermInside (length b)) y
      arm_fits h e = (
        rw (slot-words b y written.formed, written.rule_is)
            (rule-short scope.sizes _ (rule-passes scope lim q.state written.condition written.action written.clean)),
        slot_map (inside-more (omega (arith, p.few_codes, p.inside, e))) y written.inside,
      )

      pub arm_rule : {a' : Open} {codes' : List ℕ} (at' : Locations) → SlotWalked a b a' codes' at' y
          → Behind codes' r.used (set slots (32 * x.steps + x.tally.rules) (record { slot = y; at = at' })) frames a'
          (advance_of x m r.line) (advance q.state p.form)
      arm_rule at' w =
          rw (e, written.line_is)
          (at-rule scope q.reached q.stands same m written.clean y at' ch written.rule_is written.formed
          written.behind written.inside p.more_codes w)

    -- the count of the open step's plan, which its `end` asks for
    pub end-lines : p.form ≡ end → a.plan.count ≡ length (step_plan (open_rules q.state))
    end-lines e = end_count scope q.reached q.stands more m (subst (Clean scope q.state) e p.clean)

  -- one line further
  pub again : {b b' : List ℕ} {r : LineParts} (p : Passes scope q b r) {slots' : List Located} {frames' : List Frame} {a' : Open} {x' : S.State} {stop : ℕ}
      → x' ≡ advance_of x a.plan.count r.line → stop ≡ at + length (line_bytes (drop at t)) → length b' ≡ 8192
      → Behind b' r.used slots' frames' a' (advance_of x a.plan.count r.line) (advance q.state p.form)
      → Read scope t a' b' slots' frames' x' r.used (stop + 1) (i + 1)
  again p ex es lent b = rw (ex, es) (record {
    state = advance q.state p.form;
    reached = advance_reached scope lim q.state p.form q.reached p.clean;
    stands = advance-stands scope lim q.stands a.plan.count p.reads p.clean (end-lines p a.plan.count);
    behind = b;
    lent = lent;
    rest = p.onward ∙ ap (λ (j : ℕ). read_from scope (advance q.state p.form) j (lines (drop (at + length (line_bytes (drop at t)) + 1) t))) (sym (add-one i));
    within = omega (arith, p.inside);
    few = omega (arith, q.few);
    few_codes = omega (arith, p.few_codes);
  })

-- the answer with a refusal behind the last line, and with the program
module _ {scope : Scope} {t : List ℕ} {a : Open} {codes : List ℕ} {slots : List Located} {frames : List Frame} {x : S.State} {n at i : ℕ}
    (q : Read scope t a codes slots frames x n at i) where
  pub small : (x.steps ≤ 32) × (x.tally.rules ≤ 32)
  small = (omega (arith, q.reached.few, q.stands.steps_are), omega (arith, q.reached.rules.few, q.stands.tally_is.rules_are))

  program : C.Program
  program = record { slots = slots; frames = frames; steps = x.steps; lines = x.lines }

  program-is : program_of codes program ≡ q.state.steps
  unfolding program_of program
  program-is = q.behind.kept.steps_are

  pub room : length t ≤ 8192 → CodeRoom (length t) codes
  room h = record { room = omega (arith, q.lent); few = omega (arith, q.lent) }

  -- behind the last line
  ended : length t ≤ 8192 → length t ≤ at → read_from scope start 1 (lines t) ≡ cond (not (is_open q.state) && is_outside q.state.around) (O.done q.state.steps) (refused 8 i)
  unfolding lines read_from closed_text
  ended o h = q.rest ∙ ap (λ (u : List ℕ). read_from scope q.state i (lines u)) (drop_of_length-le t h)

  pub answer-last : length t ≤ 8192 → length t ≤ at → (e : Refusal) → refusal_number e ≡ last_refusal x
      → Answers codes (read_from scope start 1 (lines t)) (Err (record { refusal = e; line = i }))
  unfolding check_outcome
  answer-last o h e is = record {
    outcome_is = sym (ended o h ∙ go (not (is_open q.state) && is_outside q.state.around) (is ∙ last-is q.stands));
    complete = tt;
  }
    where
      go : (b : Bool) → refusal_number e ≡ cond b 0 8 → cond b (O.done q.state.steps) (refused 8 i) ≡ refused (refusal_number e) i
      go true z = absurd (not_none e z)
      go false z = rw z

  pub answer-read : length t ≤ 8192 → length t ≤ at → last_refusal x ≡ 0
      → Answers codes (read_from scope start 1 (lines t)) (Ok (record { slots = slots; frames = frames; steps = x.steps; lines = x.lines }))
  unfolding check_outcome program
  answer-read o h is =
      let kept = q.behind.kept in
      record {
        outcome_is = rw (ended o h, program-is) (go (not (is_open q.state) && is_outside q.state.around) (sym (last-is q.stands) ∙ is));
        complete = record {
          slots_length = kept.slots_length;
          framed = rw program-is kept.framed;
          located = all_located codes n (omega (arith, q.lent, q.few_codes, q.within)) slots (take x.steps frames) kept.terms kept.placed;
          steps_are = rw program-is q.stands.steps_are;
          lines_are = rw program-is q.stands.lines_are;
        };
      }
    where
      go : (b : Bool) → ◌≡◌ {A = ℕ} (cond b 0 8) 0 → O.done q.state.steps ≡ cond b (O.done q.state.steps) (refused 8 i)
      go true z = refl
      go false z = absurd (omega (arith, z))
