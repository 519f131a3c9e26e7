-- What the reader keeps of the lines so far stands for the state of the definition.
use Prim.Native.Nat.{ℕ, zero, suc, ◌+◌, ◌<◌, max}
use mathlib.Core.Path.{◌≡◌, refl, sym, ap, ◌∙◌}
use mathlib.Core.Bool.{Bool, true, false, ◌||◌, or-true, or-false}
use mathlib.Core.List.{List, [], ◌∷◌, ◌++◌}
use mathlib.Core.Option.{some}
use native.Mathlib.Omega.{arith}
use native.Mathlib.Decide.{ℕ_discrete}
use borrow.Author.Tests.{eq-eqb, ne_eqb}
use lib.Dec.{eqb}
use lib.ListN.{length, get_or, set, replicate, length-append, length-set}
use lib.Seq.{get_or-set_same, get_or-set_other}
use Rattle.register.specs.Shape.{Limits}
use Rattle.chain.proofs.Fields.{field_below}
use Rattle.text_syntax.specs.Tree.{rule_of}
use Rattle.text_syntax.specs.Written.{Line, end}
use Rattle.text_syntax.specs.Parts.{named, field_named}
use Rattle.text_rules.proofs.Passing.{close_length}
use Rattle.program.specs.declared.rule.Sort.TheVariants.{Least, Total}
use Rattle.program.specs.declared.rule.Rule as C
use Rattle.program.specs.declared.rule.Rule.TheVariants.{Set, Combine, Remote}
use Rattle.program.specs.declared.rule.Slot.{Slot}
use Rattle.program.specs.Stored.{target_in, rule_in}
use Rattle.program.specs.Program as P
use Rattle.program.specs.Program.{Target, Rule, Step, step_plan, writes, is_remote, has_remote, most_lines, is_least, is_total, some_target}
use Rattle.text_rules.specs.Check.{is_open, open_rules}
use Rattle.text_rules.specs.Check as K
use Rattle.text_rules.specs.Text.{close_loop, with_step, advance, start}
use Rattle.text_rules.specs.LineRead.{line_checks, all_pass, Reads, step_line, end_line, done-line, loop_line, rule-line}
use Rattle.text_rules.specs.declared.line.LineRead.{LineRead}
use Rattle.text_rules.specs.declared.scope.Scope.{Scope}
use Rattle.text_rules.proofs.Checked.{Clean, rule-passes}
use Rattle.program.proofs.Rules.{some-append}
use Rattle.text_state.specs.State.{no_rules, more_rules, with_remote, with_rule, start_state, standing, advance_of}
use Rattle.text_state.specs.declared.tally.Tally.{Tally}
use Rattle.text_state.specs.declared.state.State.{State}

-- what is kept of the rules of the open step
pub record Counts (x : Tally) (rs : List Rule) : Type 0 where
  pub rules_are : x.rules ≡ length rs
  pub remote_is : x.remote ≡ has_remote rs
  pub fields_length : length x.fields ≡ 16
  pub leasts_length : length x.leasts ≡ 16
  pub totals_length : length x.totals ≡ 16
  pub fields_are : (f : ℕ) → get_or x.fields f false ≡ some_target (writes f) rs
  pub leasts_are : (f : ℕ) → get_or x.leasts f false ≡ some_target (is_least f) rs
  pub totals_are : (f : ℕ) → get_or x.totals f false ≡ some_target (is_total f) rs

pub record Stands (x : State) (st : K.State) : Type 0 where
  pub steps_are : x.steps ≡ length st.steps
  pub lines_are : x.lines ≡ most_lines st.steps
  pub around_is : x.around ≡ st.around
  pub in_step : x.in_step ≡ is_open st
  pub tally_is : Counts x.tally (open_rules st)

none_taken : (n f : ℕ) → get_or (replicate n false) f false ≡ false
none_taken zero f = refl
none_taken (suc n) zero = refl
none_taken (suc n) (suc f) = none_taken n f

counts_none : Counts no_rules []
unfolding no_rules has_remote some_target
counts_none = record {
  rules_are = refl;
  remote_is = refl;
  fields_length = refl;
  leasts_length = refl;
  totals_length = refl;
  fields_are = none_taken 16;
  leasts_are = none_taken 16;
  totals_are = none_taken 16;
}

pub start-stands : Stands start_state start
unfolding start_state start most_lines is_open open_rules
start-stands = record { steps_are = refl; lines_are = refl; around_is = refl; in_step = refl; tally_is = counts_none }

-- a field that has taken a write, and the others
taken_more : (l : List Bool) (g f : ℕ) → g < length l → get_or (set l g true) f false ≡ get_or l f false || eqb f g
taken_more l g f h = go (ℕ_discrete f g)
  where
    go : Dec (f ≡ g) → get_or (set l g true) f false ≡ get_or l f false || eqb f g
    go (yes e) = rw (e, get_or-set_same l g true false h, eq-eqb g g refl, or-true)
    go (no n) = get_or-set_other l g f true false n ∙ sym (ap (λ (b : Bool). get_or l f false || b) (ne_eqb f g n) ∙ or-false _)

-- one more rule, by what it adds
module _ {x : Tally} {rs : List Rule} (h : Counts x rs) (r : Rule) where
  -- the fields that have taken one sort of write: as before, or with the rule's own
  module _ (sort : ℕ → Target → Bool) (l : List Bool) (k : (f : ℕ) → get_or l f false ≡ some_target (sort f) rs) where
    sort_same : ((f : ℕ) → sort f r.target ≡ false) → (f : ℕ) → get_or l f false ≡ some_target (sort f) (rs ++ (r ∷ []))
    sort_same b f = k f ∙ sym (some-append (sort f) rs r ∙ rw (b f, or-false))

    sort_taken : (g : ℕ) → g < length l → ((f : ℕ) → sort f r.target ≡ eqb f g)
        → (f : ℕ) → get_or (set l g true) f false ≡ some_target (sort f) (rs ++ (r ∷ []))
    sort_taken g i b f = taken_more l g f i ∙ sym (some-append (sort f) rs r ∙ rw (b f, k f))

  -- the rule writes its field
  module _ (k : P.target_field r.target < 16) where
    abbrev fields : List Bool
    fields = set x.fields (P.target_field r.target) true

    counts_more : (remote : Bool) (leasts totals : List Bool) → remote ≡ has_remote rs || is_remote r.target → length leasts ≡ 16 → length totals ≡ 16
        → ((f : ℕ) → get_or leasts f false ≡ some_target (is_least f) (rs ++ (r ∷ [])))
        → ((f : ℕ) → get_or totals f false ≡ some_target (is_total f) (rs ++ (r ∷ [])))
        → Counts (record { rules = x.rules + 1; remote = remote; fields = fields; leasts = leasts; totals = totals }) (rs ++ (r ∷ []))
    unfolding writes has_remote
    counts_more remote leasts totals a m n b d = record {
      rules_are = rw (h.rules_are, length-append rs (r ∷ []));
      remote_is = a ∙ sym (some-append is_remote rs r);
      fields_length = length-set x.fields _ true ∙ h.fields_length;
      leasts_length = m;
      totals_length = n;
      fields_are = sort_taken writes x.fields h.fields_are _ (omega (arith, k, h.fields_length)) (λ f. refl);
      leasts_are = b;
      totals_are = d;
    }

    counts_local : is_remote r.target ≡ false → ((f : ℕ) → is_least f r.target ≡ false) → ((f : ℕ) → is_total f r.target ≡ false)
        → Counts (more_rules x (P.target_field r.target)) (rs ++ (r ∷ []))
    unfolding more_rules
    counts_local a b d =
        counts_more x.remote x.leasts x.totals (h.remote_is ∙ sym (rw (a, or-false))) h.leasts_length h.totals_length
        (sort_same is_least x.leasts h.leasts_are b) (sort_same is_total x.totals h.totals_are d)

-- a rule in the array, which writes where a rule of the program does
counts_rule : {x : Tally} {rs : List Rule} (c : C.Rule) (r : Rule) → Counts x rs → r.target ≡ target_in c → P.target_field r.target < 16
    → Counts (with_rule x c) (rs ++ (r ∷ []))
unfolding with_rule more_rules with_remote target_in P.target_field is_remote is_least is_total
counts_rule {x} {rs} c r h e k = go c e k
  where
    go : (c : C.Rule) → r.target ≡ target_in c → P.target_field r.target < 16 → Counts (with_rule x c) (rs ++ (r ∷ []))
    go (Set f y) e k = rw (ap P.target_field e) at (counts_local h r k (ap is_remote e) (λ i. ap (is_least i) e) (λ i. ap (is_total i) e))
    go (Combine f op y z) e k = rw (ap P.target_field e) at (counts_local h r k (ap is_remote e) (λ i. ap (is_least i) e) (λ i. ap (is_total i) e))
    go (Remote Least f c y) e k =
        let n : f < 16 = rw (ap P.target_field e) at k in
        let taken = sort_taken h r is_least x.leasts h.leasts_are f (omega (arith, n, h.leasts_length)) (λ i. ap (is_least i) e) in
        rw (ap P.target_field e) at (counts_more h r k true (set x.leasts f true) x.totals (sym (rw (ap is_remote e) (or-true (has_remote rs))))
        (length-set x.leasts f true ∙ h.leasts_length) h.totals_length
        taken (sort_same h r is_total x.totals h.totals_are (λ i. ap (is_total i) e)))
    go (Remote Total f c y) e k =
        let n : f < 16 = rw (ap P.target_field e) at k in
        let taken = sort_taken h r is_total x.totals h.totals_are f (omega (arith, n, h.totals_length)) (λ i. ap (is_total i) e) in
        rw (ap P.target_field e) at (counts_more h r k true x.leasts (set x.totals f true) (sym (rw (ap is_remote e) (or-true (has_remote rs))))
        h.leasts_length (length-set x.totals f true ∙ h.totals_length)
        (sort_same h r is_least x.leasts h.leasts_are (λ i. ap (is_least i) e)) taken)

rule-target : (k : List ℕ) (x : Slot) (r : Rule) → rule_in k x ≡ r → r.target ≡ target_in x.rule
unfolding rule_in
rule-target k x r e = sym (ap (λ (r : Rule). r.target) e)

-- the most lines with one more step, and with the last step the last of its loop
most-append : (xs : List Step) (x : Step) → most_lines (xs ++ (x ∷ [])) ≡ max (most_lines xs) (length (step_plan x.rules))
unfolding most_lines
most-append [] x = omega arith
most-append (y ∷ xs) x = ap (max (length (step_plan y.rules))) (most-append xs x) ∙ omega arith

most_close : (xs : List Step) → most_lines (close_loop xs) ≡ most_lines xs
unfolding most_lines close_loop
most_close [] = refl
most_close (x ∷ []) = refl
most_close (x ∷ y ∷ xs) = ap (max (length (step_plan x.rules))) (most_close (y ∷ xs))

-- a line that is clean passes what is asked of it
pub clean_passes : {scope : Scope} {st : K.State} {l : Line} → Clean scope st l → all_pass (line_checks scope.sizes l) ≡ true
unfolding all_pass line_checks
clean_passes k = rw (k.is_named, k.is_kinded, k.is_short, k.in_range, k.is_shallow, k.few_operators)

-- behind a line that has passed; n is the number of lines of the open step's plan, y is what was read of the line
module _ (scope : Scope) (lim : Limits scope.sizes) {x : State} {st : K.State} (h : Stands x st) (n : ℕ) where
  pub advance-stands : {codes : List ℕ} {l : Line} {y : LineRead} → Reads scope.sizes codes (some l) y → Clean scope st l
      → (l ≡ end → n ≡ length (step_plan (open_rules st))) → Stands (advance_of x n y) (advance st l)
  unfolding advance_of standing advance is_open open_rules named field_named
  advance-stands step_line k e = record { steps_are = h.steps_are; lines_are = h.lines_are; around_is = h.around_is; in_step = refl; tally_is = counts_none }
  advance-stands end_line k e = record {
    steps_are = rw (h.steps_are, length-append);
    lines_are = rw (h.lines_are, e refl, most-append);
    around_is = ap with_step h.around_is;
    in_step = refl;
    tally_is = counts_none;
  }
  advance-stands done-line k e = record {
    steps_are = h.steps_are ∙ sym (close_length st.steps);
    lines_are = h.lines_are ∙ sym (most_close st.steps);
    around_is = refl;
    in_step = refl;
    tally_is = counts_none;
  }
  advance-stands (loop_line f) k e = record { steps_are = h.steps_are; lines_are = h.lines_are; around_is = refl; in_step = refl; tally_is = counts_none }
  advance-stands {codes} (rule-line c a y w) k e =
      let r : Rule = rule_of c a in
      let passed = rule-passes scope lim st c a k in
      record {
        steps_are = h.steps_are;
        lines_are = h.lines_are;
        around_is = h.around_is;
        in_step = refl;
        tally_is = counts_rule y.rule r h.tally_is (rule-target codes y r (w (clean_passes k)).rule_is) (field_below scope.sizes lim (P.target_field r.target) passed.field);
      }
