-- The refusal of a line, as the reader finds it, is the lowest number that applies to it.
use Prim.Native.Nat.{ℕ, ◌≤◌}
use mathlib.Core.Path.{◌≡◌, refl, sym, ap, ◌∙◌}
use mathlib.Core.Bool.{Bool, true, false, cond, not, ◌&&◌, ◌||◌}
use mathlib.Core.List.{List}
use mathlib.Core.Option.{Option, none, some}
use native.Mathlib.Omega.{arith}
use native.Mathlib.Decide.{dec_le}
use borrow.Author.Tests.{le-ltb, lt-ltb, le-leb, lt-leb}
use lib.Dec.{leb, ltb}
use lib.ListN.{length}
use Rattle.laws.specs.Outcome.{or_else}
use Rattle.chain_text.specs.Text.{letter_field}
use Rattle.text_syntax.specs.Written as W
use Rattle.text_syntax.specs.Written.{Line, rule}
use Rattle.text_syntax.specs.Parts.{named, kinded, short, numbers_in_range, shallow, few_operators, field_named, terms_pass, expressions, every_expression, kinds_agree}
use Rattle.text_syntax.specs.Tree.{target_of, rule_of}
use Rattle.program.specs.declared.rule.Rule as C
use Rattle.program.specs.declared.rule.Rule.TheVariants.{Set, Combine, Remote}
use Rattle.program.specs.declared.rule.Slot.{Slot}
use Rattle.program.specs.Stored.{target_in, rule_in}
use Rattle.text_rules.specs.declared.line.Checks.{Checks}
use Rattle.text_rules.specs.declared.line.LineRead.{LineRead}
use Rattle.text_rules.specs.declared.scope.Scope.{Scope}
use Rattle.text_rules.specs.LineRead.{line_checks, all_pass, RuleRead, Reads, no_form, step_line, end_line, done-line, loop_line, rule-line}
use Rattle.program.specs.declared.rule.Sort.TheVariants.{Least, Total}
use Rattle.program.specs.Program.{Rule, step_plan}
use Rattle.text_rules.specs.Check.{State, is_outside, is_open, open_rules, in_place, has_room, one_sort, sorts_agree, plan_fits, line_refusal}
use Rattle.text_state.specs.State.{other_sort}
use Rattle.text_refusals.specs.Refusal.{checks_refusal, step_refusal, end_refusal, misplaced, done_refusal, loop_refusal, rule_refusal, refusal_of, last_refusal}
use Rattle.text_state.specs.declared.tally.Tally.{Tally}
use Rattle.text_state.specs.declared.state.State as S
use Rattle.text_state.proofs.Standing.{Counts, Stands}

-- the lowest number that applies to a line, 7 where it has no form
unfoldable pub number : Scope → State → Option Line → ℕ
number scope st none = 7
number scope st (some l) = line_refusal scope st l

not-not : (b : Bool) → not (not b) ≡ b
not-not true = refl
not-not false = refl

-- where a rule that is read writes
read-target : {k : List ℕ} {c : W.Condition} {a : W.Action} {y : Slot} → RuleRead k c a y → target_in y.rule ≡ target_of a
unfolding rule_in rule_of
read-target w = ap (λ (r : Rule). r.target) w.rule_is

-- whether its field has taken the other sort, by where it writes
target_sort : (x : Tally) (rs : List Rule) (r : C.Rule) → Counts x rs → (a : W.Action) → target_in r ≡ target_of a → other_sort x r ≡ not (one_sort rs a)
unfolding other_sort one_sort target_in target_of
target_sort x rs (Set f y) h (W.set g e) q = refl
target_sort x rs (Combine f op y z) h (W.set g e) q = refl
target_sort x rs (Remote sort f c y) h (W.set g e) q = absurd (let z : ◌≡◌ {A = ℕ} 0 1 = cc in omega arith)
target_sort x rs (Set f y) h (W.remote k g c e) q = absurd (let z : ◌≡◌ {A = ℕ} 0 1 = cc in omega arith)
target_sort x rs (Combine f op y z) h (W.remote k g c e) q = absurd (let z : ◌≡◌ {A = ℕ} 0 1 = cc in omega arith)
target_sort x rs (Remote Least f c y) h (W.remote Least g d e) q = let z : f ≡ letter_field g = cc in h.totals_are f ∙ rw z (sym (not-not _))
target_sort x rs (Remote Total f c y) h (W.remote Total g d e) q = let z : f ≡ letter_field g = cc in h.leasts_are f ∙ rw z (sym (not-not _))
target_sort x rs (Remote Least f c y) h (W.remote Total g d e) q = absurd (let z : ◌≡◌ {A = ℕ} 0 1 = cc in omega arith)
target_sort x rs (Remote Total f c y) h (W.remote Least g d e) q = absurd (let z : ◌≡◌ {A = ℕ} 0 1 = cc in omega arith)

not-leb : (n : ℕ) → ltb 64 n ≡ not (leb n 64)
not-leb n = go (dec_le n 64)
  where
    go : Dec (n ≤ 64) → ltb 64 n ≡ not (leb n 64)
    go (yes h) = rw (le-ltb 64 n h, le-leb n 64 h)
    go (no h) = rw (lt-ltb 64 n (omega arith), lt-leb n 64 (omega arith))

-- two reasons for 8
place_is : (o u : Bool) → o || not u ≡ not (not o && u)
place_is true u = refl
place_is false u = refl

and-done : (b : Bool) → b && true ≡ b
and-done true = refl
and-done false = refl

-- 9 to 12, 24 and 25, and behind them another number, which may depend on their passing
checks_first : (c : Checks) (n m : ℕ) → (all_pass c ≡ true → n ≡ m)
    → or_else (checks_refusal c) n ≡ cond (not c.named) 9 (cond (not c.kinded) 10 (cond (not c.short) 11 (cond (not c.ranged) 12 (cond (not c.shallow) 24 (cond (not c.few) 25 m)))))
unfolding checks_refusal all_pass or_else
checks_first c n m = go c.named c.kinded c.short c.ranged c.shallow c.few
  where
    go : (a b d e f g : Bool) → (a && (b && (d && (e && (f && g)))) ≡ true → n ≡ m)
        → or_else (cond (not a) 9 (cond (not b) 10 (cond (not d) 11 (cond (not e) 12 (cond (not f) 24 (cond (not g) 25 0)))))) n
        ≡ cond (not a) 9 (cond (not b) 10 (cond (not d) 11 (cond (not e) 12 (cond (not f) 24 (cond (not g) 25 m)))))
    go false b d e f g h = refl
    go true false d e f g h = refl
    go true true false e f g h = refl
    go true true true false f g h = refl
    go true true true true false g h = refl
    go true true true true true false h = refl
    go true true true true true true h = h refl

module _ (scope : Scope) {x : S.State} {st : State} (h : Stands x st) (full : Bool) (f : full ≡ ltb 64 (length (step_plan (open_rules st)))) where
  -- 13 and 14, of a rule that passes what is asked before
  rule-behind : {k : List ℕ} (c : W.Condition) (a : W.Action) (y : Slot) → RuleRead k c a y
      → ◌≡◌ {A = ℕ} (cond (not (ltb x.tally.rules 32)) 13 (cond (other_sort x.tally y.rule) 14 0))
      (cond (not (ltb (length (open_rules st)) 32)) 13 (cond (not (one_sort (open_rules st) a)) 14 0))
  rule-behind c a y w = rw (target_sort x.tally (open_rules st) y.rule h.tally_is a (read-target w), h.tally_is.rules_are)

  rule-number : {k : List ℕ} (c : W.Condition) (a : W.Action) (y : Slot) → (all_pass (line_checks scope.sizes (rule c a)) ≡ true → RuleRead k c a y)
      → rule_refusal x y.rule (line_checks scope.sizes (rule c a)) ≡ line_refusal scope st (rule c a)
  unfolding rule_refusal line_checks line_refusal in_place has_room sorts_agree plan_fits
  rule-number c a y w = rw (h.in_step, checks_first (line_checks scope.sizes (rule c a)) _ _ (λ p. rule-behind c a y (w p)))

  pub refusal_is : {k : List ℕ} {o : Option Line} {y : LineRead} → Reads scope.sizes k o y → refusal_of x full y ≡ number scope st o
  unfolding refusal_of number line_refusal step_refusal end_refusal misplaced done_refusal loop_refusal in_place has_room sorts_agree plan_fits named field_named kinded kinds_agree short numbers_in_range shallow few_operators terms_pass expressions every_expression
  refusal_is no_form = refl
  refusal_is step_line = rw (h.in_step, h.steps_are, not-not)
  refusal_is end_line = rw (h.in_step, f, not-leb)
  refusal_is done-line = rw (h.in_step, h.around_is, place_is)
  refusal_is (loop_line g) = rw (h.in_step, h.around_is, place_is, and-done)
  refusal_is (rule-line c a y w) = rule-number c a y w

-- behind the last line
pub last-is : {x : S.State} {st : State} → Stands x st → last_refusal x ≡ cond (not (is_open st) && is_outside st.around) 0 8
unfolding last_refusal misplaced
last-is {x} {st} h = rw (h.in_step, h.around_is, place_is) (go (not (is_open st) && is_outside st.around))
  where
    go : (b : Bool) → ◌≡◌ {A = ℕ} (cond (not b) 8 0) (cond b 0 8)
    go true = refl
    go false = refl
