-- Lines, from the answers for their parts.
use Prim.Native.Nat.{ℕ, ◌+◌, ◌≤◌}
use mathlib.Core.Path.{◌≡◌, refl, sym, ap, ap₂, subst, ◌∙◌}
use mathlib.Core.Bool.{Bool, true, false}
use mathlib.Core.List.{List, [], ◌∷◌}
use mathlib.Core.Option.{Option, some, map}
use native.Mathlib.Omega.{arith}
use Rattle.std.specs.Prelude as Std
use Rattle.std.specs.Prelude.{Some, None}
use Rattle.register.specs.declared.Sizes.{Sizes}
use Rattle.chain_text.specs.Text.{names, letter_field}
use Rattle.program.specs.declared.rule.Test.{Test}
use Rattle.program.specs.declared.rule.Test.TheVariants.{When}
use Rattle.program.specs.declared.rule.Rule.{Rule}
use Rattle.program.specs.declared.rule.Slot.{Slot}
use Rattle.program.specs.declared.rule.Comparison.{Comparison}
use Rattle.program.specs.Program as P
use Rattle.program.specs.Stored.{test_in, rule_in}
use Rattle.program.specs.Terms.{TestTerms, TermFormed, TermInside}
use Rattle.program.proofs.Agreeing.{test-map, rule-map, test-both, inside-more, from_less, term_same, formed-same, test-same}
use Rattle.program.specs.Code.{SameBelow}
use Rattle.text_syntax.specs.Token.{Token, letter, stepWord, end_word, doneWord, loopWord, ifWord, colon, comparison}
use Rattle.text_syntax.specs.Lexing.{tokens}
use Rattle.text_syntax.specs.Kind.{kind, letter_in, comparison_in, fixed_in, same, is}
use Rattle.text_syntax.specs.Form.{Form, formed, unformed, held, one_of, past, then, or, whole}
use Rattle.text_syntax.specs.Written.{Expression, Condition, always, when, Action, Line, loop, rule}
use Rattle.text_syntax.specs.Grammar.{expression, rule_form, compared_form, tested_form, any_form}
use Rattle.text_syntax.specs.Tree.{test_of, rule_of}
use Rattle.text_syntax.proofs.Lines.{if_first}
use Rattle.text_rules.specs.declared.line.Checks.{Checks}
use Rattle.text_rules.specs.declared.line.LineRead.{LineRead}
use Rattle.text_rules.specs.declared.line.LineRead.TheVariants.{Loop, NoForm, Rule as RuleLine}
use Rattle.text_rules.specs.LineRead.{line_checks, all_pass, RuleRead, Reads, no_form, loop_line, rule-line}
use Rattle.text_places.specs.Place.{tokens_from, begins, Passing, Absent}
use Rattle.text_expressions.specs.Reading.{Unread}
use Rattle.text_places.proofs.Places.{past-absent}
use Rattle.text_places.specs.Word.{is_empty, NoComparison}
use Rattle.text_checks.specs.Checks.{summary_checks, both_checks, condition_checks}
use Rattle.text_sides.specs.declared.side.Side.{Side}
use Rattle.text_actions.specs.declared.action.ActionParts.{ActionParts}
use Rattle.text_sides.specs.Side.{Holds, SideFormed}
use Rattle.text_actions.specs.Action.{action_form, ActionHeld, ActionFormed, NoAction}
use Rattle.text_lines.specs.Line.{no_parts, word_read, loop_field, loop_read, TestHeld, Leaves, LineAt, NoLine, FormAt, RuledBehind, ComparedBehind, tested_behind}
use Rattle.text_demands.specs.Demands.{when_parts, always_parts}
use Rattle.text_lines.specs.declared.line.LineParts.{LineParts}
use Rattle.text_demands.specs.declared.test.TestParts.{TestParts}
use Rattle.text_demands.specs.declared.test.FirstSide.{FirstSide}
use Rattle.text_checks.proofs.Passing.{both_pass, both-same}
use Rattle.text_lines.proofs.Tests.{when_pass, when_checks, line_checks_lem}

-- what stands below n is the same in arrays that agree there
module _ (a b : List ℕ) {n : ℕ} (agree : SameBelow a b n) where
  test-formed : (t : Test) → TestTerms (TermInside n) t → TestTerms (TermFormed a) t → TestTerms (TermFormed b) t
  test-formed t h f = test-map (λ x p. formed-same a b agree x p.0 p.1) t (test-both (TermInside n) (TermFormed a) t h f)

  kept_on : (o : List ℕ) {m : ℕ} → m ≤ n → SameBelow o a m → SameBelow o b m
  kept_on o l h i p = h i p ∙ agree i (omega (arith, l, p))

-- no line of document 01
pub no_line : (s : Sizes) (line : List ℕ) {form : Form Line} (a b : List ℕ) (count : ℕ) → NoLine form → LineAt s line 0 form a b count count (no_parts count)
no_line s line a b count h = record {
  reads = subst (λ (o : Option Line). Reads s b o NoForm) (sym h.none) no_form;
  leaves = tt;
  more_codes = omega arith;
  few_codes = omega arith;
}

unformed_line : {form : Form Line} → form ≡ unformed → NoLine form
unfolding whole
unformed_line e = record { none = ap whole e }

-- a line from a place on is one from a place before it, where its tokens have that form
line-from : (s : Sizes) (line : List ℕ) (at start : ℕ) {form inner : Form Line} (a b : List ℕ) (from count to : ℕ) (r : Std.Option LineParts)
    → inner ≡ form → to + at ≤ count + start → FormAt s line start inner a b from to r → FormAt s line at form a b from count r
line-from s line at start a b from count to (Some r) e l h = record {
  reads = subst (λ (f : Form Line). Reads s b (whole f) r.line) e h.reads;
  leaves = h.leaves;
  more_codes = h.more_codes;
  few_codes = omega (arith, l, h.few_codes);
}
line-from s line at start a b from count to None e l h = record { none = ap whole (sym e) ∙ h.none }

-- a rule to the end of the line, behind its test
whole-rule : (c : Condition) (f : Form Action) → whole (then f (λ a. formed (rule c a))) ≡ map (rule c) (whole f)
unfolding whole then
whole-rule c unformed = refl
whole-rule c (formed a []) = refl
whole-rule c (formed a (t ∷ r)) = refl

rule-whole : (c : Condition) (ts : List Token) {o : Option Action} → whole (action_form ts) ≡ o → whole (rule_form c ts) ≡ map (rule c) o
unfolding rule_form action_form
rule-whole c ts e = whole-rule c (action_form ts) ∙ ap (map (rule c)) e

-- the rule in the array, behind its test whose codes stand before its own
module _ {c : Condition} {w : Action} {a b : List ℕ} {from count to : ℕ} {t : Test} {r : Rule} (x : TestHeld a from count c t)
    (y : ActionHeld a b count to w r) where
  rule-held : RuleRead b c w (record { test = t; rule = r })
  unfolding rule_in rule_of
  rule-held = record {
    rule_is = rw (sym (test-same a b y.kept t x.inside), x.test_is, y.target_is, y.expression_is);
    formed = (test-formed a b y.kept t x.inside x.formed, y.formed);
  }

module _ (s : Sizes) (line : List ℕ) (at : ℕ) (t : TestParts) (a b : List ℕ) (count : ℕ) where
  pub not-ruled : NoAction (action_form (tokens_from false line at)) → RuledBehind s line at t a b count None
  not-ruled h c o from l k w = record { none = rule-whole c _ h.none }

  pub ruled : (x : ActionParts) (asked : Checks) → asked ≡ both_checks t.checks x.checks
      → ActionFormed s line at (action_form (tokens_from false line at)) a b count x
      → RuledBehind s line at t a b count (Some (record { line = RuleLine (record { test = t.test; rule = x.rule }) asked; used = x.used }))
  ruled x asked j h c o from l e w = record {
    reads = subst (λ (f : Option Line). Reads s b f (RuleLine slot asked)) (sym (rule-whole c _ h.form_is))
        (subst (λ (z : Checks). Reads s b (some (rule c h.written)) (RuleLine slot z)) (sym same_checks)
        (rule-line c h.written slot (λ p. let q = passes (ap all_pass same_checks ∙ p) in rule-held (w q.0).0 (h.held q.1))));
    leaves = λ p.
        let q = passes p in
        let z = (w q.0).0 in
        let y = h.held q.1 in (
          (z.behind, rule-map (from_less l) x.rule y.behind),
          (test-map (inside-more h.more_codes) t.test z.inside, y.inside),
          kept_on a b y.kept o l (w q.0).1,
        );
    more_codes = omega (arith, l, h.more_codes);
    few_codes = h.few_codes;
  }
    where
      slot : Slot
      slot = record { test = t.test; rule = x.rule }

      same_checks : asked ≡ line_checks s (rule c h.written)
      same_checks = j ∙ both-same e h.checks_are ∙ sym (line_checks_lem s c h.written)

      passes : all_pass asked ≡ true → (all_pass t.checks ≡ true) × (all_pass x.checks ≡ true)
      passes p = both_pass t.checks x.checks (sym (ap all_pass j) ∙ p)

-- a rule without a test
always_held : (s : Sizes) (line : List ℕ) (at : ℕ) (a b : List ℕ) (count : ℕ) (r : Std.Option LineParts) {t : TestParts} → t ≡ always_parts
    → RuledBehind s line at t a b count r → FormAt s line at (rule_form always (tokens_from false line at)) a b count count r
unfolding condition_checks test_in test_of
always_held s line at a b count r {t} e h =
    subst (λ (t : TestParts). RuledBehind s line at t a b count r) e h always a count (omega arith) refl
    (λ p. (record { test_is = refl; formed = tt; behind = tt; inside = tt }, λ i l. refl))

-- what stands behind `if X <`, and behind `if`
compared_at : (x : Expression) (c : Comparison) (ts : List Token) {f : Form Expression} → expression ts ≡ f
    → compared_form x c ts ≡ then f (λ y r. past colon r (rule_form (when x c y)))
unfolding compared_form
compared_at x c ts h = ap (λ (f : Form Expression). then f (λ y r. past colon r (rule_form (when x c y)))) h

tested_at : (ts : List Token) {f : Form Expression} → expression ts ≡ f → tested_behind ts ≡ then f (λ x r. then (one_of comparison_in r) (compared_form x))
unfolding tested_behind
tested_at ts h = ap (λ (f : Form Expression). then f (λ x r. then (one_of comparison_in r) (compared_form x))) h

-- the second side of a test and a rule, behind the first
module _ (s : Sizes) (line : List ℕ) (at : ℕ) (x : FirstSide) (a b : List ℕ) (count : ℕ) where
  pub no_second : Unread expression line at → ComparedBehind s line at x a b count None
  unfolding then
  no_second h e o from l k w = unformed_line (compared_at e x.comparison _ h.none)

  module _ {m : List ℕ} {y : Side} (d : SideFormed s line at a m count y) where
    pub no_colon : Absent false colon line y.end → ComparedBehind s line at x a b count None
    unfolding then
    no_colon h e o from l k w =
        unformed_line (compared_at e x.comparison _ d.form_is ∙ past-absent colon _ (rule_form (when e x.comparison d.written)) h.absent)

    test-held : {e : Expression} (o : List ℕ) {from : ℕ} → from ≤ count → Holds a from count e x.term → SameBelow o a from
        → Holds m count y.used d.written y.term → SameBelow a m count
        → TestHeld m from y.used (when e x.comparison d.written) (When x.term x.comparison y.term) × SameBelow o m from
    unfolding test_in test_of
    test-held o l p k q j = (
      record {
        test_is = ap₂ (λ (u v : P.Expression). P.when u x.comparison v) (sym (term_same a m j x.term p.inside) ∙ p.term_is) q.term_is;
        formed = (formed-same a m j x.term p.inside p.formed, q.formed);
        behind = (p.behind, from_less l y.term q.behind);
        inside = (inside-more d.more_codes x.term p.inside, q.inside);
      },
      kept_on a m j o l k,
    )

    pub compared : {start : ℕ} (r : Std.Option LineParts) {t : TestParts} → t ≡ when_parts x y.seen y.term
        → Passing false false colon line y.end start → RuledBehind s line start t m b y.used r → ComparedBehind s line at x a b count r
    unfolding then past is same fixed_in kind
    compared {start} r j h z e o from l k w =
        let c = when e x.comparison d.written in
        line-from _ _ _ _ _ _ _ _ _ r (sym (compared_at e x.comparison _ d.form_is ∙ ap (λ (ts : List Token). past colon ts (rule_form c)) h.text))
        (omega (arith, d.few_codes, h.behind.onward))
        (subst (λ (t : TestParts). RuledBehind s line start t m b y.used r) j z c o from (omega (arith, l, d.more_codes))
        (when_checks s x.seen y.seen e d.written x.comparison k d.summary_is)
        (λ p.
        let q = when_pass (summary_checks x.seen) (summary_checks y.seen) _ p in
        test-held o l (w q.0).0 (w q.0).1 (d.holds q.1) (d.kept q.1)))

-- a test and a rule, behind `if`
module _ (s : Sizes) (line : List ℕ) (at : ℕ) (a b : List ℕ) (count : ℕ) where
  pub no_first : Unread expression line at → NoLine (tested_behind (tokens_from true line at))
  unfolding then
  no_first h = unformed_line (tested_at _ h.none)

  module _ {m : List ℕ} {x : Side} (d : SideFormed s line at a m count x) where
    pub no_comparison : NoComparison line x.end → NoLine (tested_behind (tokens_from true line at))
    unfolding then
    no_comparison h = unformed_line (tested_at _ d.form_is ∙ ap (λ (f : Form Comparison). then f (compared_form d.written)) h.none)

    pub tested : {c : Comparison} {start : ℕ} (r : Std.Option LineParts) → Passing false true (comparison c) line x.end start
        → ComparedBehind s line start (record { seen = x.seen; term = x.term; comparison = c }) m b x.used r
        → FormAt s line at (tested_behind (tokens_from true line at)) a b count count r
    unfolding then one_of held comparison_in kind
    tested {c} r h z =
        line-from _ _ _ _ _ _ _ _ _ r (sym (tested_at _ d.form_is ∙ ap (λ (ts : List Token). then (one_of comparison_in ts) (compared_form d.written)) h.text))
        (omega (arith, d.few_codes, h.behind.onward))
        (z d.written a count d.more_codes d.summary_is (λ p. (d.holds p, d.kept p)))

-- a loop's field
pub no_letter : (s : Sizes) (count : ℕ) (ts : List Token) → one_of letter_in ts ≡ unformed → None ≡ loop_read s count ts
unfolding loop_read loop_field
no_letter s count ts h = rw h

pub loop_letter : (s : Sizes) (count : ℕ) {l : ℕ} {line : List ℕ} {at end f : ℕ} {n : Bool} {r : Std.Option LineParts} → Passing false false (letter l) line at end
    → f ≡ letter_field l → n ≡ names s l → r ≡ word_read (Loop f n) count (tokens_from false line end) → r ≡ loop_read s count (tokens_from false line at)
unfolding loop_read loop_field one_of held letter_in kind
loop_letter s count p e q h = h ∙ rw (p.text, e, q)

-- a line that is one word or a loop, by its first token
module _ (s : Sizes) (line : List ℕ) (a : List ℕ) (count : ℕ) where
  word_formed : {form : Form Line} (l : Line) (w : LineRead) (r : List Token) → form ≡ formed l r → Reads s a (some l) w
      → Leaves a a count count w → FormAt s line 0 form a a count count (word_read w count r)
  unfolding word_read is_empty whole
  word_formed l w [] e h k = record {
    reads = subst (λ (f : Form Line). Reads s a (whole f) w) (sym e) h;
    leaves = k;
    more_codes = omega arith;
    few_codes = omega arith;
  }
  word_formed l w (t ∷ r) e h k = record { none = ap whole e }

  pub word_at : {form : Form Line} (l : Line) (w : LineRead) (r : List Token) {z : Std.Option LineParts} → form ≡ formed l r → Reads s a (some l) w
      → Leaves a a count count w → z ≡ word_read w count r → FormAt s line 0 form a a count count z
  word_at {form} l w r e h k q = subst (FormAt s line 0 form a a count count) (sym q) (word_formed l w r e h k)

  pub loop_at : {form : Form Line} (r : List Token) {z : Std.Option LineParts} → form ≡ then (one_of letter_in r) (λ f. formed (loop f))
      → z ≡ loop_read s count r → FormAt s line 0 form a a count count z
  unfolding loop_read loop_field then
  loop_at {form} r {z} e q = go (one_of letter_in r) e q
    where
      go : (f : Form ℕ) → form ≡ then f (λ f. formed (loop f)) → z ≡ loop_field s count f → FormAt s line 0 form a a count count z
      go unformed e q = subst (FormAt s line 0 form a a count count) (sym q) (unformed_line e)
      go (formed f r) e q = word_at (loop f) (Loop (letter_field f) (names s f)) r e (loop_line f) (λ i l. refl) q

-- a line that begins with `if`
pub if_line : (s : Sizes) (line a b : List ℕ) (end count : ℕ) (r : Std.Option LineParts) → tokens_from false line 0 ≡ ifWord ∷ tokens_from true line end
    → FormAt s line end (tested_behind (tokens_from true line end)) a b count count r → FormAt s line 0 (any_form (tokens line)) a b count count r
unfolding tested_behind tokens
if_line s line a b end count r e h = line-from _ _ _ _ _ _ _ _ _ r (sym (ap any_form e ∙ if_first _)) (omega arith) h

-- a line that begins with none of the words before a rule
only-rule : (ts : List Token) → begins stepWord ts ≡ false → begins end_word ts ≡ false → begins doneWord ts ≡ false → begins loopWord ts ≡ false
    → begins ifWord ts ≡ false → any_form ts ≡ rule_form always ts
unfolding any_form tested_form or
only-rule ts a b c d e =
    rw (past-absent stepWord ts _ a, past-absent end_word ts _ b, past-absent doneWord ts _ c, past-absent loopWord ts _ d, past-absent ifWord ts _ e)

pub rule-line-at : (s : Sizes) (line a b : List ℕ) (count : ℕ) (r : Std.Option LineParts) → Absent false stepWord line 0 → Absent false end_word line 0
    → Absent false doneWord line 0 → Absent false loopWord line 0 → Absent false ifWord line 0 → {t : TestParts} → t ≡ always_parts
    → RuledBehind s line 0 t a b count r → FormAt s line 0 (any_form (tokens line)) a b count count r
unfolding tokens
rule-line-at s line a b count r x y z u v e h =
    line-from _ _ _ _ _ _ _ _ _ r (sym (only-rule _ x.absent y.absent z.absent u.absent v.absent)) (omega arith) (always_held s line 0 a b count r e h)
