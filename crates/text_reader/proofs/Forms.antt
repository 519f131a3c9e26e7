-- A line that has passed, by what was read of it.
use Prim.Native.Nat.{ℕ}
use mathlib.Core.Path.{◌≡◌, refl, ap, subst}
use mathlib.Core.Bool.{Bool}
use mathlib.Core.List.{List}
use mathlib.Core.Option.{some}
use native.Mathlib.Omega.{arith}
use Rattle.register.specs.declared.Sizes.{Sizes}
use Rattle.laws.proofs.Lists.{each_append}
use Rattle.program.specs.declared.rule.Slot.{Slot}
use Rattle.program.specs.Program as P
use Rattle.program.specs.Program.{expression_readings, test_readings, target_readings, rule_readings}
use Rattle.program.specs.Passed.{ExpressionPasses, TestPasses, TargetPasses, RulePasses}
use Rattle.program.specs.Code.{SameBelow}
use Rattle.program.specs.Stored.{rule_in}
use Rattle.program.specs.Terms.{SlotTerms, TermFrom, TermInside, TermFormed}
use Rattle.text_syntax.specs.Tree.{rule_of}
use Rattle.text_syntax.specs.Written.{Condition, Action, Line, step, end, done, loop, rule}
use Rattle.text_rules.specs.declared.line.Checks.{Checks}
use Rattle.text_rules.specs.declared.line.LineRead.{LineRead}
use Rattle.text_rules.specs.declared.line.LineRead.TheVariants as L
use Rattle.text_rules.specs.LineRead.{RuleRead, Reads, step_line, end_line, done-line, loop_line, rule-line}
use Rattle.text_rules.specs.Check.{State}
use Rattle.text_rules.specs.declared.scope.Scope.{Scope}
use Rattle.text_rules.proofs.Checked.{Clean}
use Rattle.text_state.proofs.Standing.{clean_passes}
use Rattle.text_lines.specs.Line.{Leaves}
use Rattle.text_readings.specs.Readings.{Short}

-- the readings of a rule that has passed are of at most 16 hops
module _ (s : Sizes) where
  expression-short : (e : P.Expression) → ExpressionPasses s e → Short (expression_readings e)
  unfolding expression_readings
  expression-short (P.reading w) p = (p.short, tt)
  expression-short (P.constant z) p = tt
  expression-short (P.operation op x y) p =
      each_append _ (expression_readings x) (expression_readings y) (expression-short x p.0.0) (expression-short y p.1.0)

  test_short : (t : P.Test) → TestPasses s t → Short (test_readings t)
  unfolding test_readings
  test_short P.always p = tt
  test_short (P.when x c y) p = each_append _ (expression_readings x) (expression_readings y) (expression-short x p.0) (expression-short y p.1)

  target-short : (t : P.Target) → TargetPasses s t → Short (target_readings t)
  unfolding target_readings
  target-short (P.own f) p = tt
  target-short (P.remote k f c) p = (p.passes.short, tt)

  pub rule-short : (r : P.Rule) → RulePasses s r → Short (rule_readings r)
  unfolding rule_readings
  rule-short r p =
      each_append _ (test_readings r.test) _ (test_short r.test p.test)
      (each_append _ (target_readings r.target) _ (target-short r.target p.target) (expression-short r.expression p.expression))

-- the form of a line
tag : LineRead → ℕ
tag L.Step = 0
tag L.End = 1
tag L.Done = 2
tag (L.Loop f named) = 3
tag (L.Rule x c) = 4
tag L.NoForm = 5

module _ {s : Sizes} {k : List ℕ} where
  pub step-form : {l : Line} {y : LineRead} → Reads s k (some l) y → y ≡ L.Step → l ≡ step
  unfolding tag
  step-form step_line e = refl
  step-form end_line e = absurd (omega (arith, ap tag e))
  step-form done-line e = absurd (omega (arith, ap tag e))
  step-form (loop_line f) e = absurd (omega (arith, ap tag e))
  step-form (rule-line c a x w) e = absurd (omega (arith, ap tag e))

  pub end-form : {l : Line} {y : LineRead} → Reads s k (some l) y → y ≡ L.End → l ≡ end
  unfolding tag
  end-form step_line e = absurd (omega (arith, ap tag e))
  end-form end_line e = refl
  end-form done-line e = absurd (omega (arith, ap tag e))
  end-form (loop_line f) e = absurd (omega (arith, ap tag e))
  end-form (rule-line c a x w) e = absurd (omega (arith, ap tag e))

  pub done-form : {l : Line} {y : LineRead} → Reads s k (some l) y → y ≡ L.Done → l ≡ done
  unfolding tag
  done-form step_line e = absurd (omega (arith, ap tag e))
  done-form end_line e = absurd (omega (arith, ap tag e))
  done-form done-line e = refl
  done-form (loop_line f) e = absurd (omega (arith, ap tag e))
  done-form (rule-line c a x w) e = absurd (omega (arith, ap tag e))

  pub loop_form : {l : Line} {y : LineRead} → Reads s k (some l) y → {f : ℕ} {named : Bool} → y ≡ L.Loop f named → (g : ℕ) × (l ≡ loop g)
  unfolding tag
  loop_form step_line e = absurd (omega (arith, ap tag e))
  loop_form end_line e = absurd (omega (arith, ap tag e))
  loop_form done-line e = absurd (omega (arith, ap tag e))
  loop_form (loop_line f) e = (f, refl)
  loop_form (rule-line c a x w) e = absurd (omega (arith, ap tag e))

  pub no_form : {l : Line} {y : LineRead} → Reads s k (some l) y → y ≡ L.NoForm → ⊥
  unfolding tag
  no_form step_line e = omega (arith, ap tag e)
  no_form end_line e = omega (arith, ap tag e)
  no_form done-line e = omega (arith, ap tag e)
  no_form (loop_line f) e = omega (arith, ap tag e)
  no_form (rule-line c a x w) e = omega (arith, ap tag e)

-- a rule that has passed and the one that is written: its codes stand from..to
pub record Written (scope : Scope) (st : State) (k : List ℕ) (from to : ℕ) (l : Line) (x : Slot) : Type 0 where
  pub condition : Condition
  pub action : Action
  pub line_is : l ≡ rule condition action
  pub clean : Clean scope st (rule condition action)
  pub rule_is : rule_in k x ≡ rule_of condition action
  pub formed : SlotTerms (TermFormed k) x
  pub behind : SlotTerms (TermFrom from) x
  pub inside : SlotTerms (TermInside to) x

module _ {scope : Scope} {st : State} (a b : List ℕ) (from to : ℕ) where
  pub rule-form : {l : Line} {y : LineRead} → Reads scope.sizes b (some l) y → Clean scope st l → Leaves a b from to y
      → {x : Slot} {c : Checks} → y ≡ L.Rule x c → Written scope st b from to l x
  unfolding tag
  rule-form step_line k v e = absurd (omega (arith, ap tag e))
  rule-form end_line k v e = absurd (omega (arith, ap tag e))
  rule-form done-line k v e = absurd (omega (arith, ap tag e))
  rule-form (loop_line f) k v e = absurd (omega (arith, ap tag e))
  rule-form (rule-line c d z w) k v {x} e =
      let is : z ≡ x = cc in
      let read : RuleRead b c d x = subst (RuleRead b c d) is (w (clean_passes k)) in
      let left = v (clean_passes k) in
      record {
        condition = c;
        action = d;
        line_is = refl;
        clean = k;
        rule_is = read.rule_is;
        formed = read.formed;
        behind = subst (SlotTerms (TermFrom from)) is left.0;
        inside = subst (SlotTerms (TermInside to)) is left.1;
      }

  -- the codes before it are as they were
  pub codes-kept : {l : Line} {y : LineRead} → Reads scope.sizes b (some l) y → Clean scope st l → Leaves a b from to y → SameBelow a b from
  codes-kept step_line k v = v
  codes-kept end_line k v = v
  codes-kept done-line k v = v
  codes-kept (loop_line f) k v = v
  codes-kept (rule-line c d z w) k v = (v (clean_passes k)).2
