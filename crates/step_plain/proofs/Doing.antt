-- What a plain rule stores and sends, by whether its test holds.
use Rattle.std.specs.Prelude.{None, Some, Ok, Err}
use Prim.Native.Nat.{ℕ, ◌<◌}
use mathlib.Core.Path.{◌≡◌, refl, sym, ap, ap₂, ◌∙◌}
use mathlib.Core.Bool.{Bool, true, false, cond, ◌&&◌, ◌||◌}
use mathlib.Core.List.{List, []}
use lib.IntN.{ℤ}
use lib.Signed.{mag}
use mir.Syntax.{w32}
use mir.Val.{to_z, of_z}
use Rattle.laws.proofs.Bools.{true_false}
use Rattle.chain.specs.Reading.{Reading}
use Rattle.program.specs.declared.term.Term.{Term}
use Rattle.program.specs.declared.rule.Rule.{Rule}
use Rattle.program.specs.declared.rule.Rule.TheVariants.{Set, Combine, Remote}
use Rattle.program.specs.declared.rule.Slot.{Slot}
use Rattle.program.specs.Program.{Target, own, operation, is_remote, target_field}
use Rattle.program.specs.Stored.{term_in, test_in, target_in, expression_in, rule_in}
use Rattle.program.specs.declared.rule.Operator.{Operator}
use Rattle.integers.specs.Range.{sum_of}
use Rattle.std.specs.Prelude.{Option, ℤ}
use Rattle.machine.specs.Value.{both, operate, value, overflows, holds}
use Rattle.machine.specs.Local.{offends}
use Rattle.machine.specs.Remote.{sent_by, rule_messages}
use Rattle.step_operations.specs.Evaluated.{out_of_range, of_sum, joined, evaluated}
use Rattle.step_operations.specs.Tests.{Tested, tested}
use Rattle.step_tests.specs.Plain.{is_plain, plain_test, plain_rule}
use Rattle.step_operations.proofs.Operating.{values_joined, operation_joined}
use Rattle.step_operations.proofs.Testing.{test-tells}
use Rattle.step_tests.proofs.Plainly.{plain-formed, plain-tested, plain-evaluated}
use Rattle.step_effects.specs.Answers.{target_write, done_by, write_of}
use Rattle.step_effects.specs.declared.stored.Write.{Write}
use Rattle.step_effects.specs.declared.stored.Write.TheVariants as W

-- what is done with an expression
done-is : (t : Target) (o : Bool) (x : Reading)
    → done_by t (cond o (Err out_of_range) (Ok x)) ≡ cond o (W.OutOfRange (target_field t)) (target_write t x)
unfolding done_by
done-is t true x = refl
done-is t false x = refl

-- what one record, which reads this, makes of a rule
module _ (read : List ℕ → Reading) (k : List ℕ) where
  -- a remote rule whose amount is plain
  record Amount (r : Rule) : Type 0 where
    formed : overflows read (expression_in k r) ≡ false
    unstored : (x : Reading) → target_write (target_in r) x ≡ W.Nothing

  plain_amount : (r : Rule) → is_remote (target_in r) ≡ true → plain_rule r ≡ true → Amount r
  unfolding is_remote plain_rule expression_in target_in target_write
  plain_amount (Set f x) e h = true_false e refl
  plain_amount (Combine f op x y) e h = true_false e refl
  plain_amount (Remote sort f c x) e h = record { formed = plain-formed read k x h; unstored = λ x. refl }

  module _ (x : Slot) where
    abbrev test : Bool
    test = holds read (test_in k x.test)

    -- it stores nothing here, and no sum of it leaves the range
    pub write_plain : is_remote (target_in x.rule) ≡ true → plain_rule x.rule ≡ true → plain_test x.test ≡ true → W.Nothing ≡ write_of read (rule_in k x)
    unfolding write_of rule_in offends
    write_plain e h t = let a = plain_amount x.rule e h in sym (go _ test (plain-tested read k x.test t) a.formed (a.unstored _))
      where
        go : {o v : Bool} {w : Write} (n : Write) (h : Bool) → o ≡ false → v ≡ false → w ≡ W.Nothing → cond (o || h && v) n (cond h w W.Nothing) ≡ W.Nothing
        go n true a b c = rw (a, b, c)
        go n false a b c = rw a

    -- a rule, by the answer of its test
    module _ {t : Tested} (ran : t ≡ tested read (test_in k x.test)) where
      write_fails : t ≡ Ok false → W.Nothing ≡ write_of read (rule_in k x)
      unfolding write_of rule_in offends
      write_fails e = let (o, h) = test-tells read (test_in k x.test) (sym e ∙ ran) in sym (simp (o, h))

      write_done : t ≡ Ok true → done_by (target_in x.rule) (evaluated read (expression_in k x.rule)) ≡ write_of read (rule_in k x)
      unfolding write_of rule_in offends evaluated
      write_done e =
          let (o, h) = test-tells read (test_in k x.test) (sym e ∙ ran) in
          done-is (target_in x.rule) (overflows read (expression_in k x.rule)) (value read (expression_in k x.rule)) ∙ sym (simp (o, h))

    -- a rule, by whether its test holds
    module _ {b : Bool} (ran : b ≡ holds read (test_in k x.test)) where
      pub send_unheld : b ≡ false → [] ≡ rule_messages read (rule_in k x)
      unfolding rule_messages rule_in
      send_unheld h = sym (simp (sym ran ∙ h))

      pub send_held : b ≡ true → {r : Rule} → x.rule ≡ r → sent_by read (target_in r) (value read (expression_in k r)) ≡ rule_messages read (rule_in k x)
      unfolding rule_messages rule_in
      send_held h is = sym (simp (sym ran ∙ h) (ap (λ (r : Rule). sent_by read (target_in r) (value read (expression_in k r))) is))

      -- no sum of a plain test leaves the range
      module _ (plain : plain_test x.test ≡ true) where
        answer_is : Ok b ≡ tested read (test_in k x.test)
        unfolding tested
        answer_is = sym (simp (plain-tested read k x.test plain) (ap Ok (sym ran)))

        pub write_unheld : b ≡ false → W.Nothing ≡ write_of read (rule_in k x)
        write_unheld h = write_fails answer_is (ap Ok h)

        pub write_held : b ≡ true → {r : Rule} → x.rule ≡ r → done_by (target_in r) (evaluated read (expression_in k r)) ≡ write_of read (rule_in k x)
        write_held h is =
            sym (ap (λ (r : Rule). done_by (target_in r) (evaluated read (expression_in k r))) is) ∙ write_done answer_is (ap Ok h)

  -- a plain term is stored
  pub plain-stored : (f : ℕ) (x : Term) → is_plain x ≡ true → done_by (own f) (Ok (value read (term_in k x))) ≡ done_by (own f) (evaluated read (term_in k x))
  plain-stored f x h = sym (ap (done_by (own f)) (plain-evaluated read k x h))

  -- an operation on two plain terms, one of which may be missing
  module _ (f : ℕ) (op : Operator) (x y : Term) (px : is_plain x ≡ true) (py : is_plain y ≡ true) where
    abbrev a : Reading
    a = value read (term_in k x)

    abbrev b : Reading
    b = value read (term_in k y)

    joined_is : done_by (own f) (joined op (Ok a) (Ok b)) ≡ done_by (own f) (evaluated read (operation op (term_in k x) (term_in k y)))
    joined_is =
        sym (ap (done_by (own f)) (operation_joined op read (term_in k x) (term_in k y) ∙ ap₂ (joined op) (plain-evaluated read k x px) (plain-evaluated read k y py)))

    missing_first : (v : Reading) → W.Nothing ≡ done_by (own f) (joined op (Ok None) (Ok v))
    unfolding joined both done_by target_write
    missing_first v = refl

    missing_second : (v : Reading) → W.Nothing ≡ done_by (own f) (joined op (Ok v) (Ok None))
    unfolding joined both done_by target_write
    missing_second None = refl
    missing_second (Some z) = refl

    pub sum_first : a ≡ None → W.Nothing ≡ done_by (own f) (evaluated read (operation op (term_in k x) (term_in k y)))
    sum_first e = missing_first b ∙ sym (ap (λ (v : Reading). done_by (own f) (joined op (Ok v) (Ok b))) e) ∙ joined_is

    pub sum_second : b ≡ None → W.Nothing ≡ done_by (own f) (evaluated read (operation op (term_in k x) (term_in k y)))
    sum_second e = missing_second a ∙ sym (ap (λ (v : Reading). done_by (own f) (joined op (Ok a) (Ok v))) e) ∙ joined_is

    pub sum_written : {v w : ℤ} {s : Option ℤ} → a ≡ Some v → b ≡ Some w → mag v < 2147483648 → mag w < 2147483648
        → s ≡ sum_of (operate op (to_z w32 (of_z w32 v)) (to_z w32 (of_z w32 w)))
        → done_by (own f) (of_sum s) ≡ done_by (own f) (evaluated read (operation op (term_in k x) (term_in k y)))
    sum_written p q hv hw e = ap (done_by (own f)) (values_joined op (ap Ok p) (ap Ok q) hv hw e) ∙ joined_is

-- the term of a plain rule that stores it
pub set-plain : (r : Rule) (f : ℕ) (x : Term) → r ≡ Set f x → plain_rule r ≡ true → is_plain x ≡ true
unfolding plain_rule
set-plain r f x e h = sym (ap plain_rule e) ∙ h
