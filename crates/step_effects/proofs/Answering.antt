-- What a rule stores and sends, by what the code found for its test.
use Rattle.std.specs.Prelude.{None, Some, Ok, Err}
use Prim.Native.Nat.{ℕ, ◌<◌}
use mathlib.Core.Path.{◌≡◌, refl, sym, ap, ap₂, ◌∙◌}
use mathlib.Core.Bool.{Bool, true, false, cond}
use mathlib.Core.List.{List, []}
use lib.IntN.{ℤ}
use lib.Signed.{mag}
use mir.Syntax.{w32}
use mir.Val.{to_z, of_z}
use Rattle.integers.proofs.Complement.{kept}
use Rattle.chain.specs.Reading.{Reading}
use Rattle.program.specs.declared.term.Term.{Term}
use Rattle.program.specs.declared.rule.Rule.{Rule}
use Rattle.program.specs.declared.rule.Rule.TheVariants.{Remote}
use Rattle.program.specs.declared.rule.Slot.{Slot}
use Rattle.chain.specs.Word.{unpack}
use Rattle.program.specs.declared.rule.Sort.{Sort}
use Rattle.program.specs.Program.{Target, own, remote, is_remote, target_field}
use Rattle.program.specs.Stored.{term_in, test_in, target_in, expression_in, rule_in}
use Rattle.machine.specs.Value.{value, holds}
use Rattle.machine.specs.Local.{offends}
use Rattle.machine.specs.declared.message.Message.{Message}
use Rattle.machine.specs.Remote.{sent_to, sent_by, rule_messages}
use Rattle.machine.proofs.Folding.{rule_messages-local}
use Rattle.step_operations.specs.Evaluated.{Evaluated, out_of_range, evaluated}
use Rattle.step_operations.specs.Tests.{Tested, tested}
use Rattle.step_operations.specs.declared.operation.OutOfRange.{OutOfRange}
use Rattle.step_tests.proofs.Sides.{both_first, both-second}
use Rattle.step_operations.proofs.Testing.{test-tells}
use Rattle.step_effects.specs.Answers.{target_write, done_by, effect_of, write_of, DoneFor}
use Rattle.step_effects.specs.declared.stored.Write.TheVariants as W

-- a missing value stores nothing
pub missing_unstored : (t : Target) → W.Nothing ≡ target_write t None
unfolding target_write
missing_unstored (own f) = refl
missing_unstored (remote k f w) = refl

-- a value is stored as the code holds it
pub value-stored : (f : ℕ) {t : Target} {v : Evaluated} {z : ℤ} → v ≡ Ok (Some z) → t ≡ own f → mag z < 2147483648 → W.Store f (to_z w32 (of_z w32 z)) ≡ done_by t v
unfolding done_by target_write
value-stored f {z = z} p q h = ap (W.Store f) (kept z h) ∙ sym (ap₂ done_by q p)

-- nothing is done with a missing value
pub nothing_done : (t : Target) → DoneFor t W.Nothing
unfolding done_by
nothing_done t = record { value = Ok None; is = missing_unstored t }

-- a value that is told where a test holds
value-held : (h : Bool) (w : Reading) {z : ℤ} → ◌≡◌ {A = Evaluated} (Ok (Some z)) (cond h (Ok w) (Ok None)) → (h ≡ true) × (w ≡ Some z)
value-held true w e = (refl, cc)
value-held false w e = cc

-- what one record, which reads this, makes of a rule
module _ (read : List ℕ → Reading) (k : List ℕ) where
  module _ (x : Slot) where
    pub send_local : is_remote (target_in x.rule) ≡ false → [] ≡ rule_messages read (rule_in k x)
    unfolding rule_in
    send_local e = sym (rule_messages-local read (rule_in k x) e)

    -- a rule, by the answer of its test
    module _ {t : Tested} (ran : t ≡ tested read (test_in k x.test)) where
      pub effect_fails : t ≡ Ok false → Ok None ≡ effect_of read (rule_in k x)
      unfolding effect_of rule_in offends
      effect_fails e = let (o, h) = test-tells read (test_in k x.test) (sym e ∙ ran) in sym (simp (o, h))

      pub effect_offends : {e : OutOfRange} → t ≡ Err e → Err e ≡ effect_of read (rule_in k x)
      unfolding effect_of rule_in offends
      effect_offends e = sym (simp (test-tells read (test_in k x.test) (sym e ∙ ran)))

      pub effect_done : t ≡ Ok true → evaluated read (expression_in k x.rule) ≡ effect_of read (rule_in k x)
      unfolding effect_of rule_in offends evaluated
      effect_done e = let (o, h) = test-tells read (test_in k x.test) (sym e ∙ ran) in sym (simp (o, h))

    -- by what it comes to
    pub effect_written : done_by (target_in x.rule) (effect_of read (rule_in k x)) ≡ write_of read (rule_in k x)
    unfolding effect_of write_of rule_in done_by
    effect_written = go (target_in x.rule) (offends read (rule_in k x)) (holds read (test_in k x.test)) (value read (expression_in k x.rule))
      where
        go : (t : Target) (o h : Bool) (v : Reading)
            → done_by t (cond o (Err out_of_range) (cond h (Ok v) (Ok None))) ≡ cond o (W.OutOfRange (target_field t)) (cond h (target_write t v) W.Nothing)
        go t true h v = refl
        go t false true v = refl
        go t false false v = sym (missing_unstored t)

    -- a remote rule
    module _ {sort : Sort} {f c : ℕ} {y : Term} (is : x.rule ≡ Remote sort f c y) where
      abbrev sent : Bool → List Message
      sent h = cond h (sent_to sort f (read (unpack c)) (value read (term_in k y))) []

      messages_are : sent (holds read (test_in k x.test)) ≡ rule_messages read (rule_in k x)
      unfolding rule_messages rule_in target_in expression_in sent_by
      messages_are = sym (ap (λ (r : Rule). cond (holds read (test_in k x.test)) (sent_by read (target_in r) (value read (expression_in k r))) []) is)

      pub sent_nowhere : read (unpack c) ≡ None → [] ≡ rule_messages read (rule_in k x)
      unfolding sent_to
      sent_nowhere e = go (holds read (test_in k x.test)) ∙ messages_are
        where
          go : (h : Bool) → [] ≡ sent h
          go true = both_first _ _ _ e
          go false = refl

      -- none of its sums leaves the range
      module _ {v : Evaluated} (came : v ≡ effect_of read (rule_in k x)) (in_range : offends read (rule_in k x) ≡ false) where
        comes_to : v ≡ cond (holds read (test_in k x.test)) (Ok (value read (term_in k y))) (Ok None)
        unfolding effect_of rule_in expression_in
        comes_to = came ∙ simp in_range (ap (λ (r : Rule). cond (holds read (test_in k x.test)) (Ok (value read (expression_in k r))) (Ok None)) is)

        -- a value is one message, and no value is none
        pub sent-one : {z : ℤ} → v ≡ Ok (Some z)
            → (value read (term_in k y) ≡ Some z) × (sent_to sort f (read (unpack c)) (value read (term_in k y)) ≡ rule_messages read (rule_in k x))
        sent-one e = let (h, w) = value-held (holds read (test_in k x.test)) (value read (term_in k y)) (sym e ∙ comes_to) in (w, sym (ap sent h) ∙ messages_are)

        pub sent-none : ((z : ℤ) → v ≡ Ok (Some z) → ⊥) → [] ≡ rule_messages read (rule_in k x)
        unfolding sent_to
        sent-none none_told = go (holds read (test_in k x.test)) refl (value read (term_in k y)) refl ∙ messages_are
          where
            go : (h : Bool) → holds read (test_in k x.test) ≡ h → (w : Reading) → value read (term_in k y) ≡ w → [] ≡ sent (holds read (test_in k x.test))
            go false p w q = sym (ap sent p)
            go true p None q = both-second _ _ (read (unpack c)) q ∙ sym (ap sent p)
            go true p (Some z) q = absurd (none_told z (comes_to ∙ ap₂ (λ (h : Bool) (w : Reading). cond h (Ok w) (Ok None)) p q))
