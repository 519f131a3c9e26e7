-- `step_effects::sent::message_of` meets its contract: without a target or an amount nothing is sent.
use mathlib.Core.Path.{◌≡◌, refl, sym, ◌∙◌}
use mathlib.Core.Bool.{false}
use Rattle.std.specs.Prelude.{None, Some, Ok, Err}
use Prim.Native.Nat.{ℕ, ◌<◌}
use lib.Signed.{mag}
use Rattle.program.specs.declared.rule.Rule.{Rule}
use Rattle.program.specs.declared.rule.Sort.{Sort}
use Rattle.program.specs.declared.term.Term.{Term}
use Rattle.program.specs.declared.rule.Rule.TheVariants.{Set, Combine, Remote}
use Rattle.program.specs.Program.{is_remote, target_field}
use Rattle.program.specs.Stored.{target_in}
use Rattle.machine.specs.Remote.{sent_to}
use Rattle.step_tests.proofs.Sides.{both_values, named, named-within}
use Rattle.step_effects.specs.Answers.{messages_in}
use Rattle.step_effects.proofs.Answering.{send_local, sent_nowhere, sent-one, sent-none}
use borrow.Author.Rules.{rules}
use Rattle.step_effects.proofs.sent.message_of.Goals as goal

-- a rule that is not remote is a local one
local : (r : Rule) → ((k : Sort) (f c : ℕ) (x : Term) → r ≡ Remote k f c x → ⊥) → is_remote (target_in r) ≡ false
unfolding is_remote target_in
local (Set f x) h = refl
local (Combine f op x y) h = refl
local (Remote k f c x) h = absurd (h k f c x refl)

pub returns-in_default : goal.returns-in_default
unfolding messages_in
returns-in_default c = (tt, λ read agrees in_range. send_local _ _ _ (local _ c.in_default.not-Remote))

pub found_at-requires : goal.found_at-requires
found_at-requires c = (c.requires.0, (rw c.in-Remote.is at c.requires.1.rule).0)

pub returns-in_err-to : goal.returns-in_err-to
unfolding messages_in
returns-in_err-to c =
    let none : c.found_at.result ≡ None = search rules in
    let left : c.from_residual.result ≡ None = search rules in
    rw left
    (tt, λ read agrees in_range. sent_nowhere _ _ _ c.in-Remote.is (sym (c.found_at.ensures ∙ (rw c.in-Remote.is at agrees.1).0) ∙ none))

pub returns-in_default-value : goal.returns-in_default-value
unfolding messages_in
returns-in_default-value c =
    let none : c.effect-value.result ≡ Ok None = search rules in
    (tt, λ read agrees in_range. sent-none _ _ _ c.in-Remote.is (c.effect-value.ensures read agrees) in_range (λ z e. cc))

pub returns-in_default-value-2 : goal.returns-in_default-value-2
unfolding messages_in
returns-in_default-value-2 c =
    let out : c.effect-value.result ≡ Err (record {}) = search rules in
    (tt, λ read agrees in_range. sent-none _ _ _ c.in-Remote.is (c.effect-value.ensures read agrees) in_range (λ z e. cc))

pub index-requires : goal.index-requires
index-requires c =
    let found : c.found_at.result ≡ Some c.in_ok-to.to = search rules in
    named (sym c.found_at.ensures ∙ found) (search rules) (rw c.in-Remote.is at c.requires.2)

pub returns : goal.returns
unfolding sent_to messages_in target_in target_field
returns c =
    let is = c.in-Remote.is in
    let fits : mag c.in_ok-to.to < 2147483648 = search rules in
    let told : c.found_at.result ≡ Some c.in_ok-to.to = search rules in
    let found = sym c.found_at.ensures ∙ told in
    let value : c.effect-value.result ≡ Ok (Some c.in-Ok-Some.amount) = search rules in (
      (rw is, λ n w. named-within found fits c.index.ensures n (rw is at w)),
      λ read agrees in_range.
          let to = sym (rw is at agrees.1).0 ∙ found in
          let (amount, sent) = sent-one _ _ _ is (c.effect-value.ensures read agrees) in_range value in
          rw c.index.ensures (both_values _ _ to amount fits (search rules)) ∙ sent,
    )
