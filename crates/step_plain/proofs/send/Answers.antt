-- `step_plain::send` meets its contract: without a target or an amount nothing is sent.
use Prim.Native.Nat.{◌<◌}
use Rattle.std.specs.Prelude.{None, Some}
use mathlib.Core.Path.{◌≡◌, refl, sym, ◌∙◌}
use lib.Signed.{mag}
use Rattle.machine.specs.Remote.{sent_to}
use Rattle.step_effects.specs.Answers.{messages_in}
use Rattle.step_tests.proofs.Sides.{both_first, both-second, both_values, named, named-within}
use borrow.Author.Rules.{rules}
use Rattle.step_plain.proofs.send.Goals as goal

-- no target
pub returns-in_err-to : goal.returns-in_err-to
unfolding sent_to messages_in
returns-in_err-to c =
    let none : c.found_at.result ≡ None = search rules in
    let left : c.from_residual.result ≡ None = search rules in
    rw left (tt, λ codes read agrees. both_first _ _ _ (sym (c.found_at.ensures ∙ agrees.0) ∙ none))

-- no amount
pub returns-in_err-amount : goal.returns-in_err-amount
unfolding sent_to messages_in
returns-in_err-amount c =
    let none : c.term_value.result ≡ None = search rules in
    let left : c.from_residual-in_err-amount.result ≡ None = search rules in
    rw left (tt, λ codes read agrees. both-second _ _ _ (sym (c.term_value.ensures codes read agrees.1) ∙ none))

pub index-requires : goal.index-requires
index-requires c =
    let told : c.found_at.result ≡ Some c.in_ok-to.to = search rules in
    named (sym c.found_at.ensures ∙ told) (search rules) c.requires.names

-- both
pub returns : goal.returns
unfolding sent_to messages_in
returns c =
    let fits : mag c.in_ok-to.to < 2147483648 = search rules in
    let told : c.found_at.result ≡ Some c.in_ok-to.to = search rules in
    let came : c.term_value.result ≡ Some c.in_ok-amount.amount = search rules in
    let found = sym c.found_at.ensures ∙ told in (
      (refl, named-within found fits c.index.ensures),
      λ codes read agrees.
          let amount = sym (c.term_value.ensures codes read agrees.1) ∙ came in
          rw c.index.ensures (both_values _ _ (sym agrees.0 ∙ found) amount fits (search rules)),
    )
