-- `step_rules::remote::apply_rule` meets its contract: the rule's message, where it sends one, is delivered.
use Prim.Native.Nat.{ℕ}
use lib.ListN.{take}
use Rattle.register.specs.View.{cells_in}
use Rattle.step_terms.specs.Found.{TargetFound, Within}
use Rattle.step_effects.specs.Answers.{messages_in}
use Rattle.step_rules.proofs.Remotes.{target-names, goes_addresses, at_most_one}
use Rattle.step_rules.proofs.remote.apply_rule.Goals as goal

pub message_of-message-requires : goal.message_of-message-requires
message_of-message-requires c =
    let inside = c.requires.parts.0 in
    let ready = c.requires.rule_ready in
    let names = target-names _ _ _ _ _ _ c.args.rule.at.rule c.args.rule.slot.rule (ready.targets _ inside) in
    (inside, ready.reaches _ inside, names)

pub post-requires : goal.post-requires
post-requires c =
    let ready = c.requires.rule_ready in
    let a = c.args in
    let sizes = a.cells.now.sizes in
    let within : ℕ → Type 0 = λ n.
    TargetFound (Within n) sizes (cells_in a.cells.now) (take a.base a.values.now) (take a.base a.marks.now) a.u
    a.rule.at.rule a.rule.slot.rule in
    let addresses = goes_addresses sizes _ ready.field within (ready.targets _ c.requires.parts.0) c.message_of-message.result c.message_of-message.ensures.0 in
    record { limits = (a.cells.now.parts.limits, addresses, c.requires.parts.1); small = c.requires.small }

pub returns : goal.returns
returns c = record {
  messages = messages_in c.message_of-message.result;
  tells = (at_most_one _, c.message_of-message.ensures.1);
  delivers = c.post.ensures;
}
