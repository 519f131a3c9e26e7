-- `step_plain::message_of` meets its contract.
use Prim.Native.Nat.{ℕ}
use mathlib.Core.Path.{◌≡◌, refl, ◌∙◌}
use mathlib.Core.Bool.{false}
use Rattle.program.specs.declared.rule.Rule.{Rule}
use Rattle.program.specs.declared.rule.Sort.{Sort}
use Rattle.program.specs.declared.term.Term.{Term}
use Rattle.program.specs.declared.rule.Rule.TheVariants.{Set, Combine, Remote}
use Rattle.program.specs.Program.{is_remote, target_field}
use Rattle.program.specs.Stored.{target_in, expression_in}
use Rattle.machine.specs.Remote.{sent_by}
use Rattle.step_effects.specs.Answers.{messages_in}
use Rattle.step_effects.proofs.Answering.{send_local}
use Rattle.step_plain.proofs.Doing.{send_unheld, send_held}
use Rattle.step_plain.proofs.message_of.Goals as goal

-- a rule that is not remote is a local one
local : (r : Rule) → ((k : Sort) (f c : ℕ) (x : Term) → r ≡ Remote k f c x → ⊥) → is_remote (target_in r) ≡ false
unfolding is_remote target_in
local (Set f x) h = refl
local (Combine f op x y) h = refl
local (Remote k f c x) h = absurd (h k f c x refl)

pub returns-in_default : goal.returns-in_default
unfolding messages_in
returns-in_default c = (tt, λ codes read agrees. send_local _ _ _ (local _ c.in_default.not-Remote))

pub returns-then-not-holds : goal.returns-then-not-holds
unfolding messages_in
returns-then-not-holds c = (tt, λ codes read agrees. send_unheld _ _ _ (c.holds.ensures codes read agrees.0) c.if-not-holds.true)

pub send-requires : goal.send-requires
send-requires c =
    let p = c.requires.parts in
    record { parts = (p.0, rw c.in-Remote.is at p.1.rule); names = rw c.in-Remote.is at c.requires.target_found }

pub returns : goal.returns
unfolding target_in expression_in sent_by target_field
returns c =
    let is = c.in-Remote.is in (
      rw is c.send.ensures.0,
      λ codes read agrees. c.send.ensures.1 codes read (rw is at agrees.1) ∙ send_held _ _ _ (c.holds.ensures codes read agrees.0) c.if-not-holds.false is,
    )
