-- `step_rules::remote::post` meets its contract: a message, where there is one, is delivered.
use Rattle.std.specs.Prelude.{Some}
use mathlib.Core.Path.{subst}
use Prim.Native.Nat.{◌<◌}
use native.Mathlib.Omega.{arith}
use mir.Syntax.{w32}
use mir.Val.{SFits}
use mir.Facts.{to_z-of_z}
use Rattle.register.specs.File.{cell_count, cell_index}
use Rattle.chain.specs.Word.{column}
use Rattle.machine.specs.declared.message.Message.{Message}
use Rattle.step_effects.specs.Answers.{messages_in}
use Rattle.step_rules.specs.Delivered.{Addresses}
use Rattle.step_rules.proofs.Remotes.{message-below, delivers_none, delivers_one}
use borrow.Author.Rules.{rules}
use Rattle.step_rules.proofs.remote.post.Goals as goal

pub place-place-requires : goal.place-place-requires
place-place-requires c =
    let addresses : Addresses c.args.sizes (Some c.in-Some.message) = subst (Addresses c.args.sizes) c.in-Some.is c.requires.limits.1 in
    (c.requires.limits.0, addresses.0, addresses.1, c.requires.limits.2.base≤)

pub deliver-requires : goal.deliver-requires
deliver-requires c =
    let message : Message = c.in-Some.message in
    let addresses : Addresses c.args.sizes (Some message) = subst (Addresses c.args.sizes) c.in-Some.is c.requires.limits.1 in
    let below : cell_index c.args.sizes message.target (column c.args.sizes message.field) < cell_count c.args.sizes = message-below c.args.sizes message c.requires.limits.0 addresses in
    let e = c.place-place.ensures in
    let r = c.requires.limits.2 in
    (omega (arith, e, below, r.values_room), omega (arith, e, below, r.marks_room), rw e (c.requires.small.0.below _ below))

pub returns-in_default : goal.returns-in_default
unfolding messages_in
returns-in_default c = rw c.in_default.is delivers_none

pub returns : goal.returns
unfolding messages_in
returns c =
    let message : Message = c.in-Some.message in
    let addresses : Addresses c.args.sizes (Some message) = subst (Addresses c.args.sizes) c.in-Some.is c.requires.limits.1 in
    let below : cell_index c.args.sizes message.target (column c.args.sizes message.field) < cell_count c.args.sizes = message-below c.args.sizes message c.requires.limits.0 addresses in
    let fits : SFits w32 message.amount = search rules in
    rw c.in-Some.is (delivers_one _ _ below c.requires.limits.2 fits c.place-place.ensures (to_z-of_z {w = w32} fits) c.deliver.ensures)
