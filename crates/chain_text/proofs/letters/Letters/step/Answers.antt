-- `chain_text::letters::Letters::step` meets its contract.
use mathlib.Core.Path.{ap, ◌∙◌}
use Rattle.chain.specs.Word.{push}
use Rattle.chain_text.proofs.Steps.{step_full, step_room, capital-low, capital-field, room_fits}
use Rattle.chain_text.proofs.letters.Letters.step.Goals as goal

pub field_of-requires : goal.field_of-requires
field_of-requires c = capital-low _ c.requires.1

pub push-requires : goal.push-requires
push-requires c =
    let s = c in
    room_fits _ _ _ s.requires.2 s.requires.3 (rw c.field_of.ensures (capital-field _ s.requires.1))

pub returns-then-room-eq0 : goal.returns-then-room-eq0
returns-then-room-eq0 c = step_full _ _ _ _ _ c.names_field.ensures c.if-room-eq0.true

pub returns-else-room-eq0 : goal.returns-else-room-eq0
returns-else-room-eq0 c =
    let packed = c.push.ensures ∙ ap (push c.args.self.packed) c.field_of.ensures in
    step_room _ _ _ _ _ c.names_field.ensures _ packed c.if-room-eq0.false
