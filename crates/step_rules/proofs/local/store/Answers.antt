-- `step_rules::local::store` meets its contract.
use mathlib.Core.Path.{ap, ◌∙◌}
use native.Mathlib.Omega.{arith}
use lib.ListN.{set}
use Rattle.register.proofs.Bounds.{cell_index-below}
use Rattle.chain.proofs.Following.{column-below}
use Rattle.step_cells.proofs.Working.{put-worked}
use mir.Syntax.{w32, w64}
use mir.Facts.{to_z-of_z}
use Rattle.step_rules.proofs.local.store.Goals as goal

pub put-requires : goal.put-requires
put-requires c =
    let b = cell_index-below c.args.sizes c.args.u _ c.requires.1 (column-below c.args.sizes c.requires.0 _ c.requires.2) in
    (omega (arith, c.place-place.ensures, b, c.requires.3.values_room), omega (arith, c.place-place.ensures, b, c.requires.3.marks_room))

pub returns : goal.returns
returns c =
    let z = to_z-of_z {w = w64} (record { sfits = c.widen.type_inv }) ∙ c.widen.ensures ∙ to_z-of_z {w = w32} c.ranges.value in
    rw (← c.place-place.ensures) (put-worked _ (c.put.ensures.0 ∙ ap (set c.args.values.now c.place-place.result) z) c.put.ensures.1)
