-- `step_cells::add_total` meets its contract: the mark says whether there is a value to add to.
use mathlib.Core.Path.{ap, ap₂, ◌∙◌}
use lib.IntN.{pos, ◌+ℤ◌}
use lib.ListN.{get_or, set}
use mir.Syntax.{w32, w64}
use mir.Facts.{to_z-of_z}
use Rattle.register.proofs.Arrays.{value_of-cell_of}
use Rattle.scratch.specs.Places.{stored_at}
use Rattle.step_cells.proofs.Working.{put-worked}
use Rattle.step_cells.proofs.Merging.{total_missing, total-added}
use Rattle.step_cells.proofs.add_total.Goals as goal

pub returns-then-marks-j-eq0 : goal.returns-then-marks-j-eq0
returns-then-marks-j-eq0 c = total_missing _ _ _ _ c.if-marks-j-eq0.true

pub increase-total-requires : goal.increase-total-requires
unfolding stored_at
increase-total-requires c =
    let a = c.args in
    rw (to_z-of_z {w = w64} {z = get_or a.values.now a.j (pos 0)} (record { sfits = c.increase-arg-1.given }))
    (rw (value_of-cell_of (get_or a.values.now a.j (pos 0)) _ (λ e. absurd (c.if-marks-j-eq0.false e))) at c.requires.2)

pub returns : goal.returns
returns c =
    let a = c.args in
    let z = get_or a.values.now a.j (pos 0) in
    let total =
    to_z-of_z {w = w64} (record { sfits = c.increase-total.type_inv })
    ∙ c.increase-total.ensures
    ∙ ap₂ ◌+ℤ◌ (to_z-of_z {w = w64} {z = z} (record { sfits = c.increase-arg-1.given })) (to_z-of_z {w = w32} c.ranges.amount) in
    rw (total-added _ _ _ _ c.if-marks-j-eq0.false) (put-worked _ (c.put.ensures.0 ∙ ap (set a.values.now a.j) total) c.put.ensures.1)
