-- `step_cells::keep_least` meets its contract: the amount is stored where the cell is missing or its value is larger.
use mathlib.Core.Path.{◌≡◌, sym, ap, ap₂, ◌∙◌}
use borrow.Author.Rules.{rules}
use lib.IntN.{pos}
use lib.ListN.{get_or, set}
use lib.Signed.{lt_z}
use mir.Syntax.{w32, w64}
use mir.Facts.{to_z-of_z}
use Rattle.register.specs.declared.cells.Cell.TheVariants.{WorkedOut}
use Rattle.machine.specs.Remote.{merged}
use Rattle.program.specs.declared.rule.Sort.TheVariants.{Least}
use Rattle.scratch.specs.Places.{stored_at}
use Rattle.step_cells.proofs.Working.{put-worked}
use Rattle.step_cells.proofs.Merging.{least_missing, least_smaller, least_kept}
use Rattle.step_cells.proofs.keep_least.Goals as goal
use Rattle.step_cells.proofs.keep_least.Goals.{else-marks-j-ne0-via-then-marks-j-ne0+else-not-is_below, else-marks-j-ne0-via-else-marks-j-ne0}

pub returns-then-not-is_below : goal.returns-then-not-is_below
returns-then-not-is_below c =
    let compared : c.is_below.result ≡ lt_z c.args.amount (get_or c.args.values.now c.args.j (pos 0)) =
    c.is_below.ensures ∙ ap₂ lt_z (to_z-of_z {w = w32} c.ranges.amount) (to_z-of_z {w = w64} (search rules)) in
    least_kept _ _ _ _ c.if-marks-j-ne0.true (sym compared ∙ c.if-not-is_below.true)

pub returns : goal.returns
returns c =
    let a = c.args in
    let stored : merged Least (stored_at a.values.now a.marks.now a.j) a.amount ≡ WorkedOut a.amount =
    elim c.else-marks-j-ne0.branch [
      | else-marks-j-ne0-via-then-marks-j-ne0+else-not-is_below w ↦
          let compared : w.is_below.result ≡ lt_z a.amount (get_or a.values.now a.j (pos 0)) =
          w.is_below.ensures ∙ ap₂ lt_z (to_z-of_z {w = w32} c.ranges.amount) (to_z-of_z {w = w64} (search rules)) in
          least_smaller _ _ _ _ w.if-marks-j-ne0.true (sym compared ∙ w.if-not-is_below.false)
      | else-marks-j-ne0-via-else-marks-j-ne0 w ↦ least_missing _ _ _ _ w.if-marks-j-ne0.false
    ] in
    let z = to_z-of_z {w = w64} (record { sfits = c.widen.type_inv }) ∙ c.widen.ensures ∙ to_z-of_z {w = w32} c.ranges.amount in
    rw stored (put-worked _ (c.put.ensures.0 ∙ ap (set a.values.now a.j) z) c.put.ensures.1)
