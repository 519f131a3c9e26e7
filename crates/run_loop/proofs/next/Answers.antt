-- `run_loop::next` meets its contract: the last step of a loop leads back until the column is the same.
use Rattle.register.specs.View.{cells_in}
use Rattle.register.specs.File.{cells_of_file}
use Rattle.run_loop.proofs.Passes.{next-inside, next-behind, next-back}
use Rattle.run_loop.proofs.next.Goals as goal
use Rattle.run_loop.proofs.next.Goals.{else-last-via-then-last+else-not-is_same, else-last-via-else-last}

pub returns-then-not-is_same : goal.returns-then-not-is_same
unfolding cells_in cells_of_file
returns-then-not-is_same c =
    let parts = c.of.ensures in
    next-back _ _ c.in-Looped.is c.if-last.true (rw (parts.0, parts.1, parts.2) at c.is_same.ensures) c.if-not-is_same.true

pub returns-else-last : goal.returns-else-last
unfolding cells_in cells_of_file
returns-else-last c =
    let e = c.in-Looped.is in
    elim c.else-last.branch [
      | else-last-via-then-last+else-not-is_same w ↦
          let parts = w.of.ensures in
          next-behind _ _ e w.if-last.true (rw (parts.0, parts.1, parts.2) at w.is_same.ensures) w.if-not-is_same.false
      | else-last-via-else-last w ↦ next-inside _ _ e w.if-last.false
    ]
