-- `step_cells::begin` meets its contract. The loop's invariant: the places passed hold their cells, and nothing below `base` has changed.
use Prim.Native.Nat.{ℕ, ◌+◌, ◌-◌, ◌<◌}
use lib.IntN.{pos}
use lib.ListN.{get_or}
use Rattle.step_cells.specs.Work.{Same}
use Rattle.step_cells.proofs.Working.{Copied}
use Rattle.step_cells.proofs.begin.Given as goal

abbrev pub invariant-loop-j : goal.invariant-loop-j
invariant-loop-j l = Same l.base l.initial.values l.initial.marks l.values l.marks × ((i : ℕ) → i < l.j → Copied l.cells.values.now l.cells.marks.now i (get_or l.values (l.base + i) (pos 0)) (get_or l.marks (l.base + i) 0))

abbrev pub decreases-loop-j : goal.decreases-loop-j
decreases-loop-j l = l.j-end - l.j
