-- `step_commit::first_offence` meets its contract. The loop's invariant: no column of the records passed is out of range.
use Prim.Native.Nat.{ℕ, ◌-◌, ◌≤◌, ◌<◌}
use mathlib.Core.Path.{◌≡◌}
use mathlib.Core.Option.{none}
use Rattle.machine.specs.Step.{total_column}
use Rattle.step_commit.specs.Committed.{value_in_range}
use Rattle.step_commit.proofs.first_offence.Given as goal

abbrev pub invariant-loop-row : goal.invariant-loop-row
invariant-loop-row l = ((u : ℕ) → u < l.row → total_column l.sizes (value_in_range l.base l.values) u ≡ none) × (l.row ≤ l.row-end)

abbrev pub decreases-loop-row : goal.decreases-loop-row
decreases-loop-row l = l.row-end - l.row
