-- `step_commit::record_offence` meets its contract. The loop's invariant: the columns passed are in range at the record.
use Prim.Native.Nat.{ℕ, ◌-◌, ◌≤◌, ◌<◌}
use mathlib.Core.Path.{◌≡◌}
use mathlib.Core.Bool.{true}
use Rattle.register.specs.File.{cell_index}
use Rattle.step_commit.specs.Committed.{value_in_range}
use Rattle.step_commit.proofs.record_offence.Given as goal

abbrev pub invariant-loop-column : goal.invariant-loop-column
invariant-loop-column l = ((c : ℕ) → c < l.column → value_in_range l.base l.values (cell_index l.sizes l.u c) ≡ true) × (l.column ≤ l.column-end)

abbrev pub decreases-loop-column : goal.decreases-loop-column
decreases-loop-column l = l.column-end - l.column
