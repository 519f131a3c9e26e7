-- `step_commit::commit` meets its contract. The loop's invariant: the columns passed, where they are written, are in range and in the
-- file.
use Prim.Native.Nat.{◌-◌, ◌≤◌}
use Rattle.step_commit.proofs.Committing.{ColumnsTo}
use Rattle.step_commit.proofs.commit.Given as goal

abbrev pub invariant-loop-column : goal.invariant-loop-column
invariant-loop-column l = ColumnsTo l.sizes l.base l.fields l.values l.marks l.initial.out l.column l.out × (l.column ≤ l.column-end)

abbrev pub decreases-loop-column : goal.decreases-loop-column
decreases-loop-column l = l.column-end - l.column
