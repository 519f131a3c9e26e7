-- `step_commit::commit_column` meets its contract. The loop's invariant: the records passed are in range and written.
use Prim.Native.Nat.{◌-◌, ◌≤◌}
use Rattle.step_commit.proofs.Committing.{ColumnTo}
use Rattle.step_commit.proofs.commit_column.Given as goal

abbrev pub invariant-loop-u : goal.invariant-loop-u
invariant-loop-u l = ColumnTo l.sizes l.base l.column l.values l.marks l.initial.out l.u l.out × (l.u ≤ l.u-end)

abbrev pub decreases-loop-u : goal.decreases-loop-u
decreases-loop-u l = l.u-end - l.u
