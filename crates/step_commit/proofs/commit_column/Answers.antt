-- `step_commit::commit_column` meets its contract. The loop's invariant: the records passed are in range and written.
use Rattle.std.specs.Prelude.{Some}
use mathlib.Core.Path.{◌≡◌, ◌∙◌}
use native.Mathlib.Omega.{arith}
use borrow.Author.Rules.{rules}
use Rattle.register.proofs.Bounds.{cell_index-below}
use Rattle.step_commit.proofs.Committing.{column-none, column-next, column_all}
use Rattle.step_commit.proofs.commit_column.Goals as goal

pub loop-u-init : goal.loop-u-init
loop-u-init c = (column-none, omega arith)

pub cell_index-j-requires : goal.cell_index-j-requires
cell_index-j-requires c = (c.requires.0, c.loop-u-test.true, c.requires.3)

pub commit_cell-requires : goal.commit_cell-requires
commit_cell-requires c =
    let below = cell_index-below _ _ _ c.loop-u-test.true c.requires.3 in
    (c.requires.0, c.loop-u.invariant.0.length_is ∙ c.requires.1, c.requires.2, rw c.cell_index-j.ensures below, c.requires.4)

pub overflow_step-u : goal.overflow_step-u
overflow_step-u c =
    omega (arith, c.loop-u-test.true, c.requires.0.records≤)

pub loop-u-smaller : goal.loop-u-smaller
loop-u-smaller c = omega (arith, c.loop-u-test.true)

pub shape_of-out : goal.shape_of-out
shape_of-out c = c.loop-u.invariant.0.length_is

pub returns : goal.returns
returns c = let i = c.loop-u.invariant in column_all i.0 (omega (arith, i.1, c.loop-u-test.false))

pub loop-u-preserved : goal.loop-u-preserved
loop-u-preserved c =
    let done : c.commit_cell.result ≡ Some tt = search rules in
    (column-next c.loop-u.invariant.0 c.cell_index-j.ensures c.commit_cell.auto.out (rw done at c.commit_cell.ensures), omega (arith, c.loop-u-test.true))
