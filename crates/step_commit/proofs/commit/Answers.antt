-- `step_commit::commit` meets its contract. The loop's invariant: the columns passed, where they are written, are in range and in the
-- file.
use Prim.Native.Nat.{◌<◌}
use Rattle.std.specs.Prelude.{None, Some}
use borrow.Author.Rules.{rules}
use mathlib.Core.Path.{◌≡◌, ◌∙◌}
use native.Mathlib.Omega.{arith}
use Rattle.register.specs.File.{width}
use Rattle.register.proofs.Bounds.{width≤}
use Rattle.step_commit.proofs.Committing.{columns_none, columns_skip, columns_next, columns_all, columns_stop}
use Rattle.step_commit.proofs.commit.Goals.{else-fields-field_at-via-then-fields-field_at+else-is_none, else-fields-field_at-via-else-fields-field_at}
use Rattle.step_commit.proofs.commit.Goals as goal

pub overflow_add-column-end : goal.overflow_add-column-end
overflow_add-column-end c = omega (arith, c.requires.0.references≤, c.requires.0.measures≤)

pub loop-column-init : goal.loop-column-init
loop-column-init c = (columns_none, omega arith)

pub field_at-requires : goal.field_at-requires
unfolding width
field_at-requires c =
    let inside : c.loop-column.column < width c.args.sizes = c.loop-column-test.true in
    (c.requires.0, inside)

pub bounds-fields-field_at : goal.bounds-fields-field_at
bounds-fields-field_at c = c.field_at.ensures.1

pub commit_column-requires : goal.commit_column-requires
unfolding width
commit_column-requires c =
    let inside : c.loop-column.column < width c.args.sizes = c.loop-column-test.true in
    (c.requires.0, c.loop-column.invariant.0.length_is ∙ c.requires.1, c.requires.2, inside, c.requires.3)

pub first_offence-requires : goal.first_offence-requires
first_offence-requires c =
    (c.requires.0, c.requires.2.base≤, c.requires.2.values_room)

pub overflow_step-column : goal.overflow_step-column
unfolding width
overflow_step-column c =
    let inside : c.loop-column.column < width c.args.sizes = c.loop-column-test.true in
    omega (arith, inside, width≤ c.requires.0)

pub loop-column-smaller : goal.loop-column-smaller
loop-column-smaller c = omega (arith, c.loop-column-test.true)

pub shape_of-out : goal.shape_of-out
shape_of-out c = c.loop-column.invariant.0.length_is

pub returns : goal.returns
unfolding width
returns c = let i = c.loop-column.invariant in columns_all i.0 (omega (arith, i.1, c.loop-column-test.false))

pub returns-then-is_none : goal.returns-then-is_none
unfolding width
returns-then-is_none c =
    let inside : c.loop-column.column < width c.args.sizes = c.loop-column-test.true in
    let left : c.commit_column.result ≡ None = search rules in
    columns_stop c.args.sizes _ _ c.loop-column.out _ c.requires.3 inside (rw left at c.commit_column.ensures)
    c.first_offence.result c.first_offence.ensures

pub loop-column-preserved : goal.loop-column-preserved
loop-column-preserved c =
    let so_far = c.loop-column.invariant.0 in
    elim c.else-fields-field_at.branch [
      | else-fields-field_at-via-then-fields-field_at+else-is_none w ↦
          let done : w.commit_column.result ≡ Some tt = search rules in
          rw w.out-is
          (columns_next so_far (rw c.field_at.ensures.0 at w.if-fields-field_at.true) w.commit_column.auto.out (rw done at w.commit_column.ensures), omega (arith, c.loop-column-test.true))
      | else-fields-field_at-via-else-fields-field_at w ↦
          rw w.out-is (columns_skip so_far (rw c.field_at.ensures.0 at w.if-fields-field_at.false), omega (arith, c.loop-column-test.true))
    ]
