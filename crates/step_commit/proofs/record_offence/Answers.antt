-- `step_commit::record_offence` meets its contract. The loop's invariant: the columns passed are in range at the record.
use Prim.Native.Nat.{ℕ, ◌+◌, ◌<◌}
use mathlib.Core.Path.{◌≡◌, sym, ap, ◌∙◌}
use native.Mathlib.Omega.{arith}
use borrow.Author.Count.{below_none, below_more}
use borrow.Author.Rules.{rules}
use lib.IntN.{ℤ, pos}
use lib.ListN.{get_or}
use mir.Syntax.{w64}
use mir.Facts.{to_z-of_z}
use Rattle.integers.specs.Range.{sum_of}
use Rattle.register.specs.File.{width, cell_count, cell_index}
use Rattle.register.proofs.Bounds.{cell_index-below, cell_count≤, width≤}
use Rattle.machine.specs.Step.{in_record}
use Rattle.machine.proofs.Stops.{total_column-at, total_column-none}
use Rattle.step_commit.proofs.Committing.{total_left, total_kept}
use Rattle.step_commit.proofs.record_offence.Goals as goal

pub overflow_add-column-end : goal.overflow_add-column-end
overflow_add-column-end c = let p = c.requires.0 in omega (arith, p.references≤, p.measures≤)

pub loop-column-init : goal.loop-column-init
loop-column-init c = (below_none _, omega arith)

pub cell_index-j-requires : goal.cell_index-j-requires
unfolding width
cell_index-j-requires c =
    let inside : c.loop-column.column < width c.args.sizes = c.loop-column-test.true in
    (c.requires.0, c.requires.3, inside)

pub overflow_add-base : goal.overflow_add-base
unfolding width
overflow_add-base c =
    let inside : c.loop-column.column < width c.args.sizes = c.loop-column-test.true in
    let below : c.cell_index-j.result < cell_count c.args.sizes = (let s = c in rw c.cell_index-j.ensures (cell_index-below s.args.sizes s.args.u _ s.requires.3 (inside))) in
    let p = c.requires in omega (arith, p.1, below, cell_count≤ p.0)

pub offset_bounds-values-base : goal.offset_bounds-values-base
unfolding width
offset_bounds-values-base c =
    let inside : c.loop-column.column < width c.args.sizes = c.loop-column-test.true in
    let below : c.cell_index-j.result < cell_count c.args.sizes = (let s = c in rw c.cell_index-j.ensures (cell_index-below s.args.sizes s.args.u _ s.requires.3 (inside))) in
    let p = c.requires in omega (arith, p.1, below, cell_count≤ p.0)

pub bounds-values-base : goal.bounds-values-base
unfolding width
bounds-values-base c =
    let inside : c.loop-column.column < width c.args.sizes = c.loop-column-test.true in
    let below : c.cell_index-j.result < cell_count c.args.sizes = (let s = c in rw c.cell_index-j.ensures (cell_index-below s.args.sizes s.args.u _ s.requires.3 (inside))) in
    omega (arith, below, c.requires.2)

pub overflow_step-column : goal.overflow_step-column
unfolding width
overflow_step-column c =
    let inside : c.loop-column.column < width c.args.sizes = c.loop-column-test.true in
    omega (arith, inside, width≤ c.requires.0)

pub loop-column-smaller : goal.loop-column-smaller
loop-column-smaller c =
    omega (arith, c.loop-column-test.true)

pub returns : goal.returns
unfolding in_record width
returns c =
    sym
    (ap (in_record c.args.u)
    (total_column-none c.args.sizes _ c.args.u (λ f col. c.loop-column.invariant.0 f (omega (arith, c.loop-column-test.false, col)))))

pub returns-then-is_none : goal.returns-then-is_none
unfolding in_record width
returns-then-is_none c =
    let inside : c.loop-column.column < width c.args.sizes = c.loop-column-test.true in
    let z : ℤ = get_or c.args.values.now (c.args.base + cell_index c.args.sizes c.args.u c.loop-column.column) (pos 0) in
    let asked : c.in_range.result ≡ sum_of z =
    c.in_range.ensures
    ∙ ap sum_of (to_z-of_z {w = w64} {z = get_or c.args.values.now (c.args.base + c.cell_index-j.result) (pos 0)} (search rules))
    ∙ ap (λ (j : ℕ). sum_of (get_or c.args.values.now (c.args.base + j) (pos 0))) c.cell_index-j.ensures in
    let out = total_left z _ asked c.if-is_none.ensures in
    sym (ap (in_record c.args.u) (total_column-at c.args.sizes _ c.args.u c.loop-column.column inside c.loop-column.invariant.0 out))

pub loop-column-preserved : goal.loop-column-preserved
loop-column-preserved c =
    let z : ℤ = get_or c.args.values.now (c.args.base + cell_index c.args.sizes c.args.u c.loop-column.column) (pos 0) in
    let asked : c.in_range.result ≡ sum_of z =
    c.in_range.ensures
    ∙ ap sum_of (to_z-of_z {w = w64} {z = get_or c.args.values.now (c.args.base + c.cell_index-j.result) (pos 0)} (search rules))
    ∙ ap (λ (j : ℕ). sum_of (get_or c.args.values.now (c.args.base + j) (pos 0))) c.cell_index-j.ensures in
    (below_more _ c.loop-column.column c.loop-column.invariant.0 (total_kept z _ asked c.if-is_none.ensures), omega (arith, c.loop-column-test.true))
