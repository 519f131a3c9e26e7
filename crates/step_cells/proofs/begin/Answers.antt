-- `step_cells::begin` meets its contract. The loop's invariant: the places passed hold their cells, and nothing below `base` has changed.
use Prim.Native.Nat.{◌+◌}
use mathlib.Core.Path.{◌∙◌, ap}
use native.Mathlib.Omega.{arith}
use borrow.Author.Count.{below_none, below_more}
use Rattle.register.specs.File.{cell_count}
use Rattle.register.proofs.Roundtrip.{register-value, register_mark}
use Rattle.step_cells.proofs.Working.{Changed, same_refl, same_then, room-same, same_set, value_there, mark_there, kept_there}
use Rattle.step_cells.proofs.begin.Goals as goal

pub loop-j-init : goal.loop-j-init
loop-j-init c = (same_refl, below_none _)

pub overflow_add-base : goal.overflow_add-base
overflow_add-base c =
    let count = c.of-cells.result.parts.marks_length ∙ ap cell_count c.of-cells.ensures.0 in
    omega (arith, count, (room-same c.loop-j.invariant.0 c.requires.1).values_room)

pub copy_cell-requires : goal.copy_cell-requires
copy_cell-requires c =
    let count = c.of-cells.result.parts.marks_length ∙ ap cell_count c.of-cells.ensures.0 in
    let room = room-same c.loop-j.invariant.0 c.requires.1 in
    (omega (arith, c.of-cells.result.parts.marks_length, c.of-cells.result.parts.values_length), omega arith, omega (arith, count, room.values_room), omega (arith, count, room.marks_room))

pub loop-j-preserved : goal.loop-j-preserved
loop-j-preserved c =
    let count = c.of-cells.result.parts.marks_length ∙ ap cell_count c.of-cells.ensures.0 in
    let room = room-same c.loop-j.invariant.0 c.requires.1 in
    let j = c.loop-j.j in
    let q : Changed (c.args.base + j) _ _ _ _ _ _ = record { values_are = c.copy_cell.ensures.0; marks_are = c.copy_cell.ensures.1 } in (
      same_then c.loop-j.invariant.0 (same_set c.args.base j q),
      below_more _ j
          (λ i h.
          let k = kept_there c.args.base j q (c.args.base + i) (λ e. omega arith) in
          let before = c.loop-j.invariant.1 i h in
          (k.value-is ∙ before.0, k.mark_is ∙ before.1))
          (value_there c.args.base j q (omega (arith, count, room.values_room)), mark_there c.args.base j q (omega (arith, count, room.marks_room))),
    )

pub shape_of-values : goal.shape_of-values
shape_of-values c = c.loop-j.invariant.0.values_length

pub shape_of-marks : goal.shape_of-marks
shape_of-marks c = c.loop-j.invariant.0.marks_length

pub returns : goal.returns
returns c =
    let length_is = c.of-cells.result.parts.marks_length ∙ ap cell_count c.of-cells.ensures.0 in
    let cut = rw (c.of-cells.ensures.1, c.of-cells.ensures.2) at c.loop-j.invariant.1 in
    let count = c.requires.0.valid.count in record {
      holds_cells = record {
        value-is = λ i h. (cut i (omega (arith, length_is, count))).0 ∙ register-value c.args.sizes c.args.out.now c.requires.0 i (omega (arith, count));
        mark_is = λ i h. (cut i (omega (arith, length_is, count))).1 ∙ register_mark c.args.sizes c.args.out.now c.requires.0 i;
      };
      same = c.loop-j.invariant.0;
    }
