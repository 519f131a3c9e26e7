-- `run_steps::run_program` meets its contract: the working cells begin as those of the register, and the steps are run.
use Prim.Native.Nat.{◌*◌, ◌≤◌}
use native.Mathlib.Omega.{arith}
use Rattle.run_steps.proofs.Standing.{lines_end, scratch-behind}
use Rattle.run_steps.proofs.run_program.Goals as goal

pub overflow_mul-at : goal.overflow_mul-at
overflow_mul-at c =
    let at≤ : c.args.program.lines * c.args.sizes.records ≤ 262144 = lines_end c.args.sizes c.requires.1.lines≤ c.requires.0.valid.limits.records≤ in
    record { fits = omega (arith, at≤) }

pub overflow_add-at : goal.overflow_add-at
overflow_add-at c =
    let at≤ : c.args.program.lines * c.args.sizes.records ≤ 262144 = lines_end c.args.sizes c.requires.1.lines≤ c.requires.0.valid.limits.records≤ in
    record { fits = omega (arith, at≤, c.requires.0.valid.limits.records≤) }

pub begin-requires : goal.begin-requires
begin-requires c =
    let at≤ : c.args.program.lines * c.args.sizes.records ≤ 262144 = lines_end c.args.sizes c.requires.1.lines≤ c.requires.0.valid.limits.records≤ in
    let s = c in
    let room = scratch-behind s.requires.1 in (
      s.requires.0,
      record { base≤ = omega (arith, at≤, s.requires.0.valid.limits.records≤); values_room = room.values_room; marks_room = room.marks_room },
    )

pub run_steps-requires : goal.run_steps-requires
run_steps-requires c =
    let s = c in
    let cells = c.begin.ensures in
    let scratch = s.requires.1 in (
      s.requires.0,
      record {
        lines≤ = scratch.lines≤;
        values_room = rw cells.same.values_length scratch.values_room;
        marks_room = rw cells.same.marks_length scratch.marks_room;
      },
      s.requires.2,
      s.requires.3,
      cells.holds_cells,
    )
