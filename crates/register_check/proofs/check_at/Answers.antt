-- `register_check::check_at` meets its contract: it reads the cell from the two arrays.
use Prim.Native.Nat.{◌*◌, ℕ, ◌<◌}
use mathlib.Core.Path.{sym, ap, ap₂, ◌∙◌}
use mathlib.Core.Bool.{Bool}
use native.Mathlib.Omega.{arith}
use lib.IntN.{ℤ}
use lib.ListN.{get_or}
use Rattle.integers.specs.Bytes.{value_at}
use Rattle.integers.proofs.Complement.{kept}
use Rattle.register.specs.File.{cell_count}
use Rattle.register.specs.Load.{cell_refusal, refusal_at}
use Rattle.register.proofs.Bounds.{cell_count≤, cell_index-below}
use Rattle.register_check.proofs.check_at.Goals as goal

pub overflow_mul-j : goal.overflow_mul-j
overflow_mul-j c =
    let below : c.cell_index-j.result < cell_count c.args.cells.now.sizes = (let s = c in rw c.cell_index-j.ensures (cell_index-below s.args.cells.now.sizes s.args.u s.args.f s.requires.0 s.requires.1)) in
    record { fits = omega (arith, below, cell_count≤ c.args.cells.now.parts.limits) }

pub value_at-value-requires : goal.value_at-value-requires
value_at-value-requires c =
    let below : c.cell_index-j.result < cell_count c.args.cells.now.sizes = (let s = c in rw c.cell_index-j.ensures (cell_index-below s.args.cells.now.sizes s.args.u s.args.f s.requires.0 s.requires.1)) in
    omega (arith, below, c.args.cells.now.parts.values_length)

pub bounds-cells-j : goal.bounds-cells-j
bounds-cells-j c =
    let below : c.cell_index-j.result < cell_count c.args.cells.now.sizes = (let s = c in rw c.cell_index-j.ensures (cell_index-below s.args.cells.now.sizes s.args.u s.args.f s.requires.0 s.requires.1)) in
    omega (arith, below, c.args.cells.now.parts.marks_length)

pub returns : goal.returns
unfolding refusal_at
returns c =
    let i = c in
    let v = c.value_at-value in
    let a = i.args in
    let of : Bool → ℤ → ℕ → ℕ = λ t z j. cell_refusal a.cells.now.sizes.records t z (get_or a.cells.now.marks.now j 0) in
    c.check_cell.ensures
    ∙ ap (λ (z : ℤ). of a.reference z i.cell_index-j.result) (kept v.result v.type_inv ∙ v.ensures)
    ∙ ap₂ (λ (t : Bool) (j : ℕ). of t (value_at a.cells.now.values.now (4 * j)) j) (sym i.requires.2) i.cell_index-j.ensures
