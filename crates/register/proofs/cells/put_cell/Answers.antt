-- `register::cells::put_cell` meets its contract: the product is stored in the values, the mark behind them.
use Prim.Native.Nat.{ℕ, ◌+◌, ◌*◌}
use mathlib.Core.Path.{ap, ap₂, ◌∙◌}
use lib.IntN.{ℤ, pos, ◌*ℤ◌}
use lib.ListN.{set}
use lib.Seq.{sets}
use mir.Facts.{to_z-of_z}
use Rattle.integers.specs.Bytes.{value_bytes}
use Rattle.integers.specs.Factor.{factor}
use Rattle.integers.proofs.Complement.{kept}
use Rattle.register.specs.File.{put_marked}
use Rattle.register.proofs.cells.put_cell.Goals as goal

pub returns : goal.returns
unfolding put_marked
returns c =
    let p = c in
    let t = p in
    let s = t in
    let a = s.args in
    p.put.ensures
    ∙ ap₂ (λ (z : ℤ) (e : ℕ). set (sets a.file.now (12 + 4 * a.j) (value_bytes z)) (e + a.j) a.mark)
    (kept _ t.times_mark.type_inv ∙ t.times_mark.ensures ∙ ap (λ (z : ℤ). z *ℤ pos (factor a.mark)) (to_z-of_z s.ranges.value))
    (ap (λ (k : ℕ). 12 + 4 * k) t.cell_count.ensures)
