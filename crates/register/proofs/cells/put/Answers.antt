-- `register::cells::put` meets its contract: what is written to a part is written to the file.
use Prim.Native.Nat.{◌-◌, ◌*◌}
use mathlib.Core.Path.{ap, ◌∙◌}
use native.Mathlib.Omega.{arith}
use borrow.Rule.Slice.PartMut.{mid_of}
use lib.IntN.{ℤ}
use lib.Seq.{sets}
use mir.Facts.{to_z-of_z}
use Rattle.integers.specs.Bytes.{value_bytes}
use Rattle.integers.proofs.Bytes.{value_bytes-length}
use Rattle.register.proofs.Parts.{stores}
use Rattle.register.proofs.cells.put.Goals as goal

pub returns : goal.returns
returns c =
    let a = c.args in
    stores a.split a.j a.mark a.file.now (value_bytes a.value) c.put_value.new.s
    (omega (arith, value_bytes-length a.value, c.requires.0))
    c.requires.1
    (c.put_value.ensures
    ∙ ap (λ (z : ℤ). sets (mid_of 12 (a.split - 12) a.file.now) (4 * a.j) (value_bytes z)) (to_z-of_z c.ranges.value))
