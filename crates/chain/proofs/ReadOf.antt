-- What is read of a stored cell: it refers where the cell does, and has the cell's value.
use Rattle.std.specs.Prelude.{Some}
use Prim.Native.Nat.{ℕ, zero, suc}
use mathlib.Core.Path.{◌≡◌, refl, ap}
use mathlib.Core.Logic.{◌≢◌}
use lib.IntN.{ℤ}
use Rattle.register.specs.Cells.{value_of, cell_of}
use Rattle.register.specs.Shape.{refers_within}
use Rattle.register.specs.declared.cells.Cell.{Cell}
use Rattle.register.specs.declared.cells.Cell.TheVariants.{Missing, Measured, WorkedOut}
use Rattle.register.proofs.Arrays.{cell_of-worked}
use Rattle.chain.specs.Word.{read_of, refers_to, reading_value}

pub read_refers : (n : ℕ) (c : Cell) → refers_to n (read_of c) ≡ refers_within n c
unfolding read_of refers_to refers_within
read_refers n Missing = refl
read_refers n (Measured z) = refl
read_refers n (WorkedOut z) = refl

pub read-value : (c : Cell) → reading_value (read_of c) ≡ value_of c
unfolding read_of reading_value value_of
read-value Missing = refl
read-value (Measured z) = refl
read-value (WorkedOut z) = refl

-- of a value with any mark but 0 the value is read
pub read-filled : (z : ℤ) (mark : ℕ) → mark ≢ 0 → read_of (cell_of z mark) ≡ Some z
unfolding read_of cell_of
read-filled z zero h = absurd (h refl)
read-filled z (suc zero) h = refl
read-filled z (suc (suc k)) h = ap read_of (cell_of-worked z k)
