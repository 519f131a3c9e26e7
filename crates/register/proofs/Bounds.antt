-- The limits of the sizes, and where the cells of a record stand.
use Prim.Native.Nat.{ℕ, zero, suc, ◌*◌, ◌/◌, ◌%◌, ◌≤◌, ◌<◌}
use mathlib.Core.Path.{◌≡◌}
use mathlib.Core.Bool.{true}
use native.Mathlib.Omega.{arith}
use native.Mathlib.Nat.{mul-le-mul_right, mul-le-mul_left, div-add-mod', div-lt_iff_lt-mul, mod-lt}
use borrow.Author.Tests.{leb-true, le-leb}
use Rattle.laws.proofs.Bools.{and_both}
use Rattle.register.specs.File.{width, cell_count, cell_index}
use Rattle.register.specs.Load.{within_limits}
use Rattle.register.specs.Shape.{Limits}
use Rattle.register.specs.declared.Sizes.{Sizes}

pub limits : (s : Sizes) → within_limits s ≡ true → Limits s
unfolding within_limits
limits s e =
    let a = and_both _ _ e in
    let b = and_both _ _ a.0 in
    record { records≤ = leb-true _ _ b.0; references≤ = leb-true _ _ b.1; measures≤ = leb-true _ _ a.1 }

pub limits-test : (s : Sizes) → Limits s → within_limits s ≡ true
unfolding within_limits
limits-test s l = simp (le-leb s.records 4096 l.records≤, le-leb s.references 8 l.references≤, le-leb s.measures 8 l.measures≤)

module _ {s : Sizes} (l : Limits s) where
  pub width≤ : width s ≤ 16
  unfolding width
  width≤ = omega (arith, l.references≤, l.measures≤)

  pub cell_count≤ : cell_count s ≤ 65536
  unfolding cell_count
  cell_count≤ = omega (arith, mul-le-mul_right (width s) l.records≤, mul-le-mul_left 4096 width≤)

pub cell_index-below : (s : Sizes) (u f : ℕ) → u < s.records → f < width s → cell_index s u f < cell_count s
unfolding cell_count cell_index
cell_index-below s u f hu hf = omega (arith, mul-le-mul_right (width s) hu)

pub width_references : (s : Sizes) {f : ℕ} → f < s.references → f < width s
unfolding width
width_references s h = omega arith

-- the record and the column of place j
module _ (s : Sizes) (j : ℕ) (h : j < cell_count s) where
  pub place-width : 0 < width s
  unfolding cell_count
  place-width = go (width s) h
    where
      go : (w : ℕ) → j < s.records * w → 0 < w
      go zero h = absurd (omega arith)
      go (suc w) h = omega arith

  pub place_row : j / width s < s.records
  unfolding cell_count
  place_row = (div-lt_iff_lt-mul place-width).1 h

  pub place-column : j % width s < width s
  place-column = mod-lt j place-width

  pub place_is : cell_index s (j / width s) (j % width s) ≡ j
  unfolding cell_index
  place_is = div-add-mod' j (width s)
