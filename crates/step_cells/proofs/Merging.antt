-- What a remote write makes of a place.
use Rattle.std.specs.Prelude.{Some}
use Prim.Native.Nat.{ℕ, ◌+◌, ◌<◌}
use mathlib.Core.Path.{◌≡◌, sym}
use mathlib.Core.Logic.{◌≢◌}
use mathlib.Core.Bool.{true, false}
use mathlib.Core.List.{List}
use native.Mathlib.Omega.{arith}
use lib.IntN.{ℤ, pos, ◌+ℤ◌}
use lib.ListN.{get_or}
use lib.Signed.{lt_z, mag}
use mir.Syntax.{w32}
use mir.Val.{SFits}
use Rattle.integers.proofs.Complement.{mag_sum}
use Rattle.register.specs.Cells.{value_of}
use Rattle.register.specs.declared.cells.Cell.{Cell}
use Rattle.register.specs.declared.cells.Cell.TheVariants.{Missing, Measured, WorkedOut}
use Rattle.chain.specs.Word.{read_of}
use Rattle.machine.specs.Remote.{is_lowered, smaller, added, increased, merged}
use Rattle.program.specs.declared.rule.Sort.{Sort}
use Rattle.program.specs.declared.rule.Sort.TheVariants.{Least, Total}
use Rattle.laws.proofs.Bools.{cond_both}
use Rattle.scratch.specs.Places.{stored_at, place_at}
use Rattle.scratch.proofs.Placed.{stored_at_missing, place_at-value}
use Rattle.step_cells.specs.Work.{Put}
use Rattle.step_cells.proofs.Working.{put-kept}

module _ (values : List ℤ) (marks : List ℕ) (j : ℕ) (a : ℤ) where
  -- a missing cell
  module _ (none : get_or marks j 0 ≡ 0) where
    pub least_missing : merged Least (stored_at values marks j) a ≡ WorkedOut a
    unfolding merged smaller is_lowered read_of
    least_missing = rw (← stored_at_missing values marks j none)

    pub total_missing : Put j (merged Total (stored_at values marks j) a) values marks values marks
    unfolding merged increased added read_of
    total_missing = put-kept (rw (← stored_at_missing values marks j none))

  -- a cell that has a value
  module _ (some : get_or marks j 0 ≢ 0) where
    read-there : read_of (stored_at values marks j) ≡ Some (get_or values j (pos 0))
    unfolding place_at
    read-there = sym (place_at-value values marks j some)

    pub least_smaller : lt_z a (get_or values j (pos 0)) ≡ true → merged Least (stored_at values marks j) a ≡ WorkedOut a
    unfolding merged smaller is_lowered
    least_smaller h = rw read-there (simp h)

    pub least_kept : lt_z a (get_or values j (pos 0)) ≡ false → Put j (merged Least (stored_at values marks j) a) values marks values marks
    unfolding merged smaller is_lowered
    least_kept h = put-kept (rw read-there (simp h))

    pub total-added : merged Total (stored_at values marks j) a ≡ WorkedOut (get_or values j (pos 0) +ℤ a)
    unfolding merged increased added
    total-added = rw read-there

-- a value grows by one amount at most
pub merged-below : (k : Sort) (c : Cell) (a : ℤ) {b : ℕ} → SFits w32 a → mag (value_of c) < b → mag (value_of (merged k c a)) < b + 2147483648
unfolding merged smaller increased added read_of value_of
merged-below Least c a {b} fits h =
    cond_both (λ (d : Cell). mag (value_of d) < b + 2147483648) (is_lowered (read_of c) a) _ _ (omega (arith, fits.sfits)) (omega arith)
merged-below Total Missing a fits h = omega arith
merged-below Total (Measured z) a fits h = omega (arith, mag_sum z a, fits.sfits)
merged-below Total (WorkedOut z) a fits h = omega (arith, mag_sum z a, fits.sfits)
