-- What a register whose cells are not refused holds at each place.
use Prim.Native.Nat.{ℕ, zero, suc, ◌*◌, ◌/◌, ◌%◌, ◌<◌}
use mathlib.Core.Path.{◌≡◌, refl, sym, ap, subst, ◌∙◌}
use mathlib.Core.Logic.{◌≢◌}
use mathlib.Core.Bool.{Bool, true, false}
use mathlib.Core.List.{List}
use native.Mathlib.Omega.{arith}
use native.Mathlib.Decide.{dec_lt}
use borrow.Author.Tests.{lt-ltb}
use lib.IntN.{ℤ, pos}
use lib.ListN.{get_or}
use Rattle.integers.specs.Bytes.{value_at}
use Rattle.integers.specs.Range.{eq_z, is_index}
use Rattle.integers.proofs.Complement.{zero_is}
use Rattle.register.specs.Cells.{Canonical, value_of, mark_of, cell_of, cell_at}
use Rattle.register.specs.File.{width, cell_count, cell_index}
use Rattle.register.specs.Load.{cell_refusal, refusal_at, record_refusal, cells_refusal}
use Rattle.register.specs.Shape.{refers_within}
use Rattle.register.specs.declared.Sizes.{Sizes}
use Rattle.register.specs.declared.cells.Cell.{Cell}
use Rattle.register.specs.declared.cells.Cell.TheVariants.{Missing, Measured, WorkedOut}
use Rattle.laws.proofs.First.{first_each}
use Rattle.register.proofs.Arrays.{cell_of-worked}
use Rattle.register.proofs.Bounds.{place_row, place-column, place_is}
use Rattle.register.proofs.Refusals.{refused_mark, missing_zero, refused_missing, filled_measure, filled_reference, refused_reference}

-- one cell
module _ (n : ℕ) (reference : Bool) (z : ℤ) where
  sound_cell : (mark : ℕ) → cell_refusal n reference z mark ≡ 0 → Canonical z mark
  sound_cell zero h = record { mark≤ = omega arith; missing = λ e. zero_is z (go (eq_z z (pos 0)) refl) }
    where
      go : (t : Bool) → eq_z z (pos 0) ≡ t → eq_z z (pos 0) ≡ true
      go true e = e
      go false e = absurd (omega (arith, refused_missing n reference z 0 refl e))
  sound_cell (suc mark) h = go (dec_lt 2 (suc mark))
    where
      go : Dec (2 < suc mark) → Canonical z (suc mark)
      go (yes l) = absurd (omega (arith, refused_mark n reference z (suc mark) l))
      go (no l) = record { mark≤ = omega arith; missing = λ e. absurd (omega arith) }

-- a filled reference that is not refused is to a record
sound_index : (n : ℕ) (z : ℤ) (mark : ℕ) → mark ≢ 0 → cell_refusal n true z mark ≡ 0 → is_index n z ≡ true
sound_index n z mark filled h = go (is_index n z) refl
  where
    go : (t : Bool) → is_index n z ≡ t → is_index n z ≡ true
    go true e = e
    go false e = absurd (omega (arith, refused_reference n true z mark (sound_cell n true z mark h).mark≤ filled refl e))

sound_reference : (n : ℕ) (z : ℤ) (mark : ℕ) → cell_refusal n true z mark ≡ 0 → refers_within n (cell_of z mark) ≡ true
unfolding refers_within cell_of
sound_reference n z zero h = refl
sound_reference n z (suc zero) h = sound_index n z 1 (λ e. omega arith) h
sound_reference n z (suc (suc k)) h = ap (refers_within n) (cell_of-worked z k) ∙ sound_index n z (suc (suc k)) (λ e. omega arith) h

module _ (s : Sizes) (values marks : List ℕ) (none : cells_refusal s values marks ≡ 0) where
  sound_at : (u f : ℕ) → u < s.records → f < width s → refusal_at s values marks u f ≡ 0
  unfolding cells_refusal record_refusal
  sound_at u f hu hf = first_each (refusal_at s values marks u) (width s) f (first_each (record_refusal s values marks) s.records u none hu) hf

  -- each place holds a value and a mark that a file may hold
  pub sound_place : (j : ℕ) → j < cell_count s → Canonical (value_at values (4 * j)) (get_or marks j 0)
  unfolding refusal_at
  sound_place j h =
      subst (λ (k : ℕ). Canonical (value_at values (4 * k)) (get_or marks k 0)) (place_is s j h)
      (sound_cell _ _ _ _ (sound_at (j / width s) (j % width s) (place_row s j h) (place-column s j h)))

  -- each reference is to a record
  pub sound_refers : (u f : ℕ) → u < s.records → f < s.references → refers_within s.records (cell_at values marks (cell_index s u f)) ≡ true
  unfolding refusal_at cell_at width
  sound_refers u f hu hf =
      sound_reference s.records _ _
      (ap (λ (t : Bool). cell_refusal s.records t (value_at values (4 * cell_index s u f)) (get_or marks (cell_index s u f) 0)) (sym (lt-ltb f s.references hf))
      ∙ sound_at u f hu (omega arith))

-- a cell of a valid list is not refused
pub cell_sound : (n : ℕ) (reference : Bool) (c : Cell) → (reference ≡ true → refers_within n c ≡ true) → cell_refusal n reference (value_of c) (mark_of c) ≡ 0
unfolding refers_within value_of mark_of eq_z
cell_sound n reference Missing h = missing_zero n reference (pos 0) 0 refl refl
cell_sound n true (Measured z) h = filled_reference n true z 1 (omega arith) (λ e. omega arith) refl (h refl)
cell_sound n true (WorkedOut z) h = filled_reference n true z 2 (omega arith) (λ e. omega arith) refl (h refl)
cell_sound n false (Measured z) h = filled_measure n false z 1 (omega arith) (λ e. omega arith) refl
cell_sound n false (WorkedOut z) h = filled_measure n false z 2 (omega arith) (λ e. omega arith) refl
