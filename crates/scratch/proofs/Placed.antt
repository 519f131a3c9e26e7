-- Places of the scratch buffers: what is read, and what a store leaves.
use Rattle.std.specs.Prelude.{None, Some}
use Prim.Native.Nat.{ℕ}
use mathlib.Core.Path.{◌≡◌, refl, sym, ap, ap₂, ◌∙◌}
use mathlib.Core.Logic.{◌≢◌}
use mathlib.Core.List.{List}
use native.Mathlib.Omega.{arith}
use borrow.Author.Tests.{eq-eqb}
use lib.IntN.{ℤ, pos}
use lib.ListN.{get_or, set}
use lib.Seq.{get_or-set_other}
use Rattle.register.specs.Cells.{cell_of}
use Rattle.register.specs.declared.cells.Cell.TheVariants.{Missing as Unfilled}
use Rattle.chain.specs.Reading.{Reading}
use Rattle.chain.specs.Word.{read_of, reading_value}
use Rattle.chain.proofs.ReadOf.{read-filled}
use Rattle.scratch.specs.Places.{stored_at, place_at, reading_mark, Kept}

module _ (values : List ℤ) (marks : List ℕ) (j : ℕ) where
  -- a missing working cell
  pub stored_at_missing : get_or marks j 0 ≡ 0 → Unfilled ≡ stored_at values marks j
  unfolding stored_at cell_of
  stored_at_missing e = simp (eq-eqb _ _ e)

  -- what is read by the mark of a place
  pub place_at_missing : get_or marks j 0 ≡ 0 → None ≡ place_at values marks j
  unfolding place_at read_of
  place_at_missing e = ap read_of (stored_at_missing e)

  pub place_at-value : get_or marks j 0 ≢ 0 → Some (get_or values j (pos 0)) ≡ place_at values marks j
  unfolding place_at stored_at
  place_at-value e = sym (read-filled (get_or values j (pos 0)) (get_or marks j 0) e)

  -- a reading that is put there
  pub place_at-put : (x : Reading) → get_or values j (pos 0) ≡ reading_value x → get_or marks j 0 ≡ reading_mark x → place_at values marks j ≡ x
  unfolding reading_value reading_mark
  place_at-put None v m = sym (place_at_missing m)
  place_at-put (Some z) v m = sym (place_at-value (λ e. omega arith)) ∙ ap Some v

-- places that are kept
pub kept_same : {j : ℕ} {values : List ℤ} {marks : List ℕ} → Kept j values marks values marks
kept_same = record { value-is = refl; mark_is = refl }

pub kept_again : {j : ℕ} {values values' values'' : List ℤ} {marks marks' marks'' : List ℕ} → Kept j values marks values' marks' → Kept j values' marks' values'' marks''
    → Kept j values marks values'' marks''
kept_again a b = record { value-is = b.value-is ∙ a.value-is; mark_is = b.mark_is ∙ a.mark_is }

-- a store keeps every other place
pub kept-other : (values : List ℤ) (marks : List ℕ) (i : ℕ) (z : ℤ) (m j : ℕ) → j ≢ i → Kept j values marks (set values i z) (set marks i m)
kept-other values marks i z m j h = record { value-is = get_or-set_other values i j z (pos 0) h; mark_is = get_or-set_other marks i j m 0 h }

-- and a kept place holds the same
pub stored_at-kept : {j : ℕ} {values values' : List ℤ} {marks marks' : List ℕ} → Kept j values marks values' marks'
    → stored_at values' marks' j ≡ stored_at values marks j
unfolding stored_at
stored_at-kept k = ap₂ cell_of k.value-is k.mark_is

pub place_at-kept : {j : ℕ} {values values' : List ℤ} {marks marks' : List ℕ} → Kept j values marks values' marks' → place_at values' marks' j ≡ place_at values marks j
unfolding place_at
place_at-kept k = ap read_of (stored_at-kept k)
