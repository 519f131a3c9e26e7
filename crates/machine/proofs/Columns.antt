-- The column of a field before and after a pass, as a loop over the records compares it.
use Prim.Native.Nat.{ℕ, zero, suc, ◌<◌}
use mathlib.Core.Path.{◌≡◌, refl, ap, ◌∙◌}
use mathlib.Core.Bool.{Bool, true, false, ◌&&◌, and-false}
use mathlib.Core.List.{List}
use native.Mathlib.Omega.{arith}
use native.Mathlib.Decide.{dec_lt}
use Rattle.register.specs.declared.Sizes.{Sizes}
use Rattle.register.specs.declared.cells.Cell.{Cell}
use Rattle.chain.specs.Word.{read_cell}
use Rattle.machine.specs.Run.{same_reading, same_column}

module _ (s : Sizes) (f : ℕ) (before after : List Cell) where
  -- whether the same is read at a record before and after
  abbrev pub same_at : ℕ → Bool
  same_at n = same_reading (read_cell s before n f) (read_cell s after n f)

  -- no record is compared yet
  pub same_column-none : same_column s f before after 0 ≡ true
  unfolding same_column
  same_column-none = refl

  -- one more record where the same is read
  pub same_column-same : (n : ℕ) → same_column s f before after n ≡ true → same_at n ≡ true → same_column s f before after (suc n) ≡ true
  unfolding same_column
  same_column-same n h e = rw (h, e)

  -- a record where something else is read
  pub same_column-other : (m n : ℕ) → n < m → same_at n ≡ false → same_column s f before after m ≡ false
  unfolding same_column
  same_column-other zero n h e = absurd (omega arith)
  same_column-other (suc m) n h e = go (same_column-other m n) (dec_lt n m)
    where
      go : (n < m → same_at n ≡ false → same_column s f before after m ≡ false) → Dec (n < m) → same_column s f before after m && same_at m ≡ false
      go r (yes l) = rw (r l e)
      go r (no l) = let q : m ≡ n = omega arith in rw (ap same_at q ∙ e) (and-false (same_column s f before after m))
