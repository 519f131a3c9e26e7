-- Texts in a row: one more of them, and how long they are.
use Prim.Native.Nat.{ℕ, zero, suc, ◌+◌, ◌*◌, ◌≤◌, ◌<◌}
use mathlib.Core.Path.{◌≡◌}
use mathlib.Core.List.{List, ◌++◌}
use mathlib.Core.Logic.{⊎_elim}
use native.Mathlib.Numerals.{add-one}
use native.Mathlib.Omega.{arith}
use lib.ListN.{length, length-append}
use Rattle.laws.proofs.Cases.{lt_or_le}
use Rattle.print_page.specs.Put.{PageRoom, PagePut}
use Rattle.print_listing.specs.Listing.{in_a_row}

module _ (f : ℕ → List ℕ) where
  -- one more text
  pub row_more : (i : ℕ) → in_a_row (i + 1) f ≡ in_a_row i f ++ f i
  unfolding in_a_row
  row_more i = rw add-one

  -- those before a text, and the text, are no longer than all
  pub row_before : (n : ℕ) {i : ℕ} → i < n → length (in_a_row i f) + length (f i) ≤ length (in_a_row n f)
  unfolding in_a_row
  row_before zero h = absurd (omega arith)
  row_before (suc n) {i} h = ⊎_elim
      (λ (l : i < n). simp length-append (omega (arith, row_before n {i = i} l)))
      (λ (l : n ≤ i). let e : i ≡ n = omega arith in rw e (simp length-append (omega arith)))
      (lt_or_le i n)

  -- so there is room for it behind them
  pub row_room : {at n i r : ℕ} {page page' : List ℕ} → PageRoom at (in_a_row n f) page → i < n → PagePut at (in_a_row i f) page page' r → length page' ≡ length page
      → PageRoom r (f i) page'
  row_room {n = n} {i = i} h l p e = record { fits = omega (arith, h.fits, row_before n {i = i} l, p.end, e) }

  -- n texts of at most k bytes
  pub row_length : (k n : ℕ) → ((i : ℕ) → i < n → length (f i) ≤ k) → length (in_a_row n f) ≤ n * k
  unfolding in_a_row
  row_length k zero h = omega arith
  row_length k (suc n) h = simp length-append (omega (arith, row_length k n (λ i l. h i (omega arith)), h n (omega arith)))
