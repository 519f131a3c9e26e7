-- Readings that are stored one after the other in the scratch buffers, and cells of a register that are copied there.
use Prim.Native.Nat.{ℕ, ◌+◌, ◌*◌, ◌≤◌, ◌<◌}
use mathlib.Core.Path.{◌≡◌, refl, sym, ap, ap₂, ◌∙◌}
use mathlib.Core.List.{List}
use native.Mathlib.Omega.{arith}
use borrow.Author.Count.{below_more}
use lib.IntN.{ℤ, pos}
use lib.ListN.{length, get_or, set, length-set}
use lib.Seq.{get_or-set_same}
use mir.Syntax.{w32}
use mir.Val.{SFits}
use Rattle.integers.specs.Bytes.{value_at}
use Rattle.register.specs.Cells.{cell_of, cell_at, cells_of}
use Rattle.register.specs.File.{width, cell_index}
use Rattle.register.specs.Shape.{Parts}
use Rattle.register.specs.declared.Sizes.{Sizes}
use Rattle.register.specs.declared.cells.Cell.TheVariants.{Missing}
use Rattle.chain.specs.Reading.{Reading}
use Rattle.chain.specs.Word.{read_of}
use Rattle.register.proofs.Arrays.{cells_of-at}
use Rattle.register.proofs.Bounds.{cell_index-below}
use Rattle.scratch.specs.Places.{stored_at, place_at, StoredFrom}
use Rattle.scratch.proofs.Placed.{kept_same, kept_again, kept-other, place_at-kept}

-- what already stands there
pub stored_still : {at n : ℕ} {x : ℕ → Reading} {values : List ℤ} {marks : List ℕ} → ((u : ℕ) → u < n → place_at values marks (at + u) ≡ x u)
    → ((u : ℕ) → u < n → SFits w32 (get_or values (at + u) (pos 0))) → StoredFrom at n x values marks values marks
stored_still there fits = record { values_length = refl; marks_length = refl; place_is = there; fits = fits; before = λ j h. kept_same; behind = λ j h. kept_same }

-- nothing is stored yet
pub stored-none : (at : ℕ) (x : ℕ → Reading) (values : List ℤ) (marks : List ℕ) → StoredFrom at 0 x values marks values marks
stored-none at x values marks = stored_still (λ u h. absurd (omega arith)) (λ u h. absurd (omega arith))

-- a value and its mark are stored at place j
pub stored_one : (j : ℕ) (values : List ℤ) (marks : List ℕ) (z : ℤ) (m : ℕ) → j < length values → j < length marks → SFits w32 z
    → StoredFrom j 1 (λ _. read_of (cell_of z m)) values marks (set values j z) (set marks j m)
unfolding place_at stored_at
stored_one j values marks z m v l fits =
    let here : (u : ℕ) → u < 1 → j + u ≡ j = λ u h. omega arith in
    record {
      values_length = length-set values j z;
      marks_length = length-set marks j m;
      place_is = λ u h. rw (here u h) (ap read_of (ap₂ cell_of (get_or-set_same values j z (pos 0) v) (get_or-set_same marks j m 0 l)));
      fits = λ u h. rw (here u h, get_or-set_same values j z (pos 0) v) fits;
      before = λ i h. kept-other values marks j z m i (λ e. omega arith);
      behind = λ i h. kept-other values marks j z m i (λ e. omega arith);
    }

-- a place is left as it is
pub stored-left : (j : ℕ) (values : List ℤ) (marks : List ℕ) → SFits w32 (get_or values j (pos 0)) → StoredFrom j 1 (λ _. place_at values marks j) values marks values marks
stored-left j values marks fits =
    let here : (u : ℕ) → u < 1 → j + u ≡ j = λ u h. omega arith in
    stored_still (λ u h. rw (here u h) refl) (λ u h. rw (here u h) fits)

module _ {at n : ℕ} {x y : ℕ → Reading} {values values' : List ℤ} {marks marks' : List ℕ} where
  -- the same readings by another name
  pub stored_as : ((u : ℕ) → u < n → x u ≡ y u) → StoredFrom at n x values marks values' marks' → StoredFrom at n y values marks values' marks'
  stored_as e s =
      record {
        values_length = s.values_length;
        marks_length = s.marks_length;
        place_is = λ u h. s.place_is u h ∙ e u h;
        fits = s.fits;
        before = s.before;
        behind = s.behind;
      }

  -- others over those stored before
  pub stored_over_lem : {values'' : List ℤ} {marks'' : List ℕ} → StoredFrom at n x values marks values' marks' → StoredFrom at n y values' marks' values'' marks''
      → StoredFrom at n y values marks values'' marks''
  stored_over_lem a b =
      record {
        values_length = b.values_length ∙ a.values_length;
        marks_length = b.marks_length ∙ a.marks_length;
        place_is = b.place_is;
        fits = b.fits;
        before = λ j h. kept_again (a.before j h) (b.before j h);
        behind = λ j h. kept_again (a.behind j h) (b.behind j h);
      }

  -- one more behind those stored before
  pub stored_more : {values'' : List ℤ} {marks'' : List ℕ} → StoredFrom at n x values marks values' marks' → StoredFrom (at + n) 1 y values' marks' values'' marks'' → y 0 ≡ x n
      → StoredFrom at (n + 1) x values marks values'' marks''
  stored_more {values''} {marks''} a b e =
      let here : at + n + 0 ≡ at + n = omega arith in
      record {
        values_length = b.values_length ∙ a.values_length;
        marks_length = b.marks_length ∙ a.marks_length;
        place_is =
            below_more (λ u. place_at values'' marks'' (at + u) ≡ x u) n
            (λ u h. place_at-kept (b.before (at + u) (omega arith)) ∙ a.place_is u h)
            (rw here at (b.place_is 0 (omega arith)) ∙ e);
        fits =
            below_more (λ u. SFits w32 (get_or values'' (at + u) (pos 0))) n
            (λ u h. rw (b.before (at + u) (omega arith)).value-is (a.fits u h))
            (rw here at (b.fits 0 (omega arith)));
        before = λ j h. kept_again (a.before j h) (b.before j (omega arith));
        behind = λ j h. kept_again (a.behind j (omega arith)) (b.behind j (omega arith));
      }

-- the cell of record v and column k of a register's two arrays
module _ {s : Sizes} {cells filled : List ℕ} (p : Parts s cells filled) (v k : ℕ) (row : v < s.records) (inside : k < width s) (j : ℕ) (at : j ≡ cell_index s v k) where
  pub copied-room : (4 * j + 4 ≤ length cells) × (j < length filled)
  copied-room =
      let b = cell_index-below s v k row inside in
      (omega (arith, b, p.values_length), omega (arith, b, p.marks_length))

  -- copied to place i
  pub copied-one : SFits w32 (value_at cells (4 * j)) → (i : ℕ) (values : List ℤ) (marks : List ℕ) → i < length values → i < length marks
      → StoredFrom i 1 (λ _. read_of (get_or (cells_of cells filled) (cell_index s v k) Missing)) values marks (set values i (value_at cells (4 * j))) (set marks i (get_or filled j 0))
  unfolding cell_at
  copied-one fits i values marks a b =
      stored_as (λ u h. ap read_of (sym (cells_of-at cells filled j copied-room.1) ∙ ap (λ (n : ℕ). get_or (cells_of cells filled) n Missing) at))
      (stored_one i values marks (value_at cells (4 * j)) (get_or filled j 0) a b fits)
