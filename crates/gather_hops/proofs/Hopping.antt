-- A line of places taken hop by hop along a chain.
use Rattle.std.specs.Prelude.{None, Some}
use Prim.Native.Nat.{ℕ, ◌<◌}
use mathlib.Core.Path.{◌≡◌, refl, sym, ap, ◌∙◌}
use mathlib.Core.Bool.{true}
use mathlib.Core.List.{List, [], ◌∷◌}
use lib.Dec.{ltb}
use lib.ListN.{length, set}
use mir.Syntax.{w32}
use mir.Val.{SFits}
use lib.IntN.{ℤ}
use Rattle.laws.proofs.Bools.{and_both}
use Rattle.register.specs.Cells.{cell_of}
use Rattle.register.specs.Shape.{Valid}
use Rattle.register.specs.declared.Sizes.{Sizes}
use Rattle.register.specs.declared.cells.Cell.{Cell}
use Rattle.chain.specs.Reading.{Reading}
use Rattle.chain.specs.Word.{readable, read_of, read_cell, reading_value, hop, follow, FirstHop, value_at_record}
use Rattle.chain.proofs.Packing.{first_some_lem}
use Rattle.chain.proofs.Following.{readable-field, readable-rest, Underway, underway-first, underway-next, underway-last}
use Rattle.scratch.specs.Places.{reading_mark, StoredFrom}
use Rattle.scratch.proofs.Storing.{stored_still, stored_one, stored_as, stored_over_lem}
use Rattle.gather_hops.specs.Hopped.{Referring, Hopped}

-- a line whose places are underway, with a word still to follow
pub record LineUnderway (s : Sizes) (cells : List Cell) (w : List ℕ) (first : ℕ) (rest : List ℕ)
    (values : List ℤ) (marks : List ℕ) (values' : List ℤ) (marks' : List ℕ) : Type 0 where
  reached : ℕ → Reading
  pub stored : StoredFrom first s.records reached values marks values' marks'
  pub follows : readable s rest ≡ true
  each : (u : ℕ) → u < s.records → Underway s cells (value_at_record s cells w u) rest (reached u)

-- a reading that is put at place j
pub reading-stored : (x : Reading) (j : ℕ) (values : List ℤ) (marks : List ℕ) → j < length values → j < length marks → SFits w32 (reading_value x)
    → StoredFrom j 1 (λ _. x) values marks (set values j (reading_value x)) (set marks j (reading_mark x))
unfolding read_of cell_of reading_value reading_mark
reading-stored x j values marks v m fits = stored_as (λ u h. put-read x) (stored_one j values marks _ _ v m fits)
  where
    put-read : (x : Reading) → read_of (cell_of (reading_value x) (reading_mark x)) ≡ x
    put-read None = refl
    put-read (Some z) = refl

-- the first two hops of a word that can be followed
pub readable-two : (s : Sizes) {w rest : List ℕ} {f g : ℕ} → w ≡ f ∷ g ∷ rest → readable s w ≡ true → readable s (f ∷ g ∷ []) ≡ true
unfolding readable
readable-two s {rest = rest} {f = f} {g = g} e k =
    let both = and_both (ltb f s.references) (readable s (g ∷ rest)) (sym (ap (readable s) e) ∙ k) in
    rw both.0 (readable-field s {r = rest} refl both.1)

module _ {s : Sizes} {cells : List Cell} where
  -- the first of two hops
  pub hop-first : {x : Reading} (f g u : ℕ) → Valid s cells → readable s (f ∷ g ∷ []) ≡ true → u < s.records → x ≡ read_cell s cells u f
      → Underway s cells (value_at_record s cells (f ∷ g ∷ []) u) (g ∷ []) x
  unfolding hop
  hop-first f g u v k h e = underway-next (underway-first _ u h) v refl k e

  -- both
  pub line-begun : {w rest : List ℕ} {f g first : ℕ} {values values' : List ℤ} {marks marks' : List ℕ} → Valid s cells → w ≡ f ∷ g ∷ rest → readable s w ≡ true
      → StoredFrom first s.records (value_at_record s cells (f ∷ g ∷ [])) values marks values' marks' → LineUnderway s cells w first rest values' marks' values' marks'
  unfolding value_at_record follow
  line-begun {w} {f = f} {g = g} v e k d =
      let behind = readable-rest s e k in
      record {
        reached = value_at_record s cells (f ∷ g ∷ []);
        stored = stored_still d.place_is d.fits;
        follows = readable-rest s refl behind;
        each = λ u h. underway-next (underway-next (underway-first w u h) v e k refl) v refl behind refl;
      }

  module _ {w rest : List ℕ} {first : ℕ} {values values' : List ℤ} {marks marks' : List ℕ} (k : LineUnderway s cells w first rest values marks values' marks') where
    -- its places name records where a hop is left
    pub line-referring : {f : ℕ} → FirstHop f rest → Referring s first values' marks'
    line-referring e =
        record { fits = k.stored.fits; refers = λ u h. rw (k.stored.place_is u h) ((k.each u h).refers (first_some_lem e)) }

    -- one hop on
    pub line_on : {r : List ℕ} {f : ℕ} {values'' : List ℤ} {marks'' : List ℕ} → Valid s cells → rest ≡ f ∷ r
        → Hopped s cells f first s.records values' marks' values'' marks'' → LineUnderway s cells w first r values marks values'' marks''
    line_on {f = f} v e d =
        record {
          reached = λ u. hop s cells (k.reached u) f;
          stored = stored_over_lem k.stored (stored_as (λ u h. ap (λ (x : Reading). hop s cells x f) (k.stored.place_is u h)) d);
          follows = readable-rest s e k.follows;
          each = λ u h. underway-next (k.each u h) v e k.follows refl;
        }

    -- no hop is left
    pub line-done : rest ≡ [] → StoredFrom first s.records (value_at_record s cells w) values marks values' marks'
    line-done e = stored_as (λ u h. underway-last (k.each u h) e) k.stored
