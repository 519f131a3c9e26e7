-- The column of a field in the scratch buffers: as it is stored, what stands behind it, and as it is compared.
use Prim.Native.Nat.{ℕ, ◌+◌, ◌<◌}
use mathlib.Core.Path.{◌≡◌, refl, ap, ap₂, sym, ◌∙◌}
use mathlib.Core.Bool.{Bool, true, false, not}
use mathlib.Core.List.{List}
use lib.IntN.{ℤ, pos, negsuc}
use borrow.Author.Tests.{eq-eqb, eqb-true}
use Rattle.std.specs.Prelude.{None, Some}
use Rattle.std.specs.Option.{option_eq}
use Rattle.std.proofs.Common.{int_eq}
use Rattle.std.proofs.lemmas.Bool.Decides.{Decides-int_eq}
use Rattle.integers.specs.Range.{eq_z}
use Rattle.register.specs.declared.Sizes.{Sizes}
use Rattle.register.specs.declared.cells.Cell.{Cell}
use Rattle.chain.specs.Reading.{Reading}
use Rattle.chain.specs.Word.{read_cell}
use Rattle.machine.specs.Run.{same_reading}
use Rattle.machine.proofs.Columns.{same_at}
use Rattle.scratch.specs.Places.{place_at, StoredFrom}
use Rattle.scratch.proofs.Placed.{kept_same}
use Rattle.run_loop.specs.Column.{LoopColumn, Behind}

-- places behind a column: nothing is stored ..
pub behind-same : {s : Sizes} {at : ℕ} {values : List ℤ} {marks : List ℕ} → Behind s at values marks values marks
behind-same = record { values_length = refl; marks_length = refl; kept = λ j h. kept_same }

-- .. or the column is
pub behind-stored : {s : Sizes} {at : ℕ} {x : ℕ → Reading} {values values' : List ℤ} {marks marks' : List ℕ}
    → StoredFrom at s.records x values marks values' marks' → Behind s at values marks values' marks'
behind-stored k = record { values_length = k.values_length; marks_length = k.marks_length; kept = k.behind }

-- two tests that are true together are the same
true_alike : (b c : Bool) → (b ≡ true → c ≡ true) → (c ≡ true → b ≡ true) → b ≡ c
true_alike true c f g = sym (f refl)
true_alike false true f g = g refl
true_alike false false f g = refl

eq_z-refl : (z : ℤ) → eq_z z z ≡ true
unfolding eq_z
eq_z-refl (pos a) = eq-eqb a a refl
eq_z-refl (negsuc a) = eq-eqb a a refl

eq_z-is : (y z : ℤ) → eq_z y z ≡ true → y ≡ z
unfolding eq_z
eq_z-is (pos a) (pos b) h = ap pos (eqb-true a b h)
eq_z-is (pos a) (negsuc b) h = cc
eq_z-is (negsuc a) (pos b) h = cc
eq_z-is (negsuc a) (negsuc b) h = ap negsuc (eqb-true a b h)

-- readings are the same where they are equal
same_equal : (x y : Reading) → option_eq int_eq x y ≡ same_reading x y
unfolding same_reading
same_equal None None = refl
same_equal None (Some b) = refl
same_equal (Some a) None = refl
same_equal (Some a) (Some b) =
    true_alike (int_eq a b) (eq_z a b)
    (λ h. let e = (Decides-int_eq a b).0 h in rw (← e) (eq_z-refl a))
    (λ h. (Decides-int_eq a b).1 (eq_z-is a b h))

not_twice : (b : Bool) → not (not b) ≡ b
not_twice true = refl
not_twice false = refl

module _ (s : Sizes) (f : ℕ) (cells : List Cell) (at : ℕ) where
  -- a column that is stored stands at its places
  pub column-stored : {values values' : List ℤ} {marks marks' : List ℕ} → StoredFrom at s.records (λ u. read_cell s cells u f) values marks values' marks'
      → LoopColumn s f cells at values' marks'
  column-stored k = record { column = record { fits = k.fits }; place_is = k.place_is }

  -- what is kept for a record and what is read of its cell now, compared
  pub same-told : {values : List ℤ} {marks : List ℕ} {x y : Reading} {r : Bool} (after : List Cell) (u : ℕ) → u < s.records
      → x ≡ place_at values marks (at + u) → y ≡ read_cell s after u f → r ≡ not (option_eq int_eq x y) → LoopColumn s f cells at values marks → same_at s f cells after u ≡ not r
  same-told {x = x} {y = y} after u h ex ey er k =
      sym (ap not er ∙ not_twice (option_eq int_eq x y) ∙ same_equal x y ∙ ap₂ same_reading (ex ∙ k.place_is u h) ey)
