-- Where a step stops, and the range of the cells behind one that does not.
use Prim.Native.Nat.{ℕ, zero, suc, ◌/◌, ◌%◌, ◌≤◌, ◌<◌}
use mathlib.Core.Path.{◌≡◌, refl, ap, subst, ◌∙◌}
use mathlib.Core.Logic.{⊎_elim}
use mathlib.Core.Bool.{Bool, true, false, cond}
use mathlib.Core.List.{List, []}
use mathlib.Core.Option.{Option, none, some}
use native.Mathlib.Omega.{arith}
use native.Mathlib.Decide.{dec_lt}
use lib.ListN.{length, get_or, get_or-eq_default}
use Rattle.register.specs.File.{width, cell_count, cell_index}
use Rattle.register.proofs.Bounds.{place_row, place-column, place_is}
use Rattle.register.specs.declared.Sizes.{Sizes}
use Rattle.register.specs.declared.cells.Cell.{Cell}
use Rattle.register.specs.declared.cells.Cell.TheVariants.{Missing}
use Rattle.chain.specs.Reading.{Reading}
use Rattle.chain.specs.Word.{read_of}
use Rattle.laws.proofs.Cases.{lt_or_le}
use Rattle.program.specs.Program.{Rule}
use Rattle.machine.specs.Value.{reading_in_range, cell_in_range}
use Rattle.machine.specs.Local.{sum_column}
use Rattle.machine.specs.Step.{step_cells, Offence, earlier, first_some, in_record, sum_offence, total_column, total_offence, offence}
use Rattle.machine.specs.Run.{offended, Run, unless_offended}
use Rattle.machine.proofs.Folding.{step_cells-length}

module _ {A : Type 0} (f : ℕ → Option A) where
  -- none is there
  first_some-none : (n : ℕ) → ((i : ℕ) → i < n → f i ≡ none) → first_some n f ≡ none
  unfolding first_some earlier
  first_some-none zero h = refl
  first_some-none (suc n) h = simp (first_some-none n (λ i l. h i (omega arith)), h n (omega arith))

  -- f i is the first that is there
  first_some-at : (n i : ℕ) {x : A} → i < n → ((j : ℕ) → j < i → f j ≡ none) → f i ≡ some x → first_some n f ≡ some x
  unfolding first_some earlier
  first_some-at zero i l before e = absurd (omega arith)
  first_some-at (suc n) i {x} l before e = go (λ b. first_some-at n i b before e) (dec_lt i n)
    where
      go : (i < n → first_some n f ≡ some x) → Dec (i < n) → earlier (first_some n f) (f n) ≡ some x
      go r (yes b) = rw (r b) refl
      go r (no b) = let q : n ≡ i = omega arith in rw (first_some-none n (λ j d. before j (omega arith))) (ap f q ∙ e)

-- none of two
earlier-none : {A : Type 0} (x y : Option A) → earlier x y ≡ none → (x ≡ none) × (y ≡ none)
unfolding earlier
earlier-none none y e = (refl, e)
earlier-none (some x) y e = absurd (let z : ◌≡◌ {A = ℕ} 0 1 = cc in omega arith)

first_some_each : {A : Type 0} (f : ℕ → Option A) (n i : ℕ) → first_some n f ≡ none → i < n → f i ≡ none
unfolding first_some
first_some_each f zero i e l = absurd (omega arith)
first_some_each f (suc n) i e l = go (first_some_each f n i (earlier-none (first_some n f) (f n) e).0) (dec_lt i n)
  where
    go : (i < n → f i ≡ none) → Dec (i < n) → f i ≡ none
    go r (yes b) = r b
    go r (no b) = let q : i ≡ n = omega arith in ap f q ∙ (earlier-none (first_some n f) (f n) e).1

-- the first of two rows that are the same below n
first_some_agree : {A : Type 0} (n : ℕ) (f g : ℕ → Option A) → ((i : ℕ) → i < n → f i ≡ g i) → first_some n f ≡ first_some n g
unfolding first_some
first_some_agree zero f g h = refl
first_some_agree (suc n) f g h = simp (first_some_agree n f g (λ i l. h i (omega arith)), h n (omega arith))

-- a record with no column
pub in_record-none : (u : ℕ) (c : Option ℕ) → in_record u c ≡ none → c ≡ none
unfolding in_record
in_record-none u none e = refl
in_record-none u (some c) e = absurd (let z : ◌≡◌ {A = ℕ} 0 1 = cc in omega arith)

-- what holds of the cell of each record and column holds of each place
each_place : (s : Sizes) (P : ℕ → Type 0) → ((u c : ℕ) → u < s.records → c < width s → P (cell_index s u c)) → (j : ℕ) → j < cell_count s → P j
each_place s P each j h =
    subst P (place_is s j h) (each (j / width s) (j % width s) (place_row s j h) (place-column s j h))

-- totals, by which cells are in range
module _ (s : Sizes) (isIn : ℕ → Bool) where
  -- column c is the first of record u that offends, or none does
  pub total_column-at : (u c : ℕ) → c < width s → ((d : ℕ) → d < c → isIn (cell_index s u d) ≡ true) → isIn (cell_index s u c) ≡ false
      → total_column s isIn u ≡ some c
  unfolding total_column
  total_column-at u c col before out = first_some-at _ (width s) c col (λ d l. rw (before d l) refl) (rw out refl)

  pub total_column-none : (u : ℕ) → ((c : ℕ) → c < width s → isIn (cell_index s u c) ≡ true) → total_column s isIn u ≡ none
  unfolding total_column
  total_column-none u h = first_some-none _ (width s) (λ c col. rw (h c col) refl)

  total_column_each : (u c : ℕ) → total_column s isIn u ≡ none → c < width s → isIn (cell_index s u c) ≡ true
  unfolding total_column
  total_column_each u c e col = go (isIn (cell_index s u c)) (first_some_each _ (width s) c e col)
    where
      go : (b : Bool) → cond b none (some c) ≡ none → b ≡ true
      go true e = refl
      go false e = absurd (let z : ◌≡◌ {A = ℕ} 0 1 = cc in omega arith)

  -- record u is the lowest with such a column, or none is
  pub total-at : {x : Offence} (u : ℕ) → u < s.records → ((v : ℕ) → v < u → total_column s isIn v ≡ none) → in_record u (total_column s isIn u) ≡ some x
      → total_offence s isIn ≡ some x
  unfolding total_offence in_record
  total-at u row before e = first_some-at _ s.records u row (λ v l. ap (in_record v) (before v l)) e

  pub total-none : ((u : ℕ) → u < s.records → total_column s isIn u ≡ none) → total_offence s isIn ≡ none
  unfolding total_offence in_record
  total-none h = first_some-none _ s.records (λ u row. ap (in_record u) (h u row))

  pub total_each : total_offence s isIn ≡ none → (j : ℕ) → j < cell_count s → isIn j ≡ true
  unfolding total_offence
  total_each e = each_place s (λ k. isIn k ≡ true)
      (λ u c row col. total_column_each u c (in_record-none u (total_column s isIn u) (first_some_each _ s.records u e row)) col)

-- the same cells are in range by both
pub total_offence_agree : (s : Sizes) (isIn isIn' : ℕ → Bool)
    → ((u c : ℕ) → u < s.records → c < width s → isIn (cell_index s u c) ≡ isIn' (cell_index s u c)) → total_offence s isIn ≡ total_offence s isIn'
unfolding total_offence total_column
total_offence_agree s isIn isIn' h =
    first_some_agree s.records _ _
    (λ u row. ap (in_record u) (first_some_agree (width s) _ _ (λ c col. ap (λ (t : Bool). cond t none (some c)) (h u c row col))))

-- a missing cell is in range
missing_in_range : {c : Cell} → c ≡ Missing → cell_in_range c ≡ true
unfolding cell_in_range reading_in_range read_of
missing_in_range e = rw e

module _ (s : Sizes) (read : ℕ → List ℕ → Reading) (rs : List Rule) where
  -- record u is the lowest at which a local sum offends, or none does
  pub sum-at : (u c : ℕ) → u < s.records → ((v : ℕ) → v < u → sum_column s (read v) rs ≡ none) → sum_column s (read u) rs ≡ some c
      → sum_offence s read rs ≡ some (record { row = u; column = c })
  unfolding sum_offence in_record
  sum-at u c row before e = first_some-at _ s.records u row (λ v l. ap (in_record v) (before v l)) (ap (in_record u) e)

  pub sum-none : ((u : ℕ) → u < s.records → sum_column s (read u) rs ≡ none) → sum_offence s read rs ≡ none
  unfolding sum_offence in_record
  sum-none h = first_some-none _ s.records (λ u row. ap (in_record u) (h u row))

  module _ (cells : List Cell) where
    -- whether the cell of place j is in range behind the step
    abbrev pub in_range_behind : ℕ → Bool
    in_range_behind j = cell_in_range (get_or (step_cells s read rs cells) j Missing)

    -- a local sum comes first, wherever a total offends
    pub offence-sum : {x : Offence} → sum_offence s read rs ≡ some x → offence s read rs cells ≡ some x
    unfolding offence earlier
    offence-sum e = rw e

    pub offence-total : sum_offence s read rs ≡ none → offence s read rs cells ≡ total_offence s in_range_behind
    unfolding offence earlier
    offence-total e = rw e

    -- each cell behind a step that does not stop is in range, whatever its place; behind the last there is none
    pub in_range_each : offence s read rs cells ≡ none → length cells ≡ cell_count s → (j : ℕ) → in_range_behind j ≡ true
    unfolding offence
    in_range_each go_on l j =
        ⊎_elim
        (total_each s in_range_behind (earlier-none (sum_offence s read rs) _ go_on).1 j)
        (λ (h : cell_count s ≤ j). missing_in_range (get_or-eq_default (step_cells s read rs cells) Missing (omega (arith, step_cells-length s read rs cells))))
        (lt_or_le j (cell_count s))

-- readers by which each record has the same earliest offending rule
pub sum_offence_agree : (s : Sizes) (read read' : ℕ → List ℕ → Reading) (rs : List Rule)
    → ((u : ℕ) → u < s.records → sum_column s (read u) rs ≡ sum_column s (read' u) rs) → sum_offence s read rs ≡ sum_offence s read' rs
unfolding sum_offence
sum_offence_agree s read read' rs h = first_some_agree s.records _ _ (λ u row. ap (in_record u) (h u row))

-- a run that stops or goes on: what holds of each way
pub offended_cases : (P : Run → Type 0) (o : Option Offence) (cells : List Cell) (r : Run)
    → ((x : Offence) → o ≡ some x → P (record { cells = cells; trace = []; ending = offended x })) → (o ≡ none → P r) → P (unless_offended o cells r)
unfolding unless_offended
offended_cases P none cells r h k = k refl
offended_cases P (some x) cells r h k = h x refl
