-- Following a packed chain, hop by hop.
use Rattle.std.specs.Prelude.{None, Some}
use Prim.Native.Nat.{ℕ, ◌+◌, ◌-◌, ◌<◌}
use mathlib.Core.Path.{◌≡◌, refl, sym, ap, subst, ◌∙◌}
use mathlib.Core.Logic.{◌≢◌, ⊎_elim}
use mathlib.Core.Bool.{true, ◌&&◌}
use mathlib.Core.List.{List, [], ◌∷◌}
use native.Mathlib.Omega.{arith}
use borrow.Author.Tests.{ltb-true, leb-true, lt-ltb, le-ltb, le-leb}
use lib.Dec.{leb, ltb, T}
use lib.IntN.{ℤ, pos, nat_abs}
use lib.Signed.{non_neg}
use Rattle.laws.proofs.Bools.{and_both}
use Rattle.integers.specs.Range.{is_index}
use Rattle.integers.proofs.Complement.{index_is}
use Rattle.register.specs.Cells.{cell_at, cells_of}
use Rattle.register.specs.File.{width, cell_index}
use Rattle.register.specs.Shape.{Limits, Parts, Valid}
use Rattle.register.specs.declared.Sizes.{Sizes}
use Rattle.register.specs.declared.cells.Cell.{Cell}
use Rattle.register.proofs.Bounds.{cell_index-below}
use Rattle.register.proofs.Arrays.{cells_of-at}
use Rattle.chain.specs.Reading.{Reading}
use Rattle.chain.specs.Word.{is_reference, has_field, readable, column, field_at, field_cell, read_cell, hop, follow, value_at_record, refers_to}
use Rattle.chain.proofs.Fields.{or_cases}
use Rattle.chain.proofs.ReadOf.{read_refers}

-- the column of a field of the register
pub column-below : (s : Sizes) → Limits s → (f : ℕ) → has_field s f ≡ true → column s f < width s
unfolding column is_reference has_field width
column-below s l f h =
    ⊎_elim
    (λ (r : ltb f s.references ≡ true). let b = ltb-true f s.references r in rw (lt-ltb f 8 (omega (arith, l.references≤))) (omega arith))
    (λ (m : leb 8 f && ltb f (8 + s.measures) ≡ true).
    let both = and_both (leb 8 f) (ltb f (8 + s.measures)) m in
    let lo = leb-true 8 f both.0 in
    let hi = ltb-true f (8 + s.measures) both.1 in
    rw (le-ltb f 8 lo) (omega arith))
    (or_cases _ _ h)

-- a column tells its field
pub field-column : (s : Sizes) → Limits s → (f : ℕ) → has_field s f ≡ true → field_at s (column s f) ≡ f
unfolding field_at column is_reference has_field
field-column s l f h =
    ⊎_elim
    (λ (r : ltb f s.references ≡ true). let b = ltb-true f s.references r in simp (lt-ltb f 8 (omega (arith, l.references≤)), r))
    (λ (m : leb 8 f && ltb f (8 + s.measures) ≡ true).
    let lo = leb-true 8 f (and_both (leb 8 f) (ltb f (8 + s.measures)) m).0 in
    rw (le-ltb f 8 lo, le-ltb (s.references + (f - 8)) s.references (omega arith)) (omega arith))
    (or_cases _ _ h)

-- the cell at a place of the two arrays
pub cell_field : (s : Sizes) (values marks : List ℕ) → Parts s values marks → (u f j : ℕ) → u < s.records → has_field s f ≡ true → j ≡ cell_index s u (column s f)
    → cell_at values marks j ≡ field_cell s (cells_of values marks) u f
cell_field s values marks p u f j hu hf e =
    let b = cell_index-below s u (column s f) hu (column-below s p.limits f hf) in
    ap (cell_at values marks) e ∙ sym (cells_of-at values marks (cell_index s u (column s f)) (omega (arith, p.marks_length)))

-- where nothing is read, nothing is read behind it
pub follow_missing : (s : Sizes) (cells : List Cell) (w : List ℕ) → follow s cells None w ≡ None
unfolding follow hop
follow_missing s cells [] = refl
follow_missing s cells (f ∷ w) = follow_missing s cells w

-- a word that can be followed: its first field is one of the register's, and the rest can be followed
module _ (s : Sizes) {f : ℕ} where
  pub readable-field : {w r : List ℕ} → w ≡ f ∷ r → readable s w ≡ true → has_field s f ≡ true
  unfolding readable has_field
  readable-field {r = r} e k = go r (sym (ap (readable s) e) ∙ k)
    where
      go : (r : List ℕ) → readable s (f ∷ r) ≡ true → has_field s f ≡ true
      go [] h = h
      go (g ∷ r) h = rw (and_both (ltb f s.references) (readable s (g ∷ r)) h).0 refl

  pub readable-rest : {w r : List ℕ} → w ≡ f ∷ r → readable s w ≡ true → readable s r ≡ true
  unfolding readable
  readable-rest {r = r} e k = go r (sym (ap (readable s) e) ∙ k)
    where
      go : (r : List ℕ) → readable s (f ∷ r) ≡ true → readable s r ≡ true
      go [] h = refl
      go (g ∷ r) h = (and_both (ltb f s.references) (readable s (g ∷ r)) h).1

-- a record's own number
pub own_refers : (n u : ℕ) → u < n → refers_to n (Some (pos u)) ≡ true
unfolding refers_to is_index
own_refers n u h = simp (le-leb 0 u (omega arith), lt-ltb u n h)

-- the record that a reading names
module _ (n : ℕ) (z : ℤ) {x : Reading} (e : x ≡ Some z) (r : refers_to n x ≡ true) where
  named : (z ≡ pos (nat_abs z)) × (nat_abs z < n)
  unfolding refers_to
  named = index_is n z (sym (ap (refers_to n) e) ∙ r)

  pub named-index : T (non_neg z)
  named-index = subst (λ (z : ℤ). T (non_neg z)) (sym named.0) tt

  pub named-below : nat_abs z < n
  named-below = named.1

-- one hop: from the record that a value names
pub hop-value : (s : Sizes) (cells : List Cell) {x : Reading} {z : ℤ} {k : ℕ} (f : ℕ) → x ≡ Some z → k ≡ nat_abs z
    → read_cell s cells k f ≡ hop s cells x f
unfolding hop
hop-value s cells f e q = ap (λ (k : ℕ). read_cell s cells k f) q ∙ sym (ap (λ (x : Reading). hop s cells x f) e)

module _ {s : Sizes} {cells : List Cell} where
  -- from a record to a record, by a reference field
  pub hop_refers : Valid s cells → (x : Reading) (f : ℕ) → f < s.references → refers_to s.records x ≡ true → refers_to s.records (hop s cells x f) ≡ true
  unfolding hop refers_to read_cell column is_reference
  hop_refers v None f l h = refl
  hop_refers v (Some z) f l h =
      rw (lt-ltb f 8 (omega (arith, v.limits.references≤)))
      (read_refers s.records _ ∙ v.references (nat_abs z) f (index_is s.records z h).1 l)

-- reading x is underway: the rest of a word leads from it to the goal, and it names a record where a hop is left
pub record Underway (s : Sizes) (cells : List Cell) (goal : Reading) (rest : List ℕ) (x : Reading) : Type 0 where
  pub same : follow s cells x rest ≡ goal
  pub refers : rest ≢ [] → refers_to s.records x ≡ true

module _ {s : Sizes} {cells : List Cell} where
  pub underway-first : (w : List ℕ) (u : ℕ) → u < s.records → Underway s cells (value_at_record s cells w u) w (Some (pos u))
  unfolding value_at_record
  underway-first w u h = record { same = refl; refers = λ n. own_refers s.records u h }

  module _ {goal x : Reading} {w : List ℕ} (p : Underway s cells goal w x) where
    -- one hop on
    pub underway-next : {f : ℕ} {r : List ℕ} {y : Reading} → Valid s cells → w ≡ f ∷ r → readable s w ≡ true → y ≡ hop s cells x f → Underway s cells goal r y
    unfolding readable follow
    underway-next {f} {r} v e k q =
        record {
          same = ap (λ (y : Reading). follow s cells y r) q ∙ sym (ap (follow s cells x) e) ∙ p.same;
          refers = λ n. rw q (go r n (sym (ap (readable s) e) ∙ k));
        }
      where
        go : (r : List ℕ) → r ≢ [] → readable s (f ∷ r) ≡ true → refers_to s.records (hop s cells x f) ≡ true
        go [] n k = absurd (n refl)
        go (g ∷ r) n k =
            let reference = ltb-true f s.references (and_both (ltb f s.references) (readable s (g ∷ r)) k).0 in
            hop_refers v x f reference (p.refers (λ z. let no : ◌≡◌ {A = ℕ} 0 1 = cc in omega arith))

    pub underway-last : w ≡ [] → x ≡ goal
    unfolding follow
    underway-last e = sym (ap (follow s cells x) e) ∙ p.same

    pub underway_missing : x ≡ None → None ≡ goal
    underway_missing e = sym (ap (λ (x : Reading). follow s cells x w) e ∙ follow_missing s cells w) ∙ p.same
