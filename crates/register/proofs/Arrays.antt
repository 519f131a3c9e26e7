-- Lists of cells and the two arrays that hold them.
use Prim.Native.Nat.{ℕ, zero, suc, ◌+◌, ◌*◌, ◌≤◌, ◌<◌}
use mathlib.Core.Path.{◌≡◌, refl, sym, ap, ap₂, ◌∙◌}
use mathlib.Core.List.{List, [], ◌∷◌, ◌++◌}
use native.Mathlib.Omega.{arith}
use native.Mathlib.Nat.{zero-add, suc-add, add-suc}
use borrow.Author.Tests.{ne_eqb}
use lib.IntN.{ℤ, pos, ◌*ℤ◌}
use lib.ListN.{length, get_or, set, drop, length-append, length-drop, length-set, get_or-map}
use lib.Seq.{sets, length-sets, get_or-drop, drop_at, set-append_left}
use mir.Syntax.{w32}
use mir.Val.{SFits}
use Rattle.integers.specs.Bytes.{word_bytes, value_at, value_bytes}
use Rattle.integers.specs.Factor.{factor}
use Rattle.integers.proofs.Bytes.{value_bytes-length, value_read, value-behind, value-again}
use Rattle.integers.proofs.Product.{times_zero, times-one}
use Rattle.register.specs.Cells.{value_of, mark_of, cell_of, Canonical, cell_at, cells_of, values_of, marks_of}
use Rattle.register.specs.File.{cell_count, put_cell, put_marked, file_of}
use Rattle.register.specs.declared.Sizes.{Sizes}
use Rattle.register.specs.declared.cells.Cell.{Cell}
use Rattle.register.specs.declared.cells.Cell.TheVariants.{Missing, Measured, WorkedOut}

-- a cell from its value and mark, and back
pub cell_of-kept : (c : Cell) → cell_of (value_of c) (mark_of c) ≡ c
unfolding cell_of value_of mark_of
cell_of-kept Missing = refl
cell_of-kept (Measured z) = refl
cell_of-kept (WorkedOut z) = refl

-- any mark above 1 is that of a worked-out cell
pub cell_of-worked : (z : ℤ) (k : ℕ) → cell_of z (suc (suc k)) ≡ WorkedOut z
unfolding cell_of
cell_of-worked z k = simp (ne_eqb (suc (suc k)) 0 (λ e. omega arith), ne_eqb (suc (suc k)) 1 (λ e. omega arith))

pub mark_of-cell_of : (z : ℤ) (mark : ℕ) → mark ≤ 2 → mark_of (cell_of z mark) ≡ mark
unfolding cell_of mark_of
mark_of-cell_of z zero h = refl
mark_of-cell_of z (suc zero) h = refl
mark_of-cell_of z (suc (suc zero)) h = refl
mark_of-cell_of z (suc (suc (suc k))) h = absurd (omega arith)

pub value_of-cell_of : (z : ℤ) (mark : ℕ) → (mark ≡ 0 → z ≡ pos 0) → value_of (cell_of z mark) ≡ z
unfolding cell_of value_of
value_of-cell_of z zero h = sym (h refl)
value_of-cell_of z (suc zero) h = refl
value_of-cell_of z (suc (suc k)) h = ap value_of (cell_of-worked z k)

pub cell_of-fits : (z : ℤ) (mark : ℕ) → SFits w32 z → SFits w32 (value_of (cell_of z mark))
unfolding cell_of value_of
cell_of-fits z zero h = record { sfits = omega arith }
cell_of-fits z (suc zero) h = h
cell_of-fits z (suc (suc k)) h = rw (cell_of-worked z k) h

-- the value and the mark of a cell are such as a file may hold, and such are those of their cell
pub cell_canonical : (c : Cell) → Canonical (value_of c) (mark_of c)
unfolding value_of mark_of
cell_canonical Missing = record { mark≤ = omega arith; missing = λ e. refl }
cell_canonical (Measured z) = record { mark≤ = omega arith; missing = λ e. absurd (omega arith) }
cell_canonical (WorkedOut z) = record { mark≤ = omega arith; missing = λ e. absurd (omega arith) }

-- a value times the factor of its mark is the value of the cell, so that the writer's bytes are those of a cell
pub times_cell : (z : ℤ) (mark : ℕ) → z *ℤ pos (factor mark) ≡ value_of (cell_of z mark)
unfolding cell_of value_of factor
times_cell z zero = times_zero z
times_cell z (suc zero) = times-one z
times_cell z (suc (suc k)) = times-one z ∙ sym (ap value_of (cell_of-worked z k))

pub put_marked_cell : (s : Sizes) (j : ℕ) (z : ℤ) (mark : ℕ) (file : List ℕ) → mark ≤ 2 → put_marked s j z mark file ≡ put_cell s j (cell_of z mark) file
unfolding put_marked put_cell
put_marked_cell s j z mark file h = simp (times_cell z mark, mark_of-cell_of z mark h)

-- lengths
pub marks_of-length : (cs : List Cell) → length (marks_of cs) ≡ length cs
unfolding marks_of
marks_of-length [] = refl
marks_of-length (c ∷ cs) = ap suc (marks_of-length cs)

pub values_of-length : (cs : List Cell) → length (values_of cs) ≡ 4 * length cs
unfolding values_of
values_of-length [] = refl
values_of-length (c ∷ cs) = simp length-append (omega (arith, value_bytes-length (value_of c), values_of-length cs))

pub cells_of-length : (values marks : List ℕ) → length (cells_of values marks) ≡ length marks
unfolding cells_of
cells_of-length values [] = refl
cells_of-length values (k ∷ marks) = ap suc (cells_of-length (drop 4 values) marks)

next : (j : ℕ) → 4 + 4 * j ≡ 4 * suc j
next j = omega arith

-- cell j of the list is cell j of the arrays
pub cells_of-at : (values marks : List ℕ) (j : ℕ) → j < length marks → get_or (cells_of values marks) j Missing ≡ cell_at values marks j
unfolding cells_of cell_at
cells_of-at values [] j h = absurd (omega arith)
cells_of-at values (k ∷ marks) zero h = refl
cells_of-at values (k ∷ marks) (suc j) h =
    cells_of-at (drop 4 values) marks j (omega arith)
    ∙ ap (λ (z : ℤ). cell_of z (get_or marks j 0)) (value-behind 4 (4 * j) values ∙ ap (value_at values) (next j))

-- the arrays of a list of cells, read back
pub cells_of-arrays : (cs : List Cell) → ((j : ℕ) → SFits w32 (value_of (get_or cs j Missing))) → cells_of (values_of cs) (marks_of cs) ≡ cs
unfolding cells_of values_of marks_of
cells_of-arrays [] fits = refl
cells_of-arrays (c ∷ cs) fits =
    ap₂ ◌∷◌
    (ap (λ (z : ℤ). cell_of z (mark_of c)) (value_read (value_of c) (values_of cs) (fits 0)) ∙ cell_of-kept c)
    (ap (λ (l : List ℕ). cells_of l (marks_of cs)) (drop_at (value_bytes (value_of c)) (values_of cs) 4 (value_bytes-length (value_of c)))
    ∙ cells_of-arrays cs (λ j. fits (suc j)))

-- the cells of two arrays, written back
pub record Again (values marks : List ℕ) : Type 0 where
  pub values_again : values_of (cells_of values marks) ≡ values
  pub marks_again : marks_of (cells_of values marks) ≡ marks

pub arrays-again : (values marks : List ℕ) → ((i : ℕ) → get_or values i 0 < 256) → length values ≡ 4 * length marks
    → ((j : ℕ) → j < length marks → Canonical (value_at values (4 * j)) (get_or marks j 0)) → Again values marks
unfolding cells_of values_of marks_of
arrays-again values [] bytes l ok = record { values_again = sym (empty values l); marks_again = refl }
  where
    empty : (values : List ℕ) → length values ≡ 0 → values ≡ []
    empty [] l = refl
    empty (a ∷ values) l = absurd (omega arith)
arrays-again values (k ∷ marks) bytes l ok =
    let rest = arrays-again (drop 4 values) marks
    (λ i. rw get_or-drop (bytes (4 + i)))
    (simp length-drop (omega arith))
    (λ j h. rw (value-behind, next) (ok (suc j) (omega arith))) in
    let first = ok 0 (omega arith) in
    record {
      values_again =
          ap₂ (λ (z : ℤ) (l : List ℕ). value_bytes z ++ l) (value_of-cell_of (value_at values 0) k first.missing) rest.values_again
          ∙ value-again values bytes (omega arith);
      marks_again = ap₂ ◌∷◌ (mark_of-cell_of (value_at values 0) k first.mark≤) rest.marks_again;
    }

-- stores in a list that is put together from two
set-behind : (p l : List ℕ) (i a : ℕ) → set (p ++ l) (length p + i) a ≡ p ++ set l i a
set-behind [] l i a = ap (λ (n : ℕ). set l n a) (zero-add i)
set-behind (x ∷ p) l i a = ap (λ (n : ℕ). set (x ∷ (p ++ l)) n a) (suc-add (length p) i) ∙ ap (λ (r : List ℕ). x ∷ r) (set-behind p l i a)

sets_behind : (p l : List ℕ) (i : ℕ) (vs : List ℕ) → sets (p ++ l) (length p + i) vs ≡ p ++ sets l i vs
sets_behind p l i [] = refl
sets_behind p l i (a ∷ vs) =
    ap₂ (λ (r : List ℕ) (n : ℕ). sets r n vs) (set-behind p l i a) (sym (add-suc (length p) i))
    ∙ sets_behind p (set l i a) (suc i) vs

sets-front : (l q : List ℕ) (i : ℕ) (vs : List ℕ) → i + length vs ≤ length l → sets (l ++ q) i vs ≡ sets l i vs ++ q
sets-front l q i [] h = refl
sets-front l q i (a ∷ vs) h =
    ap (λ (r : List ℕ). sets r (suc i) vs) (set-append_left l q i a (omega arith))
    ∙ sets-front (set l i a) q (suc i) vs (rw length-set (omega arith))

-- another cell at place j
pub values_of-set : (cs : List Cell) (j : ℕ) (c : Cell) → j < length cs → sets (values_of cs) (4 * j) (value_bytes (value_of c)) ≡ values_of (set cs j c)
unfolding values_of value_bytes word_bytes
values_of-set [] j c h = absurd (omega arith)
values_of-set (d ∷ cs) zero c h = refl
values_of-set (d ∷ cs) (suc j) c h =
    ap (λ (n : ℕ). sets (value_bytes (value_of d) ++ values_of cs) n (value_bytes (value_of c))) (sym (next j))
    ∙ sets_behind (value_bytes (value_of d)) (values_of cs) (4 * j) (value_bytes (value_of c))
    ∙ ap (λ (r : List ℕ). value_bytes (value_of d) ++ r) (values_of-set cs j c (omega arith))

pub marks_of-set : (cs : List Cell) (j : ℕ) (c : Cell) → set (marks_of cs) j (mark_of c) ≡ marks_of (set cs j c)
unfolding marks_of
marks_of-set [] j c = refl
marks_of-set (d ∷ cs) zero c = refl
marks_of-set (d ∷ cs) (suc j) c = ap (λ (r : List ℕ). mark_of d ∷ r) (marks_of-set cs j c)

-- the stores of the cell writer, in a file that is put together from its three parts
file-stores : (h v m vs : List ℕ) (i k j a : ℕ) → length h ≡ 12 → i + length vs ≤ length v → k ≡ length v
    → set (sets (h ++ v ++ m) (12 + i) vs) (12 + k + j) a ≡ h ++ sets v i vs ++ set m j a
file-stores h v m vs i k j a lh lv lk =
    let at : 12 + i ≡ length h + i = omega arith in
    let behind : sets (h ++ v) (12 + i) vs ≡ h ++ sets v i vs = ap (λ (n : ℕ). sets (h ++ v) n vs) at ∙ sets_behind h v i vs in
    let values : sets (h ++ v ++ m) (12 + i) vs ≡ h ++ sets v i vs ++ m =
    sets-front (h ++ v) m (12 + i) vs (simp length-append (omega arith)) ∙ ap (λ (r : List ℕ). r ++ m) behind in
    let at' : 12 + k + j ≡ length (h ++ sets v i vs) + j = simp (length-append, length-sets) (omega arith) in
    ap₂ (λ (r : List ℕ) (n : ℕ). set r n a) values at' ∙ set-behind (h ++ sets v i vs) m j a

-- the cell writer writes a cell of the list
pub put_cell-file : (s : Sizes) (cs : List Cell) (j : ℕ) (c : Cell) → length cs ≡ cell_count s → j < cell_count s → put_cell s j c (file_of s cs) ≡ file_of s (set cs j c)
unfolding put_cell file_of word_bytes
put_cell-file s cs j c l h =
    let header : List ℕ = word_bytes s.records ++ word_bytes s.references ++ word_bytes s.measures in
    file-stores header (values_of cs) (marks_of cs) (value_bytes (value_of c)) (4 * j) (4 * cell_count s) j (mark_of c) refl
    (omega (arith, value_bytes-length (value_of c), values_of-length cs))
    (omega (arith, values_of-length cs))
    ∙ ap₂ (λ (v m : List ℕ). header ++ v ++ m) (values_of-set cs j c (omega arith)) (marks_of-set cs j c)

-- the arrays of a list of cells hold its cells
pub values_of-at : (cs : List Cell) (j : ℕ) → j < length cs → SFits w32 (value_of (get_or cs j Missing)) → value_at (values_of cs) (4 * j) ≡ value_of (get_or cs j Missing)
unfolding values_of
values_of-at [] j h fits = absurd (omega arith)
values_of-at (c ∷ cs) zero h fits = value_read (value_of c) (values_of cs) fits
values_of-at (c ∷ cs) (suc j) h fits =
    ap (value_at (value_bytes (value_of c) ++ values_of cs)) (sym (next j))
    ∙ sym (value-behind 4 (4 * j) (value_bytes (value_of c) ++ values_of cs))
    ∙ ap (λ (l : List ℕ). value_at l (4 * j)) (drop_at (value_bytes (value_of c)) (values_of cs) 4 (value_bytes-length (value_of c)))
    ∙ values_of-at cs j (omega arith) fits

pub marks_of-at : (cs : List Cell) (j : ℕ) → get_or (marks_of cs) j 0 ≡ mark_of (get_or cs j Missing)
unfolding marks_of mark_of
marks_of-at cs j = get_or-map mark_of cs j Missing
