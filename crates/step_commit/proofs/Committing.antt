-- The working cells as they are written to the file, column by column, up to one that is out of range.
use Rattle.std.specs.Prelude.{None, Some, Ok, Err}
use Prim.Native.Nat.{ℕ, zero, suc, ◌+◌, ◌/◌, ◌%◌, ◌≤◌, ◌<◌}
use mathlib.Core.Path.{◌≡◌, refl, sym, ap, subst, ◌∙◌}
use mathlib.Core.Logic.{◌⊎◌, inl, inr, ⊎_elim}
use mathlib.Core.Bool.{Bool, true, false, cond}
use mathlib.Core.List.{List}
use mathlib.Core.Option.{some}
use native.Mathlib.Omega.{arith}
use native.Mathlib.Numerals.{add-one}
use native.Mathlib.Decide.{ℕ_discrete}
use borrow.Author.Count.{below_none, below_more}
use lib.IntN.{ℤ, pos}
use lib.ListN.{length, get_or, set, length-set}
use lib.Seq.{get_or-set_same, get_or-set_other, ext_get_or}
use Rattle.std.specs.Option.{is_some}
use Rattle.integers.specs.Range.{in_range, sum_of}
use Rattle.std.specs.Prelude.{Option, ℤ}
use Rattle.laws.proofs.Bools.{true_false}
use Rattle.register.specs.File.{width, cell_count, cell_index, file_of, cells_of_file, put_cell}
use Rattle.register.specs.Cells.{cell_of, Canonical}
use Rattle.register.specs.Shape.{Register}
use Rattle.register.specs.declared.Sizes.{Sizes}
use Rattle.register.specs.declared.cells.Cell.{Cell}
use Rattle.register.specs.declared.cells.Cell.TheVariants.{Missing}
use Rattle.register.proofs.Arrays.{put_cell-file}
use Rattle.register.proofs.Bounds.{cell_index-below, place_row, place-column, place_is}
use Rattle.laws.proofs.Cases.{true_or_false, lt_or_le}
use Rattle.step_cells.specs.Work.{HoldsCells, CanonicalCells}
use Rattle.step_cells.specs.Stop.{Stop}
use Rattle.step_cells.proofs.Working.{held_at}
use Rattle.chain.specs.Word.{read_of}
use Rattle.chain.proofs.ReadOf.{read-filled}
use Rattle.machine.specs.Value.{reading_in_range, cell_in_range}
use Rattle.machine.specs.Step.{Offence, total_offence}
use Rattle.machine.proofs.Keeping.{fits-in_range}
use Rattle.machine.proofs.Stops.{total_each, total_offence_agree}
use Rattle.scratch.specs.Places.{stored_at}
use Rattle.step_commit.specs.Committed.{OneCommitted, working, put_column, is_written, put_columns, OneColumn, ColumnCommitted, AllCommitted, Committed}
use Rattle.step_commit.specs.Committed.{value_in_range, offence_of}

-- what the answer for a total tells
abbrev Told : ℤ → Option ℤ → Type 0
Told z (Some v) = (in_range z ≡ true) × (v ≡ z)
Told z None = in_range z ≡ false

pub total-told : (z : ℤ) → Told z (sum_of z)
unfolding sum_of
total-told z = go (in_range z) refl
  where
    go : (t : Bool) → in_range z ≡ t → Told z (cond t (Some z) None)
    go true h = (h, refl)
    go false h = h

-- and whether there is a value
pub total_kept : (z : ℤ) (r : Option ℤ) → r ≡ sum_of z → is_some r ≡ true → in_range z ≡ true
total_kept z None e h = cc
total_kept z (Some v) e h = (rw (sym e) at (total-told z)).0

pub total_left : (z : ℤ) (r : Option ℤ) → r ≡ sum_of z → is_some r ≡ false → in_range z ≡ false
total_left z None e h = rw (sym e) at (total-told z)
total_left z (Some v) e h = cc

-- a working cell is in range where its value is: a missing one has the value 0
pub cell_in_range_lem : (z : ℤ) (mark : ℕ) → Canonical z mark → cell_in_range (cell_of z mark) ≡ in_range z
unfolding cell_in_range reading_in_range read_of cell_of in_range
cell_in_range_lem z zero h = rw (h.missing refl) refl
cell_in_range_lem z (suc k) h = rw (read-filled z (suc k) (λ e. omega arith)) refl

-- one of the first n, or the one behind them
below-or-last : (i n : ℕ) → i < suc n → (i < n) ⊎ (i ≡ n)
below-or-last i n h = ⊎_elim (λ (l : i < n). inl l) (λ (l : n ≤ i). inr (omega arith)) (lt_or_le i n)

-- the records below n are in range in column c, and written
pub record ColumnTo (s : Sizes) (base c : ℕ) (values : List ℤ) (marks : List ℕ) (file : List ℕ) (n : ℕ) (file' : List ℕ) : Type 0 where
  pub in_range : (u : ℕ) → u < n → cell_in_range (working base values marks (cell_index s u c)) ≡ true
  pub length_is : length file' ≡ length file
  pub file-is : file' ≡ put_column s (working base values marks) c n file

module _ {s : Sizes} {base c : ℕ} {values : List ℤ} {marks file : List ℕ} where
  pub column-none : ColumnTo s base c values marks file 0 file
  unfolding put_column
  column-none = record { in_range = below_none _; length_is = refl; file-is = refl }

  pub column-next : {n j : ℕ} {file' file'' : List ℕ} → ColumnTo s base c values marks file n file' → j ≡ cell_index s n c → length file'' ≡ length file'
      → {done : Unit} → OneCommitted s base j values marks file' file'' (Some done) → ColumnTo s base c values marks file (n + 1) file''
  unfolding put_column
  column-next {n} p e l h = record {
    in_range = below_more _ n p.in_range (rw e at h.0);
    length_is = l ∙ p.length_is;
    file-is = rw (add-one n, ← e, ← p.file-is) h.1;
  }

  pub column_all : {n : ℕ} {file' : List ℕ} → ColumnTo s base c values marks file n file' → n ≡ s.records → OneColumn s base c values marks file file'
  column_all p e = record {
    in_range = λ u l. p.in_range u (omega (arith, e));
    file-is = p.file-is ∙ ap (λ (n : ℕ). put_column s (working base values marks) c n file) e;
  }

-- the columns below k whose fields are written are in range, and written
pub record ColumnsTo (s : Sizes) (base : ℕ) (fields : List Bool) (values : List ℤ) (marks : List ℕ) (file : List ℕ) (k : ℕ) (file' : List ℕ) : Type 0 where
  pub in_range : (u c : ℕ) → u < s.records → c < k → is_written s fields c ≡ true → cell_in_range (working base values marks (cell_index s u c)) ≡ true
  pub length_is : length file' ≡ length file
  pub file-is : file' ≡ put_columns s (working base values marks) fields k file

module _ {s : Sizes} {base : ℕ} {fields : List Bool} {values : List ℤ} {marks file : List ℕ} where
  pub columns_none : ColumnsTo s base fields values marks file 0 file
  unfolding put_columns
  columns_none = record { in_range = λ u c l b. absurd (omega (arith, b)); length_is = refl; file-is = refl }

  module _ {k : ℕ} {file' : List ℕ} (p : ColumnsTo s base fields values marks file k file') where
    -- what is to be shown of column c, at record u
    abbrev InRange-at : ℕ → ℕ → Type 0
    InRange-at u c = is_written s fields c ≡ true → cell_in_range (working base values marks (cell_index s u c)) ≡ true

    -- one more column, whose field is not written
    pub columns_skip : is_written s fields k ≡ false → ColumnsTo s base fields values marks file (k + 1) file'
    unfolding put_columns
    columns_skip e = record {
      in_range = λ u c l. below_more (InRange-at u) k (λ i b. p.in_range u i l b) (λ w. true_false w e) c;
      length_is = p.length_is;
      file-is = rw (add-one k, e) p.file-is;
    }

    -- one more column, whose field is written
    pub columns_next : {file'' : List ℕ} → is_written s fields k ≡ true → length file'' ≡ length file' → OneColumn s base k values marks file' file''
        → ColumnsTo s base fields values marks file (k + 1) file''
    unfolding put_columns
    columns_next e n h = record {
      in_range = λ u c l. below_more (InRange-at u) k (λ i b. p.in_range u i l b) (λ w. h.in_range u l) c;
      length_is = n ∙ p.length_is;
      file-is = rw (add-one k, e, ← p.file-is) h.file-is;
    }

    pub columns_all : k ≡ width s → AllCommitted s base fields values marks file file'
    columns_all e = record {
      in_range = λ u c l b. p.in_range u c l (omega (arith, e));
      file-is = p.file-is ∙ ap (λ (n : ℕ). put_columns s (working base values marks) fields n file) e;
    }

module _ (s : Sizes) (d : List Cell) where
  -- a file of cells that agree with d at the records and columns of which P holds
  record Agrees (P : ℕ → ℕ → Type 0) (file : List ℕ) : Type 0 where
    pub cells : List Cell
    pub count : length cells ≡ cell_count s
    pub agree : (u c : ℕ) → u < s.records → c < width s → P u c → get_or cells (cell_index s u c) Missing ≡ get_or d (cell_index s u c) Missing
    pub file-is : file ≡ file_of s cells

  -- the same with other words for the places
  agrees_as : {P Q : ℕ → ℕ → Type 0} {file : List ℕ} → ((u c : ℕ) → u < s.records → c < width s → Q u c → P u c) → Agrees P file → Agrees Q file
  agrees_as h a = record { cells = a.cells; count = a.count; agree = λ u c l b q. a.agree u c l b (h u c l b q); file-is = a.file-is }

  -- cell j of d is written
  agrees_cell : {P : ℕ → ℕ → Type 0} {file : List ℕ} (j : ℕ) {x : Cell} → j < cell_count s → x ≡ get_or d j Missing → Agrees P file
      → Agrees (λ u c. P u c ⊎ (cell_index s u c ≡ j)) (put_cell s j x file)
  agrees_cell {P} j {x} h e a = record {
    cells = set a.cells j x;
    count = length-set a.cells j x ∙ a.count;
    agree = λ u c l b q. go u c l b q (ℕ_discrete (cell_index s u c) j);
    file-is = ap (put_cell s j x) a.file-is ∙ put_cell-file s a.cells j x a.count h;
  }
    where
      go : (u c : ℕ) → u < s.records → c < width s → P u c ⊎ (cell_index s u c ≡ j) → Dec (cell_index s u c ≡ j)
          → get_or (set a.cells j x) (cell_index s u c) Missing ≡ get_or d (cell_index s u c) Missing
      go u c l b q (yes i) = rw i (get_or-set_same a.cells j x Missing (omega (arith, a.count)) ∙ e)
      go u c l b q (no i) = get_or-set_other a.cells j (cell_index s u c) x Missing i ∙ a.agree u c l b (⊎_elim (λ p. p) (λ k. absurd (i k)) q)

  module _ (w : ℕ → Cell) (are : (j : ℕ) → j < cell_count s → w j ≡ get_or d j Missing) where
    -- column c at the records below n
    agrees_column : {P : ℕ → ℕ → Type 0} {file : List ℕ} (c : ℕ) → c < width s → (n : ℕ) → n ≤ s.records → Agrees P file
        → Agrees (λ u k. P u k ⊎ ((k ≡ c) × (u < n))) (put_column s w c n file)
    unfolding put_column
    agrees_column c b zero l a = agrees_as (λ u k r q. ⊎_elim (λ p. p) (λ (i : (k ≡ c) × (u < 0)). absurd (omega (arith, i.1)))) a
    agrees_column {P} c b (suc n) l a =
        let below = cell_index-below s n c (omega arith) b in
        agrees_as (λ u k r q. ⊎_elim (λ p. inl (inl p)) (λ (i : (k ≡ c) × (u < suc n)).
        ⊎_elim (λ h. inl (inr (i.0, h))) (λ e. inr (rw (e, i.0) refl)) (below-or-last u n i.1)))
        (agrees_cell (cell_index s n c) below (are _ below) (agrees_column c b n (omega arith) a))

    -- the columns below k whose fields are written, where the others agree from the start
    agrees_columns : {file : List ℕ} (fields : List Bool) (k : ℕ) → k ≤ width s → Agrees (λ u c. is_written s fields c ≡ false) file
        → Agrees (λ u c. (is_written s fields c ≡ false) ⊎ (c < k)) (put_columns s w fields k file)
    unfolding put_columns
    agrees_columns fields zero l a = agrees_as (λ u c r b. ⊎_elim (λ p. p) (λ (i : c < 0). absurd (omega (arith, i)))) a
    agrees_columns {file} fields (suc k) l a = go (agrees_columns fields k (omega arith) a) (is_written s fields k) refl
      where
        go : Agrees (λ u c. (is_written s fields c ≡ false) ⊎ (c < k)) (put_columns s w fields k file) → (t : Bool) → is_written s fields k ≡ t
            → Agrees (λ u c. (is_written s fields c ≡ false) ⊎ (c < suc k))
            (cond t (put_column s w k s.records (put_columns s w fields k file)) (put_columns s w fields k file))
        go before true e =
            agrees_as (λ u c r b. ⊎_elim (λ p. inl (inl p)) (λ (i : c < suc k). ⊎_elim (λ h. inl (inr h)) (λ q. inr (q, r)) (below-or-last c k i)))
            (agrees_column k (omega arith) s.records (omega arith) before)
        go before false e =
            agrees_as (λ u c r b. ⊎_elim (λ p. inl p) (λ (i : c < suc k).
            ⊎_elim (λ h. inr h) (λ q. inl (ap (is_written s fields) q ∙ e)) (below-or-last c k i))) before

  -- then the file is that of d
  agrees_all : {file : List ℕ} → length d ≡ cell_count s → Agrees (λ u c. c < width s) file → file ≡ file_of s d
  agrees_all l a =
      a.file-is
      ∙ ap (file_of s)
      (ext_get_or Missing a.cells d (a.count ∙ sym l)
      (λ j b.
      let h : j < cell_count s = omega (arith, a.count) in
      subst (λ (i : ℕ). get_or a.cells i Missing ≡ get_or d i Missing) (place_is s j h)
      (a.agree (j / width s) (j % width s) (place_row s j h) (place-column s j h) (place-column s j h))))

-- the working cells d in the columns that are written, and in the others the cells that d has there too
columns_file : (s : Sizes) (fields : List Bool) (base : ℕ) (values : List ℤ) (marks file : List ℕ) (cells d : List Cell)
    → length cells ≡ cell_count s → length d ≡ cell_count s → file ≡ file_of s cells → HoldsCells base d values marks
    → ((u c : ℕ) → u < s.records → c < width s → is_written s fields c ≡ false → get_or cells (cell_index s u c) Missing ≡ get_or d (cell_index s u c) Missing)
    → put_columns s (working base values marks) fields (width s) file ≡ file_of s d
columns_file s fields base values marks file cells d k l e h same =
    agrees_all s d l
    (agrees_as s d (λ u c r b i. inr i)
    (agrees_columns s d (working base values marks) (λ j b. held_at h j (omega (arith, l))) fields (width s) (omega arith)
    (record { cells = cells; count = k; agree = same; file-is = e })))

-- the working cells are in range where their values are
values_in_range : (s : Sizes) {base : ℕ} {values : List ℤ} {marks : List ℕ} → CanonicalCells base (cell_count s) values marks
    → total_offence s (value_in_range base values) ≡ total_offence s (λ j. cell_in_range (working base values marks j))
unfolding stored_at
values_in_range s {base} {values} {marks} k =
    total_offence_agree s _ _
    (λ u c row col. sym (cell_in_range_lem (get_or values (base + cell_index s u c) (pos 0)) _ (k.each (cell_index s u c) (cell_index-below s u c row col))))

-- a column is not in range: the first cell of all that is not, as it is answered
pub columns_stop : (s : Sizes) (fields : List Bool) (file before file' : List ℕ) {base c : ℕ} {values : List ℤ} {marks : List ℕ}
    → CanonicalCells base (cell_count s) values marks → c < width s → ColumnCommitted s base c values marks before file' None
    → (r : Stop) → offence_of r ≡ total_offence s (value_in_range base values) → Committed s base fields values marks file file' r
columns_stop s fields file before file' k col t (Ok done) e =
    true_false (total_each s _ (sym (e ∙ values_in_range s k)) _ (cell_index-below s t.row _ t.row< col)) t.out_of_range
columns_stop s fields file before file' k col t (Err o) e = sym (e ∙ values_in_range s k)

-- the working cells hold the cells d of a register
module _ (s : Sizes) (d : List Cell) (count : length d ≡ cell_count s) (base : ℕ) {values : List ℤ} {marks : List ℕ} (held : HoldsCells base d values marks) where
  working-is : (u c : ℕ) → u < s.records → c < width s → working base values marks (cell_index s u c) ≡ get_or d (cell_index s u c) Missing
  working-is u c row col = held_at held (cell_index s u c) (omega (arith, cell_index-below s u c row col))

  -- they are not committed: the first of d that is out of range
  pub stop_first : {x : Offence} → total_offence s (λ j. cell_in_range (working base values marks j)) ≡ some x
      → total_offence s (λ j. cell_in_range (get_or d j Missing)) ≡ some x
  stop_first e = total_offence_agree s _ _ (λ u c row col. ap cell_in_range (sym (working-is u c row col))) ∙ e

  -- they are committed in the columns that are written, and in the others d has the cells that the file had
  module _ {fields : List Bool} {file file' : List ℕ} (register : Register s file)
      (untouched : (u c : ℕ) → u < s.records → c < width s → is_written s fields c ≡ false
      → get_or d (cell_index s u c) Missing ≡ get_or (cells_of_file s file) (cell_index s u c) Missing)
      (t : AllCommitted s base fields values marks file file') where
    -- then all of d are in range
    pub committed-in_range : (u c : ℕ) → u < s.records → c < width s → cell_in_range (get_or d (cell_index s u c) Missing) ≡ true
    committed-in_range u c row col =
        ⊎_elim
        (λ (w : is_written s fields c ≡ true). ap cell_in_range (sym (working-is u c row col)) ∙ t.in_range u c row col w)
        (λ (w : is_written s fields c ≡ false). ap cell_in_range (untouched u c row col w) ∙ fits-in_range _ (register.valid.values (cell_index s u c)))
        (true_or_false (is_written s fields c))

    -- and the file is that of d
    pub committed-file : file' ≡ file_of s d
    committed-file =
        t.file-is
        ∙ columns_file s fields base values marks file (cells_of_file s file) d register.valid.count count register.file-is held
        (λ u c row col w. sym (untouched u c row col w))
