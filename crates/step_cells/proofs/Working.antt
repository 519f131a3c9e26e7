-- The working cells as places are stored to: which cells the buffers then hold, and how large their values are.
use Prim.Native.Nat.{ℕ, ◌+◌, ◌*◌, ◌≤◌, ◌<◌}
use mathlib.Core.Path.{◌≡◌, refl, sym, ap, ap₂, ◌∙◌}
use mathlib.Core.Logic.{◌≢◌}
use mathlib.Core.List.{List}
use native.Mathlib.Omega.{arith}
use native.Mathlib.Decide.{ℕ_discrete}
use lib.IntN.{ℤ, pos}
use lib.ListN.{length, get_or, take, set, length-set}
use lib.Seq.{get_or-set_same, get_or-set_other, set-get_or, take-set-le}
use lib.Signed.{mag}
use mir.Syntax.{w32}
use mir.Val.{SFits}
use Rattle.integers.specs.Bytes.{value_at}
use Rattle.register.specs.Cells.{value_of, mark_of, cell_of, Canonical}
use Rattle.register.specs.declared.cells.Cell.{Cell}
use Rattle.register.specs.declared.cells.Cell.TheVariants.{Missing, WorkedOut}
use Rattle.register.proofs.Arrays.{cell_of-kept, cell_canonical, value_of-cell_of, mark_of-cell_of}
use Rattle.scratch.specs.Places.{stored_at, Kept}
use Rattle.scratch.proofs.Placed.{stored_at-kept}
use Rattle.step_cells.specs.Work.{Room, HoldsCells, CanonicalCells, Same, Put, Small}

-- nothing is stored
pub same_refl : {base : ℕ} {values : List ℤ} {marks : List ℕ} → Same base values marks values marks
same_refl = record { values_length = refl; marks_length = refl; values_same = refl; marks_same = refl }

pub same_then : {base : ℕ} {values values' values'' : List ℤ} {marks marks' marks'' : List ℕ}
    → Same base values marks values' marks' → Same base values' marks' values'' marks'' → Same base values marks values'' marks''
same_then a b = record {
  values_length = b.values_length ∙ a.values_length;
  marks_length = b.marks_length ∙ a.marks_length;
  values_same = b.values_same ∙ a.values_same;
  marks_same = b.marks_same ∙ a.marks_same;
}

pub room-same : {base k : ℕ} {values values' : List ℤ} {marks marks' : List ℕ} → Same base values marks values' marks'
    → Room base k values marks → Room base k values' marks'
room-same a r = record {
  base≤ = r.base≤;
  values_room = rw a.values_length r.values_room;
  marks_room = rw a.marks_length r.marks_room;
}

-- the cell writer stores a cell
abbrev pub put-stored : {j : ℕ} {c : Cell} {values values' : List ℤ} {marks marks' : List ℕ}
    → values' ≡ set values j (value_of c) → marks' ≡ set marks j (mark_of c) → Put j c values marks values' marks'
put-stored {c} v m = record {
  value = value_of c;
  mark = mark_of c;
  values_are = v;
  marks_are = m;
  cell_is = cell_of-kept c;
  proper = λ h. cell_canonical c;
}

-- and so is a value that is worked out
pub put-worked : {j : ℕ} (z : ℤ) {values values' : List ℤ} {marks marks' : List ℕ}
    → values' ≡ set values j z → marks' ≡ set marks j 2 → Put j (WorkedOut z) values marks values' marks'
unfolding value_of mark_of
put-worked z v m = put-stored v m

-- a place keeps its cell
pub put-kept : {j : ℕ} {c : Cell} {values : List ℤ} {marks : List ℕ} → stored_at values marks j ≡ c → Put j c values marks values marks
unfolding stored_at
put-kept {j} {values} {marks} e = record {
  value = get_or values j (pos 0);
  mark = get_or marks j 0;
  values_are = sym (set-get_or values j (pos 0));
  marks_are = sym (set-get_or marks j 0);
  cell_is = e;
  proper = λ h. h;
}

-- a value and a mark are stored at place j
pub record Changed (j : ℕ) (z : ℤ) (mark : ℕ) (values : List ℤ) (marks : List ℕ) (values' : List ℤ) (marks' : List ℕ) : Type 0 where
  pub values_are : values' ≡ set values j z
  pub marks_are : marks' ≡ set marks j mark

module _ (base j : ℕ) {z : ℤ} {mark : ℕ} {values values' : List ℤ} {marks marks' : List ℕ} (p : Changed (base + j) z mark values marks values' marks') where
  pub same_set : Same base values marks values' marks'
  same_set = record {
    values_length = ap length p.values_are ∙ length-set values (base + j) z;
    marks_length = ap length p.marks_are ∙ length-set marks (base + j) mark;
    values_same = ap (take base) p.values_are ∙ take-set-le base values (base + j) z (omega arith);
    marks_same = ap (take base) p.marks_are ∙ take-set-le base marks (base + j) mark (omega arith);
  }

  -- the place itself, and any other
  pub value_there : base + j < length values → get_or values' (base + j) (pos 0) ≡ z
  value_there h = ap (λ (l : List ℤ). get_or l (base + j) (pos 0)) p.values_are ∙ get_or-set_same values (base + j) z (pos 0) h

  pub mark_there : base + j < length marks → get_or marks' (base + j) 0 ≡ mark
  mark_there h = ap (λ (l : List ℕ). get_or l (base + j) 0) p.marks_are ∙ get_or-set_same marks (base + j) mark 0 h

  pub kept_there : (i : ℕ) → i ≢ base + j → Kept i values marks values' marks'
  kept_there i h = record {
    value-is = ap (λ (l : List ℤ). get_or l i (pos 0)) p.values_are ∙ get_or-set_other values (base + j) i z (pos 0) h;
    mark_is = ap (λ (l : List ℕ). get_or l i 0) p.marks_are ∙ get_or-set_other marks (base + j) i mark 0 h;
  }

-- a value and a mark that are those of a cell
abbrev Holds : Cell → ℤ → ℕ → Type 0
Holds c z mark = (z ≡ value_of c) × (mark ≡ mark_of c)

-- one cell is stored
module _ (base j : ℕ) {c : Cell} {values values' : List ℤ} {marks marks' : List ℕ} (p : Put (base + j) c values marks values' marks') where
  changed : Changed (base + j) p.value p.mark values marks values' marks'
  changed = record { values_are = p.values_are; marks_are = p.marks_are }

  pub same-put : Same base values marks values' marks'
  same-put = same_set base j changed

  module _ {k : ℕ} (r : Room base k values marks) (h : j < k) where
    value-put : get_or values' (base + j) (pos 0) ≡ p.value
    value-put = value_there base j changed (omega (arith, r.values_room))

    mark_put : get_or marks' (base + j) 0 ≡ p.mark
    mark_put = mark_there base j changed (omega (arith, r.marks_room))

    put-there : stored_at values' marks' (base + j) ≡ c
    unfolding stored_at
    put-there = ap₂ cell_of value-put mark_put ∙ p.cell_is

  -- the cells with another one at j
  module _ {k : ℕ} {d : List Cell} (r : Room base k values marks) (h : j < k) (l : length d ≡ k) (e : HoldsCells base d values marks) where
    stored : Canonical p.value p.mark
    stored = p.proper (rw (e.value-is j (omega arith), e.mark_is j (omega arith)) (cell_canonical _))

    holds : (i : ℕ) → i < length d → Dec (i ≡ j) → Holds (get_or (set d j c) i Missing) (get_or values' (base + i) (pos 0)) (get_or marks' (base + i) 0)
    holds i i< (yes q) =
        rw (q, get_or-set_same d j c Missing (omega arith), value-put r h, mark_put r h, ← p.cell_is)
        (sym (value_of-cell_of _ _ stored.missing), sym (mark_of-cell_of _ _ stored.mark≤))
    holds i i< (no q) =
        let o = kept_there base j changed (base + i) (λ e. q (omega arith)) in
        rw (get_or-set_other d j i c Missing q) (o.value-is ∙ e.value-is i i<, o.mark_is ∙ e.mark_is i i<)

    pub holds-put : HoldsCells base (set d j c) values' marks'
    holds-put = record {
      value-is = λ i i<. (holds i (rw (length-set d j c) at i<) (ℕ_discrete i j)).0;
      mark_is = λ i i<. (holds i (rw (length-set d j c) at i<) (ℕ_discrete i j)).1;
    }

  -- the values, where the one that is stored is below b'
  pub small_put : {b b' k : ℕ} → Room base k values marks → j < k → mag (value_of c) < b' → b ≤ b' → Small b base k values marks → Small b' base k values' marks'
  small_put {b} {b'} {k} r h v l e = record { below = λ i i<. at i (ℕ_discrete i j) i< }
    where
      at : (i : ℕ) → Dec (i ≡ j) → i < k → mag (value_of (stored_at values' marks' (base + i))) < b'
      at i (yes q) i< = rw (q, put-there r h) v
      at i (no q) i< = rw (stored_at-kept (kept_there base j changed (base + i) (λ e. q (omega arith)))) (omega (arith, e.below i i<))

-- a place that holds a cell
pub held_at : {base : ℕ} {d : List Cell} {values : List ℤ} {marks : List ℕ} → HoldsCells base d values marks → (j : ℕ) → j < length d
    → stored_at values marks (base + j) ≡ get_or d j Missing
unfolding stored_at
held_at {d = d} h j l = ap₂ cell_of (h.value-is j l) (h.mark_is j l) ∙ cell_of-kept (get_or d j Missing)

-- places that hold cells hold values and marks of a file
pub proper-held : {base k : ℕ} {d : List Cell} {values : List ℤ} {marks : List ℕ} → length d ≡ k → HoldsCells base d values marks → CanonicalCells base k values marks
proper-held l h = record { each = λ j j<. rw (h.value-is j (omega arith), h.mark_is j (omega arith)) (cell_canonical _) }

-- cells of 32 bits
pub small-held : {base k : ℕ} {d : List Cell} {values : List ℤ} {marks : List ℕ} → length d ≡ k
    → ((j : ℕ) → SFits w32 (value_of (get_or d j Missing))) → HoldsCells base d values marks → Small 2147483648 base k values marks
small-held l fits h = record { below = λ j j<. rw (held_at h j (omega arith)) (fits j).sfits }

-- the value and the mark of cell i of the two arrays
abbrev pub Copied : List ℕ → List ℕ → ℕ → ℤ → ℕ → Type 0
Copied cells filled i z mark = (z ≡ value_at cells (4 * i)) × (mark ≡ get_or filled i 0)
