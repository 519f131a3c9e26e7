-- The ways a single reading can end.
use Prim.Native.Nat.{ℕ, zero, suc, ◌+◌, ◌*◌, ◌≤◌, ◌<◌}
use mathlib.Core.Path.{◌≡◌, refl, ap, ap₂, ◌∙◌, subst}
use mathlib.Core.List.{List, [], ◌∷◌}
use native.Mathlib.Omega.{arith}
use borrow.Author.Tests.{lt-ltb, le-ltb}
use lib.ListN.{length}
use Rattle.laws.specs.Outcome.{Outcome, done, refused, unless, after}
use Rattle.register.specs.Cells.{cells_of}
use Rattle.register.specs.File.{cell_count, values_part, marks_part, cells_of_file}
use Rattle.register.specs.Load.{load}
use Rattle.register.specs.Shape.{Limits, Parts, Valid}
use Rattle.register.specs.View.{cells_in}
use Rattle.register.specs.declared.cells.Cells.{Cells}
use Rattle.register.specs.declared.Sizes.{Sizes}
use Rattle.register.proofs.Bounds.{limits}
use Rattle.register.proofs.Roundtrip.{Bytes, loads, file-is, cells-valid}
use Rattle.chain.specs.Word.{Passes, value_at_record}
use Rattle.chain_text.specs.Text.{Form, formed, unformed, form, letters_refusal, word_of}
use Rattle.op_read.specs.Reading.{word_of_form, at_record, reading_loaded, reading}
use Rattle.chain_text.proofs.Passing.{letters_pass}

pub not_done : {A B : Type 0} {o : Outcome A} {a : A} {k l : ℕ} → o ≡ refused k l → o ≡ done a → B
not_done p q = absurd (let z : ◌≡◌ {A = ℕ} 0 1 = cc in omega arith)

pub same-done : {A : Type 0} {o : Outcome A} {a b : A} → o ≡ done a → o ≡ done b → a ≡ b
same-done p q = cc

-- a chain that passes can be followed, and has at most 16 hops
pub word-passes : (s : Sizes) (f : Form) {w : List ℕ} → word_of_form s f ≡ done w → Passes s w
unfolding word_of_form unless
word-passes s unformed e = not_done refl e
word-passes s (formed ls (b ∷ r)) e = not_done refl e
word-passes s (formed ls []) {w} e = go (letters_refusal s ls) refl e
  where
    go : (k : ℕ) → letters_refusal s ls ≡ k → unless k 1 (done (word_of ls)) ≡ done w → Passes s w
    go zero h e = subst (Passes s) (same-done refl e) (letters_pass s ls h)
    go (suc k) h e = not_done refl e

-- a file that loads: its limits and its length, its two parts, and its cells
module _ (s : Sizes) (file : List ℕ) (e : load file ≡ done s) where
  pub loaded_shape : Limits s × (length file ≡ 12 + 5 * cell_count s)
  loaded_shape = let l = loads s file e in (limits s l.within, l.whole)

  pub loaded-parts : {v m : List ℕ} → Bytes file → v ≡ values_part s file → m ≡ marks_part s file → Parts s v m × Valid s (cells_of v m)
  unfolding cells_of_file
  loaded-parts b p q = let l = loads s file e in rw (p, q) (file-is s file b l, cells-valid s file b l)

  pub loaded-valid : Bytes file → Valid s (cells_of_file s file)
  unfolding cells_of_file
  loaded-valid b = let l = loads s file e in cells-valid s file b l

-- the cells that are lent of a file
pub lent_cells : (s : Sizes) (file : List ℕ) (c : Cells) → (c.sizes ≡ s) × (c.values.now ≡ values_part s file) × (c.marks.now ≡ marks_part s file) → cells_in c ≡ cells_of_file s file
unfolding cells_of_file cells_in
lent_cells s file c p = ap₂ cells_of p.1 p.2

module _ (s : Sizes) (file text : List ℕ) (u : ℕ) where
  pub loaded-refused : {k l : ℕ} → word_of_form s (form text) ≡ refused k l → reading_loaded s file text u ≡ refused k l
  unfolding reading_loaded after
  loaded-refused e = ap (λ (o : Outcome (List ℕ)). after o (at_record s (cells_of_file s file) u)) e

  module _ {w : List ℕ} (e : word_of_form s (form text) ≡ done w) where
    at-word : reading_loaded s file text u ≡ at_record s (cells_of_file s file) u w
    unfolding reading_loaded after
    at-word = ap (λ (o : Outcome (List ℕ)). after o (at_record s (cells_of_file s file) u)) e

    pub loaded_record : s.records ≤ u → reading_loaded s file text u ≡ refused 16 0
    unfolding at_record
    loaded_record h = at-word ∙ simp (le-ltb u s.records h)

    pub loaded-read : u < s.records → reading_loaded s file text u ≡ done (value_at_record s (cells_of_file s file) w u)
    unfolding at_record
    loaded-read h = at-word ∙ simp (lt-ltb u s.records h)

module _ (file text : List ℕ) (u : ℕ) where
  pub reading-refused : {k l : ℕ} → load file ≡ refused k l → reading file text u ≡ refused k l
  unfolding reading after
  reading-refused e = ap (λ (o : Outcome Sizes). after o (λ s. reading_loaded s file text u)) e

  pub reading-loaded : {s : Sizes} → load file ≡ done s → reading file text u ≡ reading_loaded s file text u
  unfolding reading after
  reading-loaded e = ap (λ (o : Outcome Sizes). after o (λ s. reading_loaded s file text u)) e
