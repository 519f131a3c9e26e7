-- References that lead to records, and changes of a cell that keep it so.
use Prim.Native.Nat.{ℕ, zero, suc, ◌%◌, ◌≤◌, ◌<◌}
use mathlib.Core.Path.{◌≡◌, sym, ap, ◌∙◌}
use mathlib.Core.Logic.{◌≢◌, ⊎_elim}
use mathlib.Core.Bool.{true, false}
use mathlib.Core.List.{List, [], ◌∷◌}
use native.Mathlib.Omega.{arith}
use lib.Arith.{digits_mod}
use lib.ListN.{get_or, set as put}
use lib.Seq.{get_or-set_other}
use Rattle.register.specs.File.{width, cell_index}
use Rattle.register.specs.Shape.{Limits, refers_within}
use Rattle.register.specs.declared.Sizes.{Sizes}
use Rattle.register.specs.declared.cells.Cell.{Cell}
use Rattle.register.specs.declared.cells.Cell.TheVariants.{Missing}
use Rattle.register.proofs.Bounds.{width_references}
use Rattle.chain.specs.Word.{is_reference, has_field, column}
use Rattle.chain.proofs.Following.{column-below}
use Rattle.laws.proofs.Cases.{true_or_false}

-- a cell is changed at place j, perhaps the one that is looked at
pub change_keeps : (P : Cell → Type 0) (g : Cell → Cell) → ((c : Cell) → P c → P (g c)) → (cells : List Cell) (j i : ℕ)
    → P (get_or cells i Missing) → P (get_or (put cells j (g (get_or cells j Missing))) i Missing)
change_keeps P g k [] j i h = h
change_keeps P g k (c ∷ cells) zero zero h = k c h
change_keeps P g k (c ∷ cells) zero (suc i) h = h
change_keeps P g k (c ∷ cells) (suc j) zero h = h
change_keeps P g k (c ∷ cells) (suc j) (suc i) h = change_keeps P g k cells j i h

-- a place tells its column
pub place-column : (s : Sizes) (u v c d : ℕ) → c < width s → d < width s → cell_index s u c ≡ cell_index s v d → c ≡ d
unfolding cell_index
place-column s u v c d hc hd e = sym (digits_mod u hc) ∙ ap (λ (k : ℕ). k % width s) e ∙ digits_mod v hd

-- a measure stands behind the references
measure_column : (s : Sizes) (f : ℕ) → is_reference f ≡ false → s.references ≤ column s f
unfolding column
measure_column s f e = rw e (omega arith)

-- every reference leads to a record
abbrev pub Refers : Sizes → List Cell → Type 0
Refers s cells = (u f : ℕ) → u < s.records → f < s.references → refers_within s.records (get_or cells (cell_index s u f) Missing) ≡ true

-- g may change a cell of field f: a reference still leads to a record
pub record Change (s : Sizes) (f : ℕ) (g : Cell → Cell) : Type 0 where
  pub field : has_field s f ≡ true
  pub refers : is_reference f ≡ true → (c : Cell) → refers_within s.records c ≡ true → refers_within s.records (g c) ≡ true

-- such a change keeps every reference: a measure stands in another column
pub change_refers : (s : Sizes) → Limits s → {f : ℕ} {g : Cell → Cell} → Change s f g → (u : ℕ) (cells : List Cell) → Refers s cells
    → let j = cell_index s u (column s f) in Refers s (put cells j (g (get_or cells j Missing)))
change_refers s lim {f} {g} k u cells h v e hv he =
    ⊎_elim
    (λ (r : is_reference f ≡ true). change_keeps (λ c. refers_within s.records c ≡ true) g (k.refers r) cells _ _ (h v e hv he))
    (λ (m : is_reference f ≡ false).
    let other : cell_index s v e ≢ cell_index s u (column s f) =
    λ q. omega (arith, measure_column s f m, place-column s v u e (column s f) (width_references s he) (column-below s lim f k.field) q) in
    rw get_or-set_other (h v e hv he))
    (true_or_false (is_reference f))
