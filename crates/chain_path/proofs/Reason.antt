-- The path is the reason for a reading: the reading is its last cell; where its cells are the same, so are path and
-- reading, whatever the other cells are; and no cell is listed that the reading could do without.
use Rattle.std.specs.Prelude.{None, Some}
use Prim.Native.Nat.{ℕ, zero, suc}
use mathlib.Core.Path.{◌≡◌, refl, sym, ap, ◌∙◌}
use mathlib.Core.Logic.{◌≢◌}
use mathlib.Core.List.{List, [], ◌∷◌, map, Memᴰ}
use native.Mathlib.Decide.{ℕ_discrete}
use lib.IntN.{pos, nat_abs}
use lib.ListN.{get_or, set}
use lib.Seq.{get_or-set_other}
use Rattle.register.specs.File.{cell_index}
use Rattle.register.specs.declared.Sizes.{Sizes}
use Rattle.register.specs.declared.cells.Cell.{Cell}
use Rattle.register.specs.declared.cells.Cell.TheVariants.{Missing as Unfilled}
use Rattle.chain.specs.Reading.{Reading}
use Rattle.chain.specs.Word.{column, read_of, read_cell, hop, follow, value_at_record}
use Rattle.chain.proofs.Following.{follow_missing}
use Rattle.chain_path.specs.declared.Hop.{Hop}
use Rattle.chain_path.specs.Path.{path, path_at_record, read_behind, shows, AgreesOn, cell_place}

module _ (s : Sizes) (cells : List Cell) where
  last-from : (x : Reading) (w : List ℕ) → follow s cells x w ≡ read_behind x (path s cells x w)
  unfolding path read_behind follow hop read_cell
  last-from x [] = refl
  last-from None (f ∷ w) = follow_missing s cells w
  last-from (Some z) (f ∷ w) = last-from (read_cell s cells (nat_abs z) f) w

  -- the reading is the last cell of the path
  pub reading-last : (w : List ℕ) (u : ℕ) → value_at_record s cells w u ≡ read_behind (Some (pos u)) (path_at_record s cells w u)
  unfolding value_at_record path_at_record
  reading-last w u = last-from (Some (pos u)) w

-- the same path and the same reading in the cells l as in the cells of k, from reading x on
pub record SameFrom (s : Sizes) (k l : List Cell) (x : Reading) (w : List ℕ) : Type 0 where
  pub path_same : map shows (path s l x w) ≡ map shows (path s k x w)
  pub reading_same : follow s l x w ≡ follow s k x w

-- cells that agree with those listed, whatever the others are: the same path and the same reading
pub agree_same : (s : Sizes) (k l : List Cell) (x : Reading) (w : List ℕ) → AgreesOn s l (path s k x w) → SameFrom s k l x w
unfolding path follow hop read_cell
agree_same s k l x [] a = record { path_same = refl; reading_same = refl }
agree_same s k l None (f ∷ w) a = record { path_same = refl; reading_same = follow_missing s l w ∙ sym (follow_missing s k w) }
agree_same s k l (Some z) (f ∷ w) (a, more) =
    let same = agree_same s k l (read_cell s k (nat_abs z) f) w more in
    record {
      path_same = rw a (ap (λ (hs : List (ℕ × ℕ × Reading)). (nat_abs z, f, read_cell s k (nat_abs z) f) ∷ hs) same.path_same);
      reading_same = rw a same.reading_same;
    }

-- a cell that is made unfilled
pub unfilled-at : (cells : List Cell) (j : ℕ) → get_or (set cells j Unfilled) j Unfilled ≡ Unfilled
unfilled-at [] j = refl
unfilled-at (c ∷ cells) zero = refl
unfilled-at (c ∷ cells) (suc j) = unfilled-at cells j

module _ (s : Sizes) (cells : List Cell) (u f j : ℕ) where
  read-there : cell_index s u (column s f) ≡ j → read_cell s (set cells j Unfilled) u f ≡ None
  unfolding read_cell read_of
  read-there e = rw e (ap read_of (unfilled-at cells j))

  read_elsewhere : cell_index s u (column s f) ≢ j → read_cell s (set cells j Unfilled) u f ≡ read_cell s cells u f
  unfolding read_cell
  read_elsewhere n = ap read_of (get_or-set_other cells j (cell_index s u (column s f)) Unfilled Unfilled n)

-- with any one of the listed cells unfilled, nothing is read
pub listed-needed : (s : Sizes) (cells : List Cell) (w : List ℕ) (x : Reading) {h : Hop} → Memᴰ h (path s cells x w)
    → follow s (set cells (cell_place s h) Unfilled) x w ≡ None
unfolding path follow hop
listed-needed s cells [] _ {h = h} m = elim m [ ]
listed-needed s cells (f ∷ w) None {h = h} m = elim m [ ]
listed-needed s cells (f ∷ w) (Some z) {h} m =
    go (listed-needed s cells w (read_cell s cells u f)) m (ℕ_discrete (cell_index s u (column s f)) (cell_place s h))
  where
    u : ℕ
    u = nat_abs z

    left : List Cell
    left = set cells (cell_place s h) Unfilled

    go : (Memᴰ h (path s cells (read_cell s cells u f) w) → follow s left (read_cell s cells u f) w ≡ None)
        → Memᴰ h (path s cells (Some z) (f ∷ w)) → Dec (cell_index s u (column s f) ≡ cell_place s h)
        → follow s left (read_cell s left u f) w ≡ None
    go r m (yes e) = rw (read-there s cells u f (cell_place s h) e) (follow_missing s left w)
    go r (Memᴰ.head q) (no n) = absurd (n (ap (cell_place s) (sym q)))
    go r (Memᴰ.tail m) (no n) = rw (read_elsewhere s cells u f (cell_place s h) n) (r m)
