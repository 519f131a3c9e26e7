-- The path is the reason for a single reading, refusals included: "in every register with the same sizes that agrees on
-- the listed cells, the reading has the same outcome" (M-109).
use Rattle.std.specs.Prelude.{None, Some}
use Prim.Native.Nat.{ℕ}
use mathlib.Core.Path.{◌≡◌, refl, sym, ap, subst, ◌∙◌}
use mathlib.Core.Bool.{Bool, true, false, cond}
use mathlib.Core.List.{List, Memᴰ}
use native.Mathlib.Omega.{arith}
use native.Mathlib.Decide.{ℕ_discrete}
use lib.Dec.{ltb}
use lib.IntN.{pos}
use lib.ListN.{get_or, set, length-set}
use lib.Seq.{get_or-set_other}
use mir.Syntax.{w32}
use mir.Val.{SFits}
use Rattle.laws.specs.Outcome.{Outcome, done, refused, after}
use Rattle.register.specs.Cells.{value_of}
use Rattle.register.specs.File.{cell_index, cells_of_file, file_of}
use Rattle.register.specs.Load.{load}
use Rattle.register.specs.Shape.{Valid, refers_within}
use Rattle.register.specs.declared.Sizes.{Sizes}
use Rattle.register.specs.declared.cells.Cell.{Cell}
use Rattle.register.specs.declared.cells.Cell.TheVariants.{Missing as Unfilled}
use Rattle.register.proofs.Roundtrip.{loads, cells-valid, load_encode, decode_encode}
use Rattle.chain.specs.Reading.{Reading}
use Rattle.chain.specs.Word.{value_at_record}
use Rattle.chain_text.specs.Text.{form}
use Rattle.chain_path.specs.declared.Hop.{Hop}
use Rattle.chain_path.specs.Path.{path_at_record, read_behind, AgreesOn, cell_place}
use Rattle.chain_path.proofs.Reason.{reading-last, agree_same, unfilled-at, listed-needed}
use Rattle.op_read.specs.Reading.{word_of_form, at_record, reading_loaded, reading}
use Rattle.op_read.proofs.Outcomes.{not_done, same-done, reading-refused, reading-loaded}
use Rattle.op_path.specs.Path.{path_of_word, path_loaded, reading_path, path_shows}
use Rattle.op_path.specs.Reason.{ReadingIsLast, SameAt, PathIsReason, ListedNeeded}
use Rattle.op_path.proofs.Outcomes.{path-refused, path-loaded}

-- the word that is asked for at record u, or its refusal: the same for every register of these sizes
abbrev asked : Sizes → List ℕ → ℕ → Outcome (List ℕ)
asked s text u = after (word_of_form s (form text)) (λ w. cond (ltb u s.records) (done w) (refused 16 0))

asked-then : {A : Type 0} (v : List ℕ → A) (o : Outcome (List ℕ)) (b : Bool)
    → after o (λ w. cond b (done (v w)) (refused 16 0)) ≡ after (after o (λ w. cond b (done w) (refused 16 0))) (λ w. done (v w))
unfolding after
asked-then v (done w) true = refl
asked-then v (done w) false = refl
asked-then v (refused k l) b = refl

module _ (s : Sizes) (file text : List ℕ) (u : ℕ) (e : load file ≡ done s) where
  path-asked : reading_path file text u ≡ after (asked s text u) (λ w. done (path_at_record s (cells_of_file s file) w u))
  unfolding path_loaded path_of_word
  path-asked = path-loaded file text u e ∙ asked-then _ (word_of_form s (form text)) (ltb u s.records)

  reading-asked : reading file text u ≡ after (asked s text u) (λ w. done (value_at_record s (cells_of_file s file) w u))
  unfolding reading_loaded at_record
  reading-asked = reading-loaded file text u e ∙ asked-then _ (word_of_form s (form text)) (ltb u s.records)

-- the reading is the last cell of the path, and refused where the path is
pub reading-is-last : ReadingIsLast
unfolding after
reading-is-last file text u = go (load file) refl
  where
    last : Outcome (List Hop) → Outcome Reading
    last o = after o (λ hs. done (read_behind (Some (pos u)) hs))

    word : (s : Sizes) (o : Outcome (List ℕ))
        → after o (λ w. done (value_at_record s (cells_of_file s file) w u)) ≡ last (after o (λ w. done (path_at_record s (cells_of_file s file) w u)))
    word s (done w) = ap done (reading-last s (cells_of_file s file) w u)
    word s (refused k l) = refl

    go : (o : Outcome Sizes) → load file ≡ o → reading file text u ≡ last (reading_path file text u)
    go (done s) e = reading-asked s file text u e ∙ word s (asked s text u) ∙ ap last (sym (path-asked s file text u e))
    go (refused k l) e = reading-refused file text u e ∙ ap last (sym (path-refused file text u e))

module _ (s : Sizes) (file other text : List ℕ) (u : ℕ) (e : load file ≡ done s) (e' : load other ≡ done s) where
  agreed_same : ((hs : List Hop) → reading_path file text u ≡ done hs → AgreesOn s (cells_of_file s other) hs) → SameAt file other text u
  unfolding path_at_record value_at_record after
  agreed_same agrees =
      go (asked s text u) (path-asked s file text u e) (path-asked s other text u e') (reading-asked s file text u e) (reading-asked s other text u e')
    where
      listed : List ℕ → List ℕ → Outcome (List Hop)
      listed f w = done (path_at_record s (cells_of_file s f) w u)

      read : List ℕ → List ℕ → Outcome Reading
      read f w = done (value_at_record s (cells_of_file s f) w u)

      go : (o : Outcome (List ℕ)) → reading_path file text u ≡ after o (listed file) → reading_path other text u ≡ after o (listed other)
          → reading file text u ≡ after o (read file) → reading other text u ≡ after o (read other) → SameAt file other text u
      go (done w) pf po rf ro =
          let same = agree_same s (cells_of_file s file) (cells_of_file s other) (Some (pos u)) w (agrees _ pf) in
          record {
            path_same = ap path_shows po ∙ ap done same.path_same ∙ sym (ap path_shows pf);
            reading_same = ro ∙ ap done same.reading_same ∙ sym rf;
          }
      go (refused k l) pf po rf ro = record { path_same = ap path_shows (po ∙ sym pf); reading_same = ro ∙ sym rf }

  -- no cell is listed for nothing: with any one of them unfilled, nothing is read
  unfilled_missing : {hs : List Hop} {h : Hop} → reading_path file text u ≡ done hs → Memᴰ h hs
      → cells_of_file s other ≡ set (cells_of_file s file) (cell_place s h) Unfilled → reading other text u ≡ done None
  unfolding path_at_record value_at_record after
  unfilled_missing {hs} {h} p m q = go (asked s text u) (path-asked s file text u e) (reading-asked s other text u e')
    where
      go : (o : Outcome (List ℕ)) → reading_path file text u ≡ after o (λ w. done (path_at_record s (cells_of_file s file) w u))
          → reading other text u ≡ after o (λ w. done (value_at_record s (cells_of_file s other) w u)) → reading other text u ≡ done None
      go (done w) pf ro =
          let listed = subst (Memᴰ h) (same-done p pf) m in
          ro ∙ ap (λ (cells : List Cell). done (value_at_record s cells w u)) q ∙ ap done (listed-needed s (cells_of_file s file) w (Some (pos u)) listed)
      go (refused k l) pf ro = not_done pf p

-- "Its list must be the reason": cells outside the list may be any
pub path_reason : PathIsReason
path_reason s file other text u e e' agrees = agreed_same s file other text u e e' agrees

-- cells of which one is made unfilled
unfilled-valid : (s : Sizes) (cells : List Cell) (j : ℕ) → Valid s cells → Valid s (set cells j Unfilled)
unfolding refers_within value_of
unfilled-valid s cells j v =
    record {
      limits = v.limits;
      count = length-set cells j Unfilled ∙ v.count;
      values = λ i. at (λ c. SFits w32 (value_of c)) (record { sfits = omega arith }) i (v.values i);
      references = λ u f hu hf. at (λ c. refers_within s.records c ≡ true) refl (cell_index s u f) (v.references u f hu hf);
    }
  where
    at : (P : Cell → Type 0) → P Unfilled → (i : ℕ) → P (get_or cells i Unfilled) → P (get_or (set cells j Unfilled) i Unfilled)
    at P none i p = go (ℕ_discrete i j)
      where
        go : Dec (i ≡ j) → P (get_or (set cells j Unfilled) i Unfilled)
        go (yes e) = rw (e, unfilled-at cells j) none
        go (no n) = rw (get_or-set_other cells j i Unfilled Unfilled n) p

-- the register with a listed cell made unfilled, all else as it was: it loads, and the reading is missing
pub listed_each_needed : ListedNeeded
listed_each_needed s file text u hs h b e p m =
    let cells = set (cells_of_file s file) (cell_place s h) Unfilled in
    let v = unfilled-valid s (cells_of_file s file) (cell_place s h) (cells-valid s file b (loads s file e)) in
    (load_encode s cells v, unfilled_missing s file (file_of s cells) text u e (load_encode s cells v) p m (decode_encode s cells v))
