-- A file that loads, and its sizes with its list of cells, determine each other.
use Prim.Native.Nat.{ℕ, zero, suc, ◌+◌, ◌*◌, ◌≤◌, ◌<◌}
use mathlib.Core.Path.{◌≡◌, refl, sym, ap, ap₂, subst, ◌∙◌}
use mathlib.Core.Bool.{Bool, true, false}
use mathlib.Core.List.{List, [], ◌∷◌, ◌++◌, append_assoc}
use native.Mathlib.Omega.{arith}
use native.Mathlib.Nat.{add-zero}
use native.Mathlib.Decide.{dec_lt, ℕ_discrete}
use borrow.Author.Tests.{ltb-true}
use lib.Dec.{ltb}
use lib.ListN.{length, get_or, take, drop, take-append-drop, length-append, length-drop, get_or-eq_default}
use lib.Seq.{take-nil, take_at, drop_at, drop-drop, get_or-drop}
use mir.Syntax.{w32}
use mir.Val.{SFits}
use Rattle.integers.specs.Bytes.{word_at, word_bytes, value_at}
use Rattle.integers.proofs.Bytes.{word_read_lem, word-again, word-behind, value-fits}
use Rattle.laws.specs.Outcome.{Outcome, done, refused, unless}
use Rattle.register.specs.Cells.{value_of, mark_of, cell_at, cells_of, values_of, marks_of}
use Rattle.register.specs.File.{width, cell_count, cell_index, sizes_of, values_part, marks_part, cells_of_file, file_of}
use Rattle.register.specs.Load.{within_limits, cell_refusal, refusal_at, record_refusal, cells_refusal, load}
use Rattle.register.specs.Shape.{Parts, Valid, Register, refers_within}
use Rattle.register.specs.declared.Sizes.{Sizes}
use Rattle.register.specs.declared.cells.Cell.{Cell}
use Rattle.register.specs.declared.cells.Cell.TheVariants.{Missing}
use Rattle.register.proofs.Loading.{file-parts, load-short, load_large, load-limits, sized-length, sized-cells}
use Rattle.register.proofs.Bounds.{limits, limits-test, cell_index-below, width_references}
use Rattle.register.proofs.Arrays.{Again, arrays-again, cell_of-fits, values_of-length, marks_of-length, values_of-at, marks_of-at, cells_of-arrays, cells_of-at, cells_of-length}
use Rattle.register.proofs.Sound.{sound_place, sound_refers, cell_sound}
use Rattle.laws.proofs.First.{each_first}

-- what a file that loads is like
pub record Loads (s : Sizes) (file : List ℕ) : Type 0 where
  pub long : 12 ≤ length file
  pub sizes : s ≡ sizes_of file
  pub within : within_limits s ≡ true
  pub whole : length file ≡ 12 + 5 * cell_count s
  pub sound : cells_refusal s (values_part s file) (marks_part s file) ≡ 0

not-both : {A : Type 0} {o : Outcome A} {a : A} {k l : ℕ} → o ≡ done a → o ≡ refused k l → ⊥
not-both p q = let z : ◌≡◌ {A = ℕ} 0 1 = cc in omega arith

same-done : {A : Type 0} {o : Outcome A} {a b : A} → o ≡ done a → o ≡ done b → a ≡ b
same-done p q = cc

pub loads : (s : Sizes) (file : List ℕ) → load file ≡ done s → Loads s file
unfolding unless
loads s file e = from-length (dec_lt (length file) 12)
  where
    t : Sizes
    t = sizes_of file

    from-cells : (12 ≤ length file) → within_limits t ≡ true → length file ≡ 12 + 5 * cell_count t → (k : ℕ) → cells_refusal t (values_part t file) (marks_part t file) ≡ k → load file ≡ unless k 0 (done t) → Loads s file
    from-cells long w l zero h all =
        subst (λ (x : Sizes). Loads x file) (same-done all e) (record { long = long; sizes = refl; within = w; whole = l; sound = h })
    from-cells long w l (suc k) h all = absurd (not-both e all)

    from-whole : (12 ≤ length file) → within_limits t ≡ true → Dec (length file ≡ 12 + 5 * cell_count t) → Loads s file
    from-whole long w (yes l) = from-cells long w l _ refl (load-limits file long refl w ∙ sized-cells file t l)
    from-whole long w (no l) = absurd (not-both e (load-limits file long refl w ∙ sized-length file t l))

    from-limits : 12 ≤ length file → (b : Bool) → within_limits t ≡ b → Loads s file
    from-limits long true w = from-whole long w (ℕ_discrete (length file) (12 + 5 * cell_count t))
    from-limits long false w = absurd (not-both e (load_large file long refl w))

    from-length : Dec (length file < 12) → Loads s file
    from-length (yes h) = absurd (not-both e (load-short file h))
    from-length (no h) = from-limits (omega arith) (within_limits t) refl

-- every element is a byte
abbrev pub Bytes : List ℕ → Type 0
Bytes l = (i : ℕ) → get_or l i 0 < 256

bytes_drop : (k : ℕ) (l : List ℕ) → Bytes l → Bytes (drop k l)
bytes_drop k l b i = rw get_or-drop (b (k + i))

bytes_take : (k : ℕ) (l : List ℕ) → Bytes l → Bytes (take k l)
bytes_take k [] b i = rw take-nil (b i)
bytes_take zero (a ∷ l) b i = omega arith
bytes_take (suc k) (a ∷ l) b zero = b 0
bytes_take (suc k) (a ∷ l) b (suc i) = bytes_take k l (λ j. b (suc j)) i

-- from a file to its cells
module _ (s : Sizes) (file : List ℕ) (bytes : Bytes file) (l : Loads s file) where
  pub file-is : Parts s (values_part s file) (marks_part s file)
  file-is = file-parts file s (limits s l.within) l.whole

  values_length : length (values_part s file) ≡ 4 * cell_count s
  values_length = file-is.values_length

  marks_length : length (marks_part s file) ≡ cell_count s
  marks_length = file-is.marks_length

  bytes_values : Bytes (values_part s file)
  unfolding values_part
  bytes_values = bytes_take (4 * cell_count s) (drop 12 file) (bytes_drop 12 file bytes)

  pub file-cells : (j : ℕ) → j < cell_count s → get_or (cells_of_file s file) j Missing ≡ cell_at (values_part s file) (marks_part s file) j
  unfolding cells_of_file
  file-cells j h = cells_of-at (values_part s file) (marks_part s file) j (omega (arith, marks_length))

  word-step : (k : ℕ) → k + 4 ≤ length file → word_bytes (word_at file k) ++ drop (k + 4) file ≡ drop k file
  word-step k h =
      ap₂ (λ (n : ℕ) (r : List ℕ). word_bytes n ++ r) (sym (word-behind k 0 file ∙ ap (word_at file) (add-zero k))) (sym (drop-drop 4 k file))
      ∙ word-again (drop k file) (bytes_drop k file bytes) (simp length-drop (omega arith))

  sizes-again : (r : List ℕ) → r ≡ drop 12 file → word_bytes s.records ++ word_bytes s.references ++ word_bytes s.measures ++ r ≡ file
  unfolding sizes_of
  sizes-again r e =
      let word : ℕ → List ℕ = λ k. word_bytes (word_at file k) in
      ap (λ (t : Sizes). word_bytes t.records ++ word_bytes t.references ++ word_bytes t.measures ++ r) l.sizes
      ∙ simp (append_assoc, e)
      (ap (λ (q : List ℕ). word 0 ++ q) (ap (λ (q : List ℕ). word 4 ++ q) (word-step 8 l.long) ∙ word-step 4 (omega (arith, l.long)))
      ∙ word-step 0 (omega (arith, l.long)))

  arrays : Again (values_part s file) (marks_part s file)
  arrays =
      arrays-again (values_part s file) (marks_part s file) bytes_values (values_length ∙ ap (λ (n : ℕ). 4 * n) (sym marks_length))
      (λ j h. sound_place s (values_part s file) (marks_part s file) l.sound j (omega (arith, marks_length)))

  parts : values_part s file ++ marks_part s file ≡ drop 12 file
  unfolding values_part marks_part
  parts =
      let c = 4 * cell_count s in
      ap (λ (r : List ℕ). take c (drop 12 file) ++ r) (sym (drop-drop c 12 file)) ∙ take-append-drop c (drop 12 file)

  -- encode after decode
  pub encode_decode : file_of s (cells_of_file s file) ≡ file
  unfolding file_of cells_of_file
  encode_decode =
      ap₂ (λ (v m : List ℕ). word_bytes s.records ++ word_bytes s.references ++ word_bytes s.measures ++ v ++ m) arrays.values_again arrays.marks_again
      ∙ append_assoc (word_bytes s.records ++ word_bytes s.references ++ word_bytes s.measures) (values_part s file) (marks_part s file)
      ∙ sizes-again (values_part s file ++ marks_part s file) parts

  file_count : length (cells_of_file s file) ≡ cell_count s
  unfolding cells_of_file
  file_count = cells_of-length (values_part s file) (marks_part s file) ∙ marks_length

  value-at : (j : ℕ) → Dec (j < cell_count s) → SFits w32 (value_of (get_or (cells_of_file s file) j Missing))
  unfolding cell_at value_of
  value-at j (yes h) = rw (file-cells j h) (cell_of-fits _ (get_or (marks_part s file) j 0) (value-fits (values_part s file) bytes_values (4 * j)))
  value-at j (no h) = rw (get_or-eq_default (cells_of_file s file) Missing {n = j} (omega (arith, file_count))) (record { sfits = omega arith })

  pub cells-valid : Valid s (cells_of_file s file)
  cells-valid = record {
    limits = limits s l.within;
    count = file_count;
    values = λ j. value-at j (dec_lt j (cell_count s));
    references = λ u f hu hf. ap (refers_within s.records) (file-cells (cell_index s u f) (cell_index-below s u f hu (width_references s hf))) ∙ sound_refers s (values_part s file) (marks_part s file) l.sound u f hu hf;
  }

-- from cells to their file
module _ (s : Sizes) (cs : List Cell) (v : Valid s cs) where
  sizes-read : sizes_of (file_of s cs) ≡ s
  unfolding sizes_of file_of word_at word_bytes
  sizes-read = λ i. record {
    records = word_read_lem s.records [] (omega (arith, v.limits.records≤)) i;
    references = word_read_lem s.references [] (omega (arith, v.limits.references≤)) i;
    measures = word_read_lem s.measures [] (omega (arith, v.limits.measures≤)) i;
  }

  whole_length : length (file_of s cs) ≡ 12 + 5 * cell_count s
  unfolding file_of word_bytes
  whole_length = simp length-append (omega (arith, values_of-length cs, marks_of-length cs, v.count))

  values_read : values_part s (file_of s cs) ≡ values_of cs
  unfolding values_part file_of word_bytes
  values_read = take_at (values_of cs) (marks_of cs) (4 * cell_count s) (values_of-length cs ∙ ap (λ (n : ℕ). 4 * n) v.count)

  marks_read : marks_part s (file_of s cs) ≡ marks_of cs
  unfolding marks_part file_of word_bytes
  marks_read =
      sym (drop-drop (4 * cell_count s) 12 (file_of s cs))
      ∙ drop_at (values_of cs) (marks_of cs) (4 * cell_count s) (values_of-length cs ∙ ap (λ (n : ℕ). 4 * n) v.count)

  -- no cell is refused
  none-refused : cells_refusal s (values_of cs) (marks_of cs) ≡ 0
  unfolding cells_refusal record_refusal refusal_at
  none-refused = each_first _ s.records (λ u hu. each_first _ (width s) (λ f hf.
      let j = cell_index s u f in
      ap₂ (cell_refusal s.records (ltb f s.references))
      (values_of-at cs j (omega (arith, v.count, cell_index-below s u f hu hf)) (v.values j))
      (marks_of-at cs j)
      ∙ cell_sound s.records (ltb f s.references) (get_or cs j Missing) (λ e. v.references u f hu (ltb-true f s.references e))))

  -- decode after encode
  pub load_encode : load (file_of s cs) ≡ done s
  unfolding unless
  load_encode =
      load-limits (file_of s cs) (omega (arith, whole_length)) (sym sizes-read) (limits-test s v.limits)
      ∙ sized-cells (file_of s cs) s whole_length
      ∙ ap (λ (k : ℕ). unless k 0 (done s)) (ap₂ (cells_refusal s) values_read marks_read ∙ none-refused)

  pub decode_encode : cells_of_file s (file_of s cs) ≡ cs
  unfolding cells_of_file
  decode_encode = ap₂ cells_of values_read marks_read ∙ cells_of-arrays cs v.values

  -- the file of such cells is a register
  pub encoded_register : Register s (file_of s cs)
  encoded_register = record { valid = rw decode_encode v; file-is = ap (file_of s) (sym decode_encode); whole = whole_length }

-- the two parts of a register hold the value and the mark of each of its cells
module _ (s : Sizes) (file : List ℕ) (r : Register s file) (j : ℕ) where
  pub register-value : j < cell_count s → value_at (values_part s file) (4 * j) ≡ value_of (get_or (cells_of_file s file) j Missing)
  register-value h =
      ap (λ (l : List ℕ). value_at l (4 * j)) (ap (values_part s) r.file-is ∙ values_read s (cells_of_file s file) r.valid)
      ∙ values_of-at (cells_of_file s file) j (omega (arith, r.valid.count)) (r.valid.values j)

  pub register_mark : get_or (marks_part s file) j 0 ≡ mark_of (get_or (cells_of_file s file) j Missing)
  register_mark =
      ap (λ (l : List ℕ). get_or l j 0) (ap (marks_part s) r.file-is ∙ marks_read s (cells_of_file s file) r.valid)
      ∙ marks_of-at (cells_of_file s file) j
