-- What a writer finds and writes, and a line's messages at its places, origin by origin.
use Rattle.std.specs.Prelude.{None, Some}
use Prim.Native.Nat.{ℕ, ◌+◌, ◌*◌, ◌≤◌, ◌<◌}
use mathlib.Core.Path.{◌≡◌, refl, sym, ap, ◌∙◌}
use mathlib.Core.Bool.{true}
use mathlib.Core.List.{List}
use mathlib.Core.Logic.{◌≢◌, ⊎_elim}
use native.Mathlib.Decide.{ℕ_discrete}
use native.Mathlib.Nat.{mul-le-mul_right}
use native.Mathlib.Omega.{arith}
use borrow.Author.Tests.{eq-eqb, ne_eqb}
use lib.Dec.{T}
use lib.IntN.{ℤ, pos, nat_abs}
use lib.Signed.{non_neg}
use lib.ListN.{length, set, length-set}
use mir.Syntax.{w32}
use mir.Val.{SFits}
use Rattle.integers.proofs.Complement.{index_is}
use Rattle.register.specs.declared.Sizes.{Sizes}
use Rattle.register.specs.declared.cells.Cell.{Cell}
use Rattle.chain.specs.Reading.{Reading}
use Rattle.chain.specs.Word.{read_cell, refers_to, reading_value}
use Rattle.laws.proofs.Cases.{lt_or_le}
use Rattle.chain.proofs.Following.{own_refers}
use Rattle.machine_messages.specs.Counts.{is_sent}
use Rattle.scratch.specs.Places.{reading_mark, Kept}
use Rattle.scratch.proofs.Placed.{kept_same, kept_again, kept-other, place_at-kept}
use Rattle.gather_line.specs.Written.{ByLine, places_of, known_at, writer_at, written_at, message_at, Before, LineHeld, ReadHeld, BackHeld, LineSent}
use Rattle.gather_line.proofs.Sent.{line_nothing, line-more}
use Rattle.gather_line.proofs.Places.{stored-kept, stored-set}

-- the number of a need's line: there is none, or one
pub none-or-line : {P : Type 0} (j : ℕ) → (j ≡ 64 → P) → (j ≢ 64 → P) → P
none-or-line {P} j none some = go (ℕ_discrete j 64)
  where
    go : Dec (j ≡ 64) → P
    go (yes e) = none e
    go (no n) = some n

-- the writer
module _ (held : ByLine) (back u : ℕ) where
  pub writer_own : back ≡ 64 → Some (pos u) ≡ writer_at held back u
  unfolding writer_at
  writer_own e = simp (eq-eqb back 64 e)

  pub writer-told : back ≢ 64 → held back u ≡ writer_at held back u
  unfolding writer_at
  writer-told e = simp (ne_eqb back 64 e)

  -- is a record
  pub writer_refers : (n : ℕ) → (back ≢ 64 → refers_to n (held back u) ≡ true) → u < n → refers_to n (writer_at held back u) ≡ true
  writer_refers n h p =
      none-or-line back
      (λ e. rw (← writer_own e) (own_refers n u p))
      (λ e. rw (← writer-told e) (h e))

module _ (s : Sizes) (cells : List Cell) (held : ByLine) (read field : ℕ) where
  -- what a record knows
  pub known_own : (v : ℕ) → read ≡ 64 → read_cell s cells v field ≡ known_at s cells held read field v
  unfolding known_at
  known_own v e = simp (eq-eqb read 64 e)

  pub known-told : (v : ℕ) → read ≢ 64 → held read v ≡ known_at s cells held read field v
  unfolding known_at
  known-told v e = simp (ne_eqb read 64 e)

  -- the message, by its writer
  module _ (back u : ℕ) where
    pub message-none : None ≡ writer_at held back u → None ≡ message_at s cells held back read field u
    unfolding message_at written_at
    message-none e = ap (written_at s cells held read field) e

    pub message_by : {z : ℤ} (v : ℕ) → Some z ≡ writer_at held back u → v ≡ nat_abs z
        → known_at s cells held read field v ≡ message_at s cells held back read field u
    unfolding message_at written_at
    message_by v e q = ap (known_at s cells held read field) q ∙ ap (written_at s cells held read field) e

-- lines that hold the same for what a message needs make the same message
module _ (s : Sizes) (cells : List Cell) (held held' : ByLine) (back read field u : ℕ) (backs : back ≢ 64 → held back u ≡ held' back u)
    (reads : read ≢ 64 → (v : ℕ) → v < s.records → held read v ≡ held' read v) where
  writer-alike : writer_at held back u ≡ writer_at held' back u
  writer-alike =
      none-or-line back
      (λ e. sym (writer_own held back u e) ∙ writer_own held' back u e)
      (λ e. sym (writer-told held back u e) ∙ backs e ∙ writer-told held' back u e)

  known_alike : (v : ℕ) → v < s.records → known_at s cells held read field v ≡ known_at s cells held' read field v
  known_alike v l =
      none-or-line read
      (λ e. sym (known_own s cells held read field v e) ∙ known_own s cells held' read field v e)
      (λ e. sym (known-told s cells held read field v e) ∙ reads e v l ∙ known-told s cells held' read field v e)

  written-alike : (x : Reading) → refers_to s.records x ≡ true → written_at s cells held read field x ≡ written_at s cells held' read field x
  unfolding written_at refers_to
  written-alike None r = refl
  written-alike (Some z) r = known_alike (nat_abs z) (index_is s.records z r).1

  pub message-alike : refers_to s.records (writer_at held' back u) ≡ true
      → message_at s cells held back read field u ≡ message_at s cells held' back read field u
  unfolding message_at
  message-alike r = ap (written_at s cells held read field) writer-alike ∙ written-alike (writer_at held' back u) r

-- the writer by the places is an index
pub writer-index : {s : Sizes} {values : List ℤ} {marks : List ℕ} {back : ℕ} (u : ℕ) (z : ℤ) → BackHeld s values marks back → u < s.records
    → Some z ≡ writer_at (places_of s values marks) back u → T (non_neg z) × (nat_abs z < s.records)
unfolding refers_to
writer-index {s} {values} {marks} {back} u z h p e =
    let i = index_is s.records z (rw (← e) at (writer_refers (places_of s values marks) back u s.records (λ n. h.refers n u p) p)) in
    (rw i.0 tt, i.1)

-- a place of a line before line i
pub place-before : (n : ℕ) {j i u : ℕ} → j < i → u < n → j * n + u < i * n
place-before n b h = omega (arith, mul-le-mul_right n b)

-- the places before line i are kept
abbrev KeptBefore : Sizes → ℕ → List ℤ → List ℕ → List ℤ → List ℕ → Type 0
KeptBefore s i values marks values' marks' = (j : ℕ) → j < i * s.records → Kept j values marks values' marks'

-- then what is found in lines before it stays
module _ (s : Sizes) (i : ℕ) (values : List ℤ) (marks : List ℕ) (values' : List ℤ) (marks' : List ℕ)
    (kept : KeptBefore s i values marks values' marks') where
  module _ (lv : length values' ≡ length values) (lm : length marks' ≡ length marks) where
    held_kept : {j : ℕ} → j < i → LineHeld s values marks j → LineHeld s values' marks' j
    held_kept b h =
        record {
          values_room = omega (arith, h.values_room);
          marks_room = omega (arith, h.marks_room);
          fits = λ u p. rw (kept _ (place-before s.records b p)).value-is (h.fits u p);
        }

    pub read_kept : {read field : ℕ} → Before read i → ReadHeld s values marks read field → ReadHeld s values' marks' read field
    read_kept b h = record { own = h.own; line = λ e. held_kept (b e) (h.line e) }

    pub back-kept : {back : ℕ} → Before back i → BackHeld s values marks back → BackHeld s values' marks' back
    back-kept b h =
        record {
          line = λ e. held_kept (b e) (h.line e);
          refers = λ e u p. rw (place_at-kept (kept _ (place-before s.records (b e) p))) (h.refers e u p);
        }

  pub message-kept : (cells : List Cell) (back read field u : ℕ) → Before back i → Before read i → BackHeld s values marks back → u < s.records
      → message_at s cells (places_of s values' marks') back read field u ≡ message_at s cells (places_of s values marks) back read field u
  message-kept cells back read field u bb br h p =
      message-alike s cells _ _ back read field u
      (λ e. place_at-kept (kept _ (place-before s.records (bb e) p)))
      (λ e v l. place_at-kept (kept _ (place-before s.records (br e) l)))
      (writer_refers _ back u s.records (λ e. h.refers e u p) p)

module _ (s : Sizes) (message : ℕ → Reading) (i : ℕ) (values : List ℤ) (marks : List ℕ) where
  pub line-none : LineSent s message i 0 values marks values marks 0
  line-none =
      record {
        values_length = refl;
        marks_length = refl;
        sent = λ u h. absurd (omega arith);
        before = λ j h. kept_same;
        behind = λ j h. kept_same;
        messages = sym (line_nothing message);
      }

  -- the message for origin k, stored at its place and counted
  pub line-next : {values' : List ℤ} {marks' : List ℕ} {m : ℕ} (k : ℕ) (x : Reading) (q : ℕ) → k < s.records
      → i * s.records + s.records ≤ length values → i * s.records + s.records ≤ length marks
      → LineSent s message i k values marks values' marks' m → x ≡ message k → SFits w32 (reading_value x) → q ≡ is_sent x
      → LineSent s message i (k + 1) values marks (set values' (i * s.records + k) (reading_value x)) (set marks' (i * s.records + k) (reading_mark x)) (m + q)
  line-next {values'} {marks'} {m} k x q h room room' l e fits one =
      let j = i * s.records + k in
      let other : (j' : ℕ) → j' ≢ j → Kept j' values' marks' (set values' j (reading_value x)) (set marks' j (reading_mark x)) =
      kept-other values' marks' j (reading_value x) (reading_mark x) in
      record {
        values_length = length-set values' j (reading_value x) ∙ l.values_length;
        marks_length = length-set marks' j (reading_mark x) ∙ l.marks_length;
        sent = λ u p.
            ⊎_elim
            (λ (b : u < k). stored-kept (l.sent u b) (other _ (λ z. omega arith)))
            (λ (b : k ≤ u).
            let same : u ≡ k = omega arith in
            rw (same, ← e) (stored-set values' marks' j x (omega (arith, l.values_length)) (omega (arith, l.marks_length)) fits))
            (lt_or_le u k);
        before = λ j' p. kept_again (l.before j' p) (other _ (λ z. omega arith));
        behind = λ j' p. kept_again (l.behind j' p) (other _ (λ z. omega arith));
        messages = line-more message k m q x l.messages one e;
      }
