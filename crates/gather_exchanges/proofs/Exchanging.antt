-- Exchanges at the places: one more line of a round, one more round, and places that are cleared.
use Prim.Native.Nat.{ℕ, suc, ◌+◌, ◌-◌, ◌*◌, ◌≤◌, ◌<◌}
use mathlib.Core.Path.{◌≡◌, refl, sym, ap, ap₂, ◌∙◌}
use mathlib.Core.List.{List, ◌++◌}
use mathlib.Core.Logic.{◌≢◌, ◌⊎◌, inl, inr, ⊎_elim}
use native.Mathlib.Numerals.{add-one}
use native.Mathlib.Omega.{arith}
use lib.IntN.{ℤ, pos}
use lib.ListN.{length, get_or, drop, replicate, length-append, length-drop, get_or-append}
use Rattle.std.proofs.lemmas.List.{length-replicate, get_or-replicate, get_or-drop, get_or-append_right}
use Rattle.register.specs.declared.Sizes.{Sizes}
use Rattle.register.specs.declared.cells.Cell.{Cell}
use Rattle.chain.specs.Reading.{Reading}
use Rattle.chain.specs.Word.{reading_value}
use Rattle.plan_lines.specs.Held.{line_at}
use Rattle.plan_lines.specs.declared.Plan.{Plan}
use Rattle.laws.proofs.Cases.{lt_or_le}
use Rattle.scratch.specs.Places.{reading_mark}
use Rattle.scratch.proofs.Placed.{kept_same, kept_again}
use Rattle.gather_line.specs.Written.{ByLine, LineSent}
use Rattle.gather_exchanges.specs.Lines.{LinesReady}
use Rattle.gather_exchanges.specs.Exchanged.{sent_by, held_to, round_messages, Agree, Exchanged, ExchangedTo, Cleared}
use Rattle.gather_line.proofs.Sent.{line-alike}
use Rattle.gather_exchanges.proofs.Counting.{round-one, round-other, round_le, lines_next, lines_nothing}
use Rattle.gather_exchanges.proofs.Rounds.{held_now, held_same}
use Rattle.gather_line.proofs.Places.{stored-place, stored-kept}
use Rattle.gather_line.proofs.Writing.{place-before}

-- a line below k + 1 is below k, or is k
below_next : {k i : ℕ} → i < k + 1 → (i < k) ⊎ (i ≡ k)
below_next {k} {i} h = ⊎_elim inl (λ (b : k ≤ i). inr (omega arith)) (lt_or_le i k)

module _ {s : Sizes} {cells : List Cell} {p : Plan} where
  -- one exchange, line by line
  module _ {t : ℕ} {values : List ℤ} {marks : List ℕ} where
    pub lines_none : Exchanged s cells p t 0 values marks values marks 0
    unfolding round_messages
    lines_none =
        record {
          values_length = refl;
          marks_length = refl;
          sent = λ held a i u h. absurd (omega arith);
          other = λ i u h. absurd (omega arith);
          behind = λ j h. kept_same;
          messages = λ held a. refl;
        }

    module _ {values' : List ℤ} {marks' : List ℕ} {m : ℕ} (k : ℕ) (r : Exchanged s cells p t k values marks values' marks' m) where
      -- not more than one for each line and origin
      pub lines-few : m ≤ k * s.records
      lines-few = rw (r.messages _ (λ i u h q b. refl)) (round_le p _ t k s.records)

      -- a line of another round
      pub lines_other : (line_at p k).round ≢ t → Exchanged s cells p t (k + 1) values marks values' marks' m
      lines_other n =
          record {
            values_length = r.values_length;
            marks_length = r.marks_length;
            sent = λ held a i u h q. ⊎_elim (λ b. r.sent held a i u b q) (λ (z : i ≡ k). rw z (λ e. absurd (n e))) (below_next h);
            other = λ i u h q. ⊎_elim (λ b. r.other i u b q) (λ (z : i ≡ k). rw z (λ e. r.behind (k * s.records + u) (omega arith))) (below_next h);
            behind = λ j h. r.behind j (omega arith);
            messages = λ held a. round-other p _ t k s.records (r.messages held a) n;
          }

      -- a line of this one
      pub lines_this : {message : ℕ → Reading} {values'' : List ℤ} {marks'' : List ℕ} {q : ℕ} → (line_at p k).round ≡ t
          → LineSent s message k s.records values' marks' values'' marks'' q
          → ((held : ByLine) → Agree s p t held values marks → (u : ℕ) → u < s.records → message u ≡ sent_by s cells p held k u)
          → Exchanged s cells p t (k + 1) values marks values'' marks'' (m + q)
      lines_this {message} e g is =
          record {
            values_length = g.values_length ∙ r.values_length;
            marks_length = g.marks_length ∙ r.marks_length;
            sent = λ held a i u h q.
                ⊎_elim
                (λ b e'. stored-kept (r.sent held a i u b q e') (g.before _ (place-before s.records b q)))
                (λ (z : i ≡ k). rw z (λ e'. rw (is held a u q) at (g.sent u q)))
                (below_next h);
            other = λ i u h q.
                ⊎_elim
                (λ b n. kept_again (r.other i u b q n) (g.before _ (place-before s.records b q)))
                (λ (z : i ≡ k). rw z (λ n. absurd (n e)))
                (below_next h);
            behind = λ j h. kept_again (r.behind j (omega arith)) (g.behind j (omega arith));
            messages = λ held a.
                round-one p _ t k s.records (r.messages held a) e (g.messages ∙ line-alike message (sent_by s cells p held k) s.records (is held a));
          }

  -- exchange by exchange
  module _ {values : List ℤ} {marks : List ℕ} where
    pub to_none : LinesReady s p → ExchangedTo s cells p 0 values marks values marks 0
    to_none lines =
        record {
          values_length = refl;
          marks_length = refl;
          held = λ i u h q b. absurd (omega (arith, (lines.each i h).from_one));
          later = λ i u h q b. kept_same;
          behind = λ j h. kept_same;
          messages = sym (lines_nothing s cells p p.count s.records);
        }

    module _ {values' : List ℤ} {marks' : List ℕ} {m : ℕ} (t : ℕ) (x : ExchangedTo s cells p t values marks values' marks' m) where
      to_agree : Agree s p (suc t) (held_to s cells p t) values' marks'
      to_agree i u h q b = stored-place (x.held i u h q (omega arith))

      to_suc : {values'' : List ℤ} {marks'' : List ℕ} {q : ℕ} → Exchanged s cells p (suc t) p.count values' marks' values'' marks'' q
          → ExchangedTo s cells p (suc t) values marks values'' marks'' (m + q)
      to_suc y =
          record {
            values_length = y.values_length ∙ x.values_length;
            marks_length = y.marks_length ∙ x.marks_length;
            held = λ i u h q b.
                ⊎_elim
                (λ (l : (line_at p i).round < suc t).
                let n : (line_at p i).round ≢ suc t = λ e. omega arith in
                rw (held_same s cells p t i u n) (stored-kept (x.held i u h q (omega arith)) (y.other i u h q n)))
                (λ (l : suc t ≤ (line_at p i).round).
                let e : (line_at p i).round ≡ suc t = omega arith in
                rw (held_now s cells p t i u e) (y.sent (held_to s cells p t) to_agree i u h q e))
                (lt_or_le (line_at p i).round (suc t));
            later = λ i u h q b. kept_again (x.later i u h q (omega arith)) (y.other i u h q (λ e. omega arith));
            behind = λ j h. kept_again (x.behind j h) (y.behind j h);
            messages = ap₂ ◌+◌ x.messages (y.messages _ to_agree) ∙ sym (lines_next s cells p t s.records p.count);
          }

      pub to_next : {values'' : List ℤ} {marks'' : List ℕ} {q : ℕ} → Exchanged s cells p (t + 1) p.count values' marks' values'' marks'' q
          → ExchangedTo s cells p (t + 1) values marks values'' marks'' (m + q)
      to_next y = rw add-one (to_suc (rw add-one at y))

-- the first k of a list, all the same, and the others as they were
module _ {X : Type 0} (k : ℕ) (a d : X) (xs : List X) where
  front-at : (j : ℕ) → j < k → get_or (replicate k a ++ drop k xs) j d ≡ a
  front-at j h = get_or-append (replicate k a) (drop k xs) d j (simp length-replicate h) ∙ get_or-replicate k j a d h

  behind-at : (j : ℕ) → k ≤ j → get_or (replicate k a ++ drop k xs) j d ≡ get_or xs j d
  behind-at j h =
      let e : k + (j - k) ≡ j = omega arith in
      get_or-append_right (replicate k a) (drop k xs) k j d (length-replicate k a) h ∙ get_or-drop k xs (j - k) d ∙ ap (λ (i : ℕ). get_or xs i d) e

  front-length : k ≤ length xs → length (replicate k a ++ drop k xs) ≡ length xs
  front-length h = simp (length-append, length-replicate, length-drop) (omega arith)

-- places that are cleared
pub cleared_by : (k : ℕ) (values : List ℤ) (marks : List ℕ) → k ≤ length values → k ≤ length marks
    → Cleared k values marks (replicate k (pos 0) ++ drop k values) (replicate k 0 ++ drop k marks)
unfolding reading_value reading_mark
cleared_by k values marks v m =
    record {
      values_length = front-length k (pos 0) (pos 0) values v;
      marks_length = front-length k 0 0 marks m;
      missing = λ j h. record { value-is = front-at k (pos 0) (pos 0) values j h; mark_is = front-at k 0 0 marks j h; fits = record { sfits = omega arith } };
      behind = λ j h. record { value-is = behind-at k (pos 0) (pos 0) values j h; mark_is = behind-at k 0 0 marks j h };
    }
