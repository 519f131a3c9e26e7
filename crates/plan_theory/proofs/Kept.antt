-- Every plan keeps its promise: an appended line that may stand there does, and a plan is made of such lines.
use mathlib.Core.Path.{◌≡◌, ap, ◌∙◌}
use mathlib.Core.List.{List, [], ◌∷◌, ◌++◌, Memᴰ}
use mathlib.Core.Logic.{⊎_elim}
use Prim.Native.Nat.{ℕ, zero, suc, ◌≤◌, ◌<◌}
use native.Mathlib.Omega.{arith}
use lib.ListN.{length, length-append, get_or-append}
use lib.Seq.{get_or-append_seam}
use Rattle.plan_theory.specs.Plan.{Fact, read, word, hops, back_need, read_need, round, line_index, plan, last_round, line}
use Rattle.plan_theory.specs.Promise.{Wanted, Stands, InRound, Promise, longest, Next, Ordered}
use Rattle.laws.proofs.Cases.{lt_or_le}
use Rattle.plan_theory.proofs.Half.{half_pos}
use Rattle.plan_theory.proofs.Facts.{round-both, round-line, line-round, later_round, front_length, needed-hops}
use Rattle.plan_theory.proofs.Places.{place-line, place-append-listed, place-append-before, place-append-last}
use Rattle.plan_theory.proofs.Lines.{Grows, stays, appends, readings_grow, readings_had}

-- what holds of each line and of one more behind them holds of each line then
pub lines-append : (P : ℕ → Fact → Type 0) (l : List Fact) (f : Fact) → ((i : ℕ) → i < length l → P i (line l i)) → P (length l) f
    → (i : ℕ) → i < length (l ++ (f ∷ [])) → P i (line (l ++ (f ∷ [])) i)
lines-append P l f each last i h =
    ⊎_elim
    (λ b. rw (get_or-append l (f ∷ []) (read []) i b) (each i b))
    (λ b. let e : i ≡ length l = omega (arith, simp length-append at h) in rw (e, get_or-append_seam l f [] (read [])) last)
    (lt_or_le i (length l))

stands-append : {l : List Fact} {i : ℕ} {f : Fact} (m : List Fact) → i < length l → Stands l i f → Stands (l ++ m) i f
stands-append {l} {i} {f} m h s =
    record {
      once = place-append-listed l m f (omega (arith, s.once)) ∙ s.once;
      has_line = s.has_line;
      back_before = λ p. place-append-before l m (back_need f) i (omega arith) (s.back_before p);
      read_before = λ p q. place-append-before l m (read_need f) i (omega arith) (s.read_before p q);
      back_earlier = s.back_earlier;
      read_earlier = s.read_earlier;
    }

-- a line that may stand behind l stands there
stands-last : {l : List Fact} {f : Fact} → Next l f → Stands (l ++ (f ∷ [])) (length l) f
stands-last {l} {f} n =
    record {
      once = place-append-last l f n.new;
      has_line = n.has_line;
      back_before = λ p. place-append-before l (f ∷ []) (back_need f) (length l) (omega arith) ((n.needs p).0 (omega (arith, front_length (word f) p, half_pos (hops f))));
      read_before = λ p q. place-append-before l (f ∷ []) (read_need f) (length l) (omega arith) ((n.needs p).1 q);
      back_earlier = λ p. omega (arith, round-both f p);
      read_earlier = λ p. omega (arith, round-both f p);
    }

-- appending one line that may stand there keeps the order
pub ordered-append : {l : List Fact} {f : Fact} → Ordered l → Next l f → Ordered (l ++ (f ∷ []))
ordered-append {l} {f} o n = lines-append (Stands (l ++ (f ∷ []))) l f (λ i h. stands-append (f ∷ []) h (o i h)) (stands-last n)

pub grows_ordered : {Q : Fact → Type 0} {l m : List Fact} → Grows Q l m → Ordered l → Ordered m
grows_ordered stays o = o
grows_ordered (appends s q n) o = ordered-append (grows_ordered s o) n

pub grows_all : {Q : Fact → Type 0} {l m : List Fact} → Grows Q l m → ((i : ℕ) → i < length l → Q (line l i)) → (i : ℕ) → i < length m → Q (line m i)
grows_all stays each = each
grows_all {Q} (appends {m = m} {f = f} s q n) each = lines-append (λ _. Q) m f (grows_all s each) q

longest_le : {w : List ℕ} {ws : List (List ℕ)} → Memᴰ w ws → length w ≤ longest ws
unfolding longest
longest_le (Memᴰ.head e) = omega (arith, ap length e)
longest_le (Memᴰ.tail m) = omega (arith, longest_le m)

wanted-short : {ws : List (List ℕ)} {g : Fact} → Wanted ws g → hops g ≤ longest ws
wanted-short n = omega (arith, needed-hops n.needed, longest_le n.among)

in_round : (l : List Fact) (g : Fact) {t : ℕ} → line_index l g < length l → round g ≡ t → InRound l t
in_round l g h e = record { index = line_index l g; index< = h; round_is = ap round (place-line l g h) ∙ e }

module _ (l : List Fact) (o : Ordered l) where
  -- a line after the first round has a need in the round before
  round-before : (t : ℕ) → 1 ≤ t → InRound l (suc t) → InRound l t
  round-before t p r =
      let f = line l r.index in
      let s = o r.index r.index< in
      let h : 2 ≤ hops f = later_round f (omega (arith, r.round_is)) in
      ⊎_elim
      (λ b. in_round l (read_need f) (omega (arith, r.index<, s.read_before h (line-round (read_need f) (omega arith)))) (omega (arith, r.round_is, round-both f h)))
      (λ b. in_round l (back_need f) (omega (arith, r.index<, s.back_before h)) (omega (arith, r.round_is, round-both f h)))
      (lt_or_le (round (back_need f)) (round (read_need f)))

  rounds_down : (n t : ℕ) → InRound l n → 1 ≤ t → t ≤ n → InRound l t
  rounds_down zero t r p q = absurd (omega arith)
  rounds_down (suc n) t r p q =
      ⊎_elim
      (λ b. rounds_down n t (round-before n (omega arith) r) p (omega arith))
      (λ b. let e : t ≡ suc n = omega arith in rw e r)
      (lt_or_le t (suc n))

round_to_last : (l : List Fact) (i : ℕ) → i < length l → round (line l i) ≤ last_round l
unfolding last_round
round_to_last [] i h = absurd (omega arith)
round_to_last (f ∷ l) zero h = omega arith
round_to_last (f ∷ l) (suc i) h = omega (arith, round_to_last l i (omega arith))

-- some line has the last round
last_in_round : (l : List Fact) → 1 ≤ last_round l → InRound l (last_round l)
unfolding last_round
last_in_round [] h = absurd (omega arith)
last_in_round (f ∷ l) h =
    ⊎_elim
    (λ b. let r = last_in_round l (omega arith) in record { index = suc r.index; index< = omega (arith, r.index<); round_is = omega (arith, r.round_is) })
    (λ b. record { index = 0; index< = omega arith; round_is = omega arith })
    (lt_or_le (round f) (last_round l))

-- every plan keeps its promise
pub plan-promise : (ws : List (List ℕ)) → Promise ws (plan ws)
unfolding plan
plan-promise ws =
    let s = readings_grow [] ws in
    let o = grows_ordered s (λ i h. absurd (omega arith)) in
    let w = grows_all s (λ i h. absurd (omega arith)) in
    record {
      stands = o;
      has_reading = λ m. readings_had [] m;
      wanted = w;
      short = λ i h. wanted-short (w i h);
      from_one = λ i h. round-line (line (plan ws) i) (o i h).has_line;
      to_last = round_to_last (plan ws);
      no_gap = λ t p q. rounds_down (plan ws) o (last_round (plan ws)) t (last_in_round (plan ws) (omega arith)) p q;
    }
