-- Messages counted: of a round, line by line, and of all rounds so far.
use Prim.Native.Nat.{ℕ, zero, suc, ◌+◌, ◌*◌, ◌≤◌, ◌<◌}
use mathlib.Core.Path.{◌≡◌, refl, ap₂}
use mathlib.Core.Bool.{Bool, true, false, cond}
use mathlib.Core.List.{List, [], ◌∷◌}
use mathlib.Core.Logic.{◌≢◌, ⊎_elim}
use native.Mathlib.Numerals.{add-one}
use native.Mathlib.Omega.{arith}
use borrow.Author.Tests.{eq-eqb, ne_eqb, eqb-true, eqb-false}
use lib.Dec.{eqb}
use lib.ListN.{length, take}
use lib.Seq.{take_all}
use Rattle.register.specs.declared.Sizes.{Sizes}
use Rattle.register.specs.declared.cells.Cell.{Cell}
use Rattle.plan_theory.specs.Plan.{Fact, line}
use Rattle.plan_lines.specs.Held.{line_at}
use Rattle.plan_lines.specs.declared.Plan.{Plan}
use Rattle.laws.proofs.Cases.{true_or_false}
use Rattle.machine_messages.specs.Held.{Held}
use Rattle.machine_messages.specs.Counts.{line_messages, plan_messages}
use Rattle.gather_line.specs.Written.{ByLine}
use Rattle.gather_line.proofs.Sent.{line_le, line-alike, line_missing}
use Rattle.gather_exchanges.specs.Exchanged.{sent_by, held_to, lines_messages, round_messages}
use Rattle.gather_exchanges.proofs.Rounds.{held_now, held_same, held-before}

-- one more line, of this round or of another
module _ (p : Plan) (held : ByLine) (t k n : ℕ) {m : ℕ} (so_far : m ≡ round_messages p held t k n) where
  pub round-one : {q : ℕ} → (line_at p k).round ≡ t → q ≡ line_messages (held k) n → m + q ≡ round_messages p held t (k + 1) n
  unfolding round_messages
  round-one e h = rw (add-one, eq-eqb (line_at p k).round t e) (ap₂ ◌+◌ so_far h)

  pub round-other : (line_at p k).round ≢ t → m ≡ round_messages p held t (k + 1) n
  unfolding round_messages
  round-other e = rw (add-one, ne_eqb (line_at p k).round t e) (omega (arith, so_far))

pub round_le : (p : Plan) (held : ByLine) (t k n : ℕ) → round_messages p held t k n ≤ k * n
unfolding round_messages
round_le p held t zero n = omega arith
round_le p held t (suc k) n = go (eqb (line_at p k).round t) (round_le p held t k n)
  where
    go : (b : Bool) → round_messages p held t k n ≤ k * n → round_messages p held t k n + cond b (line_messages (held k) n) 0 ≤ suc k * n
    go true r = omega (arith, line_le (held k) n)
    go false r = omega arith

pub lines_le : (held : ByLine) (k n : ℕ) → lines_messages held k n ≤ k * n
unfolding lines_messages
lines_le held zero n = omega arith
lines_le held (suc k) n = omega (arith, line_le (held k) n, lines_le held k n)

-- what is held before an exchange and what it adds
module _ (s : Sizes) (cells : List Cell) (p : Plan) (t n : ℕ) where
  line-next : (i : ℕ) → let held = held_to s cells p t in
      line_messages (held_to s cells p (suc t) i) n
      ≡ line_messages (held i) n + cond (eqb (line_at p i).round (suc t)) (line_messages (sent_by s cells p held i) n) 0
  line-next i =
      let round = (line_at p i).round in
      ⊎_elim
      (λ (e : eqb round (suc t) ≡ true).
      let here = eqb-true round (suc t) e in
      rw e (omega (
        arith,
        line_missing (held_to s cells p t i) n (λ u. held-before s cells p t i u (omega arith)),
        line-alike (held_to s cells p (suc t) i) (sent_by s cells p (held_to s cells p t) i) n (λ u h. held_now s cells p t i u here),
      )))
      (λ (e : eqb round (suc t) ≡ false).
      rw e (omega (
        arith,
        line-alike (held_to s cells p (suc t) i) (held_to s cells p t i) n (λ u h. held_same s cells p t i u (eqb-false round (suc t) e)),
      )))
      (true_or_false (eqb round (suc t)))

  pub lines_next : (k : ℕ) → lines_messages (held_to s cells p (suc t)) k n
      ≡ lines_messages (held_to s cells p t) k n + round_messages p (sent_by s cells p (held_to s cells p t)) (suc t) k n
  unfolding lines_messages round_messages
  lines_next zero = refl
  lines_next (suc k) = omega (arith, line-next k, lines_next k)

pub lines_nothing : (s : Sizes) (cells : List Cell) (p : Plan) (k n : ℕ) → lines_messages (held_to s cells p 0) k n ≡ 0
unfolding lines_messages held_to
lines_nothing s cells p zero n = refl
lines_nothing s cells p (suc k) n = omega (arith, line_missing (held_to s cells p 0 k) n (λ u. refl), lines_nothing s cells p k n)

-- by lines or by facts
module _ (told : ByLine) (held : Held) (n : ℕ) where
  plan-more : (l : List Fact) (i : ℕ) → i < length l → plan_messages held (take (suc i) l) n ≡ plan_messages held (take i l) n + line_messages (held (line l i)) n
  unfolding plan_messages
  plan-more [] i h = absurd (omega arith)
  plan-more (f ∷ l) zero h = omega arith
  plan-more (f ∷ l) (suc i) h = omega (arith, plan-more l i (omega arith))

  lines-first : (l : List Fact) (k : ℕ) → k ≤ length l → ((i u : ℕ) → i < length l → u < n → told i u ≡ held (line l i) u)
      → lines_messages told k n ≡ plan_messages held (take k l) n
  unfolding lines_messages plan_messages
  lines-first l zero h same = refl
  lines-first l (suc k) h same =
      omega (arith, plan-more l k h, lines-first l k (omega arith) same, line-alike (told k) (held (line l k)) n (λ u p. same k u h p))

  pub lines-plan : (l : List Fact) → ((i u : ℕ) → i < length l → u < n → told i u ≡ held (line l i) u) → lines_messages told (length l) n ≡ plan_messages held l n
  lines-plan l same = rw (take_all (length l) l (omega arith)) at (lines-first l (length l) (omega arith) same)
