-- The plan is possible and least: each fact has a derivation with the plan's round, and no derivation of a reading has fewer rounds.
use mathlib.Core.Path.{◌≡◌, sym}
use mathlib.Core.List.{List, [], ◌∷◌, ◌++◌, append_assoc, append-nil}
use Prim.Native.Nat.{ℕ, zero, suc, ◌+◌, ◌*◌, ◌^◌, ◌≤◌, ◌<◌, max}
use native.Mathlib.Omega.{arith}
use native.Mathlib.Nat.{max_comm}
use lib.ListN.{length}
use Rattle.plan_theory.specs.Knows.{Knows, own_number, own_cell, told}
use Rattle.plan_theory.specs.Least.{PlanLeast}
use Rattle.plan_theory.proofs.Bound.{reading-bound}
use Rattle.plan_theory.specs.Plan.{half, front, rest, Fact, back, read, word, hops, line_from, back_need, read_need, round}
use Rattle.plan_theory.proofs.Half.{half-next, half_double, half-below}
use Rattle.plan_theory.proofs.Facts.{front_rest, front_length, rest-length, round-none, round-one, round-both, fact_ind, fact-cases, line-from-pos, line-from_le}

-- what a fact says, with k rounds: Back(w), the record at w knows u; Read(w), u knows w
abbrev pub Derives : Fact → ℕ → Type 0
Derives (back w) k = Knows w [] k
Derives (read w) k = Knows [] w k

-- a derivation holds from any record on
pub knows-from : (p : List ℕ) {v e : List ℕ} {k : ℕ} → Knows v e k → Knows (p ++ v) (p ++ e) k
knows-from p (own_number v) = own_number (p ++ v)
knows-from p (own_cell v f) = rw (← append_assoc) (own_cell (p ++ v) f)
knows-from p (told w d e) = told (p ++ w) (knows-from p d) (knows-from p e)

-- the record at a knows all of c, by Read(b)
knows-rest : (c : List ℕ) {k : ℕ} → Knows [] (rest c) k → Knows (front c) c k
knows-rest c d = simp (append-nil, front_rest) at (knows-from (front c) d)

derives_none : (f : Fact) → hops f < line_from f → Derives f 0
derives_none (back []) h = own_number []
derives_none (back (x ∷ w)) h = absurd (omega arith)
derives_none (read []) h = own_number []
derives_none (read (x ∷ [])) h = own_cell [] x
derives_none (read (x ∷ y ∷ w)) h = absurd (omega arith)

derives_one : (f : Fact) → line_from f ≤ hops f → hops f < 2 → Derives f 1
derives_one (back []) h l = absurd (omega arith)
derives_one (back (x ∷ [])) h l = told [] (own_number []) (own_cell [] x)
derives_one (back (x ∷ y ∷ w)) h l = absurd (omega arith)
derives_one (read w) h l = absurd (omega arith)

derives_both : (f : Fact) (i j : ℕ) → Derives (back_need f) i → Derives (read_need f) j → Derives f (suc (max i j))
derives_both (back c) i j s t = told (front c) s (knows-rest c t)
derives_both (read c) i j s t = rw max_comm (told (front c) (knows-rest c t) s)

-- the plan derives what it says: each fact in exactly its round
pub plan_derives : (f : Fact) → Derives f (round f)
plan_derives =
    fact_ind (λ f. Derives f (round f))
    (λ f h. rw (round-none f h) (derives_none f h))
    (λ f h l. rw (round-one f h l) (derives_one f h l))
    (λ f h s t. rw (round-both f h) (derives_both f (round (back_need f)) (round (read_need f)) s t))

-- a Back of at most 2 ^ k / 2 hops, or a Read of at most (2 ^ k + 1) / 2, has at most k rounds
round-bound : (k : ℕ) (f : Fact) → 2 * hops f < 2 ^ k + line_from f → round f ≤ k
round-bound zero f h = omega (arith, round-none f (omega (arith, line-from-pos f)))
round-bound (suc k) f h =
    fact-cases (round f ≤ suc k) f
    (λ l. omega (arith, round-none f l))
    (λ l u. omega (arith, round-one f l u))
    (λ l.
    let half≤ : 2 * half (hops f) ≤ 2 ^ k = half-next (hops f) k (omega (arith, half-below (hops f) l, line-from_le f)) in
    omega (
      arith,
      round-both f l,
      round-bound k (back_need f) (omega (arith, front_length (word f) l)),
      round-bound k (read_need f) (omega (arith, rest-length (word f), half_double (hops f))),
    ))

-- least: every derivation of "u knows c" has at least the rounds of c in the plan
pub plan_least : {c : List ℕ} {k : ℕ} → Knows [] c k → round (read c) ≤ k
plan_least {c} {k} d = round-bound k (read c) (omega (arith, reading-bound d))

-- so a reading's rounds in the plan are the least
pub round_least : PlanLeast
round_least c = record { derived = plan_derives (read c); least = plan_least }

round_le : (v w : List ℕ) → length v ≡ length w → round (read v) ≤ round (read w)
round_le v w e = round-bound (round (read w)) (read v) (omega (arith, reading-bound (plan_derives (read w))))

-- the rounds of a reading depend on its hops only
pub round-length : (v w : List ℕ) → length v ≡ length w → round (read v) ≡ round (read w)
round-length v w e = omega (arith, round_le v w e, round_le w v (sym e))
