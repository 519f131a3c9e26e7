-- (P) The rounds of a reading by hops, 0 to 16; and the lines of the printed plan.
use Rattle.std.specs.Prelude.{ℕ, zero, suc, ◌≤◌, ◌<◌, ◌≡◌, refl, List, [], ◌∷◌, length, get_or, replicate}
use Rattle.std.proofs.Common.{sym, ◌∙◌, arith}
use Rattle.std.proofs.lemmas.List.{length-replicate}
use Rattle.plan_theory.specs.Plan.{back, read, round, rounds, tree, tree_within, half, doubled, front, rest, plan, result, add, add_readings, with_tree, listed, line_index, same_fact, same_word}
use Rattle.plan_theory.proofs.Least.{round-length}

-- g 0, g 1, up to g (n - 1)
unfoldable pub tabulate : (ℕ → ℕ) → ℕ → List ℕ
tabulate g zero = []
tabulate g (suc n) = g 0 ∷ tabulate (λ k. g (suc k)) n

tabulate-at : (g : ℕ → ℕ) (n k : ℕ) → k < n → get_or (tabulate g n) k 0 ≡ g k
unfolding tabulate
tabulate-at g zero k h = absurd (omega arith)
tabulate-at g (suc n) zero h = refl
tabulate-at g (suc n) (suc k) h = tabulate-at (λ k. g (suc k)) n k (omega arith)

-- the rounds of a reading by hops, 0 to 16
abbrev pub table : List ℕ
table = 0 ∷ 0 ∷ 2 ∷ 3 ∷ 3 ∷ 4 ∷ 4 ∷ 4 ∷ 4 ∷ 5 ∷ 5 ∷ 5 ∷ 5 ∷ 5 ∷ 5 ∷ 5 ∷ 5 ∷ []

-- they are those of the plan, at words of 0 to 16 hops ..
pub table-rounds : tabulate (λ k. round (read (replicate k 0))) 17 ≡ table
unfolding tabulate round rounds tree tree_within half doubled front rest
table-rounds = refl

-- .. and so at every word of at most 16
pub table-round : (c : List ℕ) → length c ≤ 16 → round (read c) ≡ get_or table (length c) 0
table-round c h =
    round-length c (replicate (length c) 0) (sym (length-replicate (length c) 0))
    ∙ sym (tabulate-at (λ k. round (read (replicate k 0))) 17 (length c) (omega arith))
    ∙ rw table-rounds

-- the printed plan, A being field 0 and M field 8: Back(A) in round 1, Back(AA) in round 2, Read(AAM) in round 3
pub printed-plan : result ((0 ∷ 0 ∷ 8 ∷ []) ∷ []) ≡ (back (0 ∷ []), 1) ∷ (back (0 ∷ 0 ∷ []), 2) ∷ (read (0 ∷ 0 ∷ 8 ∷ []), 3) ∷ []
unfolding result round rounds plan add add_readings with_tree listed line_index same_fact same_word tree tree_within half doubled front rest
printed-plan = refl
