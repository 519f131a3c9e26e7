-- The most rounds of a step's readings: none of them has more, and its plan has as many.
use Prim.Native.Nat.{ℕ, ◌≤◌, ◌<◌}
use mathlib.Core.Path.{◌≡◌, ap, refl}
use mathlib.Core.List.{List, [], ◌∷◌, Memᴰ}
use mathlib.Core.Logic.{⊎_elim}
use native.Mathlib.Omega.{arith}
use lib.ListN.{length}
use Rattle.plan_theory.specs.Plan.{Fact, read, round, line_index, plan, last_round}
use Rattle.plan_theory.specs.Promise.{Needed, Promise}
use Rattle.laws.proofs.Cases.{lt_or_le}
use Rattle.plan_theory.proofs.Facts.{round-none, round-both, needed_ind}
use Rattle.plan_theory.proofs.Places.{place-line}
use Rattle.plan_theory.proofs.Kept.{plan-promise}
use Rattle.machine_messages.specs.Counts.{most_rounds}

-- each reading has at most as many
pub rounds-most : {w : List ℕ} {ws : List (List ℕ)} → Memᴰ w ws → round (read w) ≤ most_rounds ws
unfolding most_rounds
rounds-most (Memᴰ.head e) = omega (arith, ap (λ w. round (read w)) e)
rounds-most (Memᴰ.tail m) = omega (arith, rounds-most m)

-- and they are the least such number
most-within : (ws : List (List ℕ)) (n : ℕ) → ((w : List ℕ) → Memᴰ w ws → round (read w) ≤ n) → most_rounds ws ≤ n
unfolding most_rounds
most-within [] n h = omega arith
most-within (w ∷ ws) n h = omega (arith, h w (Memᴰ.head refl), most-within ws n (λ v m. h v (Memᴰ.tail m)))

-- what is needed for a fact has no later round
needed-round : {f g : Fact} → Needed f g → round g ≤ round f
needed-round {f} n = needed_ind (λ g. round g ≤ round f) (λ g h q. (omega (arith, round-both g h), omega (arith, round-both g h))) n (omega arith)

module _ {ws : List (List ℕ)} {l : List Fact} (p : Promise ws l) where
  -- a reading's Read line is one of the plan's lines, and where it has none it has no round
  reading-last : (w : List ℕ) → Memᴰ w ws → round (read w) ≤ last_round l
  reading-last w m =
      ⊎_elim
      (λ (h : length w < 2). omega (arith, round-none (read w) h))
      (λ (h : 2 ≤ length w).
      let b = p.has_reading m h in
      omega (arith, p.to_last (line_index l (read w)) b, ap round (place-line l (read w) b)))
      (lt_or_le (length w) 2)

  -- a line of the last round is needed for a reading
  last-most : 1 ≤ last_round l → last_round l ≤ most_rounds ws
  last-most h =
      let r = p.no_gap (last_round l) h (omega arith) in
      let x = p.wanted r.index r.index< in
      omega (arith, r.round_is, needed-round x.needed, rounds-most x.among)

-- the rounds that a step's plan takes
pub most-last : (ws : List (List ℕ)) → most_rounds ws ≡ last_round (plan ws)
most-last ws =
    let p = plan-promise ws in
    let up = most-within ws (last_round (plan ws)) (reading-last p) in
    ⊎_elim (λ h. omega arith) (λ h. omega (arith, last-most p h)) (lt_or_le (last_round (plan ws)) 1)
