-- The last round, found line by line.
use Prim.Native.Nat.{ℕ, zero, suc, ◌+◌, ◌<◌, max}
use mathlib.Core.Path.{◌≡◌, ap, ◌∙◌}
use mathlib.Core.List.{List, [], ◌∷◌}
use native.Mathlib.Omega.{arith}
use native.Mathlib.Numerals.{add-one}
use lib.ListN.{length, get_or, take}
use lib.Seq.{take_all}
use Rattle.plan_theory.specs.Plan.{Fact, round, last_round, line}
use Rattle.plan_lines.specs.Held.{LineColumn, LastOf}

pub last-round-none : (l : List Fact) → last_round (take 0 l) ≡ 0
unfolding last_round
last-round-none l = omega arith

pub last-round-more : (l : List Fact) (i : ℕ) → i < length l → last_round (take (suc i) l) ≡ max (last_round (take i l)) (round (line l i))
unfolding last_round
last-round-more [] i h = absurd (omega arith)
last-round-more (f ∷ l) zero h = omega arith
last-round-more (f ∷ l) (suc i) h = omega (arith, last-round-more l i (omega arith))

-- the first i rounds, and one more
abbrev pub LastTo : List ℕ → ℕ → ℕ → ℕ → Type 0
LastTo rounds n i r = (l : List Fact) → length l ≡ n → LineColumn rounds l round → r ≡ last_round (take i l)

pub last-next : (rounds : List ℕ) (n r r' i : ℕ) → i < n → r' ≡ max r (get_or rounds i 0) → LastTo rounds n i r → LastTo rounds n (i + 1) r'
last-next rounds n r r' i b e h l k c =
    let j : i < length l = omega arith in
    rw add-one (omega (arith, last-round-more l i j, c.entry i j, h l k c))

pub last_all : (rounds : List ℕ) (n r i : ℕ) → i ≡ n → LastTo rounds n i r → LastOf rounds n r
last_all rounds n r i e h = record { last-is = λ l k c. h l k c ∙ ap last_round (take_all i l (omega arith)) }
