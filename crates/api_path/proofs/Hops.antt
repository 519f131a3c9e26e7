-- The hops of a path of the code, place by place.
use Prim.Native.Nat.{ℕ, zero, suc, ◌≤◌, ◌<◌}
use mathlib.Core.Path.{◌≡◌, refl, ap, ◌∙◌}
use mathlib.Core.List.{List, [], ◌∷◌, map}
use native.Mathlib.Omega.{arith}
use lib.ListN.{length, get_or, length-map, get_or-eq_default}
use Rattle.chain_path.specs.declared.Hop.{Hop}
use Rattle.chain_path.specs.declared.Path.{Path}
use Rattle.chain_path.specs.Path.{hops_of, HoldsPath}

-- what g makes of element i, whatever stands for what is not there
there : {A : Type 0} (g : Hop → A) (d : A) (e : Hop) (i : ℕ) (l : List Hop) → i < length l → g (get_or l i e) ≡ get_or (map g l) i d
there g d e i [] b = absurd (omega arith)
there g d e zero (h ∷ l) b = refl
there g d e (suc i) (h ∷ l) b = there g d e i l (omega arith)

pub hop-is : {A : Type 0} (g : Hop → A) (d : A) (e : Hop) (i : ℕ) {l hs : List Hop} → l ≡ hs → i < length l → g (get_or l i e) ≡ get_or (map g hs) i d
hop-is g d e i {l} same b = there g d e i l b ∙ ap (λ (hs : List Hop). get_or (map g hs) i d) same

-- behind the last hop
pub hop-behind : {A : Type 0} {p : Path} (g : Hop → A) (d : A) → HoldsPath p (hops_of p) → (i : ℕ) → length (hops_of p) ≤ i → get_or (map g (hops_of p)) i d ≡ d
hop-behind {p = p} g d h i b = get_or-eq_default (map g (hops_of p)) d {n = i} (simp length-map b)
