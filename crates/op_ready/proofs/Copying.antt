-- A list that is copied from the front.
use Prim.Native.Nat.{ℕ, ◌+◌, ◌≤◌, ◌<◌}
use mathlib.Core.Path.{◌≡◌, sym, ap, ◌∙◌}
use mathlib.Core.List.{List, [], ◌∷◌, ◌++◌}
use native.Mathlib.Omega.{arith}
use native.Mathlib.Numerals.{add-one}
use lib.ListN.{length, get_or, take, set}
use lib.Seq.{take-suc, take-suc-set, take_all}

-- one byte more
pub copied_more : (from to : List ℕ) (i : ℕ) → i < length from → i < length to → take i to ≡ take i from → take (i + 1) (set to i (get_or from i 0)) ≡ take (i + 1) from
copied_more from to i f t e =
    let x = get_or from i 0 in
    rw (add-one i) (take-suc-set to i x t ∙ ap (λ (l : List ℕ). l ++ (x ∷ [])) e ∙ sym (take-suc from i 0 f))

-- all of them
pub copied_all : (from to : List ℕ) (i : ℕ) → length from ≤ i → length to ≡ length from → take i to ≡ take i from → to ≡ from
copied_all from to i h n e = sym (take_all i to (omega arith)) ∙ e ∙ take_all i from h
