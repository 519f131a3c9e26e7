-- A part of a list written to, and put back into the whole.
use Prim.Native.Nat.{ℕ, suc, ◌+◌, ◌-◌, ◌*◌, ◌≤◌, ◌<◌}
use mathlib.Core.Path.{◌≡◌, sym, ap, ◌∙◌}
use mathlib.Core.List.{List, [], ◌∷◌}
use native.Mathlib.Omega.{arith}
use native.Mathlib.Nat.{add-suc}
use borrow.Rule.Slice.PartMut.{mid_of, put_mid, put_same, set_mid_at, mid_len}
use lib.ListN.{length, take, drop, set, length-drop}
use lib.Seq.{sets, length-sets, take_all, take-set-le, take-set-lt, drop-set-lt, drop-set-add}

-- the part from a to the end
pub part_end : (a : ℕ) (xs : List ℕ) → take (length xs - a) (drop a xs) ≡ drop a xs
part_end a xs = take_all (length xs - a) (drop a xs) (omega (arith, length-drop a xs))

-- a run of stores in the part is the run of stores in the whole
pub sets_part : (a k j : ℕ) (xs vs : List ℕ) → j + length vs ≤ k → put_mid a k xs (sets (mid_of a k xs) j vs) ≡ sets xs (a + j) vs
sets_part a k j xs [] h = put_same a k xs
sets_part a k j xs (v ∷ vs) h =
    let ys : List ℕ = set xs (a + j) v in
    let mid : set (mid_of a k xs) j v ≡ mid_of a k ys =
    sym (ap (take k) (drop-set-add a xs j v) ∙ take-set-lt k (drop a xs) j v (omega arith)) in
    let before : take a ys ≡ take a xs = take-set-le a xs (a + j) v (omega arith) in
    let after : drop k (drop a ys) ≡ drop k (drop a xs) =
    ap (drop k) (drop-set-add a xs j v) ∙ drop-set-lt k (drop a xs) j v (omega arith) in
    ap (λ (l : List ℕ). put_mid a k xs (sets l (suc j) vs)) mid
    ∙ simp (← before, ← after) (sets_part a k (suc j) ys vs (omega arith))
    ∙ ap (λ (n : ℕ). sets ys n vs) (add-suc a j)

-- one store in the part from e to the end
abbrev pub end_set : ℕ → ℕ → ℕ → List ℕ → List ℕ
end_set e j v xs = put_mid e (length xs - e) xs (set (mid_of e (length xs - e) xs) j v)

set-end : (e j v : ℕ) (xs : List ℕ) → e + j < length xs → end_set e j v xs ≡ set xs (e + j) v
set-end e j v xs h = set_mid_at e (length xs - e) j xs v (rw (mid_len e (length xs) xs (omega arith)) (omega arith))

-- a run of stores in the part up to e, then one in the part from e on
pub stores : (e j v : ℕ) (xs vs ys : List ℕ) → 12 + 4 * j + length vs ≤ e → e + j < length xs → ys ≡ sets (mid_of 12 (e - 12) xs) (4 * j) vs
    → end_set e j v (put_mid 12 (e - 12) xs ys) ≡ set (sets xs (12 + 4 * j) vs) (e + j) v
stores e j v xs vs ys hv hm q =
    let whole : put_mid 12 (e - 12) xs ys ≡ sets xs (12 + 4 * j) vs = ap (put_mid 12 (e - 12) xs) q ∙ sets_part 12 (e - 12) (4 * j) xs vs (omega arith) in
    set-end e j v (put_mid 12 (e - 12) xs ys) (rw (whole, length-sets) hm) ∙ ap (λ (zs : List ℕ). set zs (e + j) v) whole
