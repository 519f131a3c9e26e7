-- The laws of the place of a fact among lines.
use mathlib.Core.Path.{◌≡◌, refl, ap}
use mathlib.Core.Bool.{Bool, true, false, ◌&&◌}
use mathlib.Core.List.{List, [], ◌∷◌, ◌++◌}
use mathlib.Core.Logic.{⊎_elim}
use Prim.Native.Nat.{ℕ, zero, suc, ◌+◌, ◌≤◌, ◌<◌}
use native.Mathlib.Omega.{arith}
use lib.Dec.{eqb}
use lib.ListN.{length}
use borrow.Author.Tests.{eqb-true, eq-eqb}
use Rattle.plan_theory.specs.Plan.{Fact, back, read, same_word, same_fact, line_index, line}
use Rattle.laws.proofs.Cases.{true_or_false, lt_or_le}

both_true : (a b : Bool) → a && b ≡ true → (a ≡ true) × (b ≡ true)
both_true true b e = (refl, e)
both_true false b e = (e, cc)

same-word_refl : (w : List ℕ) → same_word w w ≡ true
unfolding same_word
same-word_refl [] = refl
same-word_refl (x ∷ w) = simp (eq-eqb x x refl, same-word_refl w)

same_refl : (f : Fact) → same_fact f f ≡ true
unfolding same_fact
same_refl (back w) = same-word_refl w
same_refl (read w) = same-word_refl w

same-word_eq : (w v : List ℕ) → same_word w v ≡ true → w ≡ v
unfolding same_word
same-word_eq [] [] e = refl
same-word_eq [] (y ∷ v) e = cc
same-word_eq (x ∷ w) [] e = cc
same-word_eq (x ∷ w) (y ∷ v) e =
    let (p, q) = both_true (eqb x y) (same_word w v) e in
    cc (eqb-true x y p, same-word_eq w v q)

same_eq : (f g : Fact) → same_fact f g ≡ true → f ≡ g
unfolding same_fact
same_eq (back w) (back v) e = ap back (same-word_eq w v e)
same_eq (back w) (read v) e = cc
same_eq (read w) (back v) e = cc
same_eq (read w) (read v) e = ap read (same-word_eq w v e)

module _ (g : Fact) (l : List Fact) (f : Fact) where
  place_here : same_fact g f ≡ true → line_index (g ∷ l) f ≡ 0
  unfolding line_index
  place_here e = rw (e, line_index)

  place-there : same_fact g f ≡ false → line_index (g ∷ l) f ≡ suc (line_index l f)
  unfolding line_index
  place-there e = rw (e, line_index)

-- the line at a listed fact's place is that fact
pub place-line : (l : List Fact) (f : Fact) → line_index l f < length l → line l (line_index l f) ≡ f
place-line [] f h = absurd (omega arith)
place-line (g ∷ l) f h =
    ⊎_elim
    (λ e. rw (place_here g l f e) (same_eq g f e))
    (λ e. rw (place-there g l f e) (place-line l f (omega (arith, place-there g l f e))))
    (true_or_false (same_fact g f))

-- no place is behind the last line
pub place_le : (l : List Fact) (f : Fact) → line_index l f ≤ length l
unfolding line_index
place_le [] f = omega arith
place_le (g ∷ l) f =
    ⊎_elim (λ e. omega (arith, place_here g l f e)) (λ e. omega (arith, place-there g l f e, place_le l f)) (true_or_false (same_fact g f))

-- a fact's place is the first line that is that fact
pub place-first : (l : List Fact) (i : ℕ) → i < length l → line_index l (line l i) ≤ i
place-first [] i h = absurd (omega arith)
place-first (g ∷ l) zero h = omega (arith, place_here g l g (same_refl g))
place-first (g ∷ l) (suc i) h =
    let f = line l i in
    ⊎_elim
    (λ e. omega (arith, place_here g l f e))
    (λ e. omega (arith, place-there g l f e, place-first l i (omega arith)))
    (true_or_false (same_fact g f))

-- a listed fact keeps its place where lines are appended
pub place-append-listed : (l m : List Fact) (f : Fact) → line_index l f < length l → line_index (l ++ m) f ≡ line_index l f
place-append-listed [] m f h = absurd (omega arith)
place-append-listed (g ∷ l) m f h =
    ⊎_elim
    (λ e. cc (place_here g l f e, place_here g (l ++ m) f e))
    (λ e. cc (place-there g l f e, place-there g (l ++ m) f e, place-append-listed l m f (omega (arith, place-there g l f e))))
    (true_or_false (same_fact g f))

pub place-append-before : (l m : List Fact) (f : Fact) (i : ℕ) → i ≤ length l → line_index l f < i → line_index (l ++ m) f < i
place-append-before l m f i h p = omega (arith, place-append-listed l m f (omega arith))

-- one that is not has its place among the appended lines
pub place-append_new : (l m : List Fact) (f : Fact) → length l ≤ line_index l f → line_index (l ++ m) f ≡ length l + line_index m f
place-append_new [] m f h = omega arith
place-append_new (g ∷ l) m f h =
    ⊎_elim
    (λ e. omega (arith, place_here g l f e))
    (λ e. omega (arith, place-there g l f e, place-there g (l ++ m) f e, place-append_new l m f (omega (arith, place-there g l f e))))
    (true_or_false (same_fact g f))

pub place-append-last : (l : List Fact) (f : Fact) → length l ≤ line_index l f → line_index (l ++ (f ∷ [])) f ≡ length l
place-append-last l f h = omega (arith, place-append_new l (f ∷ []) f h, place-first (f ∷ []) 0 (omega arith))

-- a search line by line: the line that is the fact is its place ..
pub place_at_lem : (l : List Fact) (f : Fact) (i : ℕ) → i < length l → i ≤ line_index l f → line l i ≡ f → line_index l f ≡ i
place_at_lem l f i h s e = omega (arith, rw e at (place-first l i h))

-- .. and one that is not leaves the search going
pub place-past : (l : List Fact) (f : Fact) (i : ℕ) → i < length l → i ≤ line_index l f → (line l i ≡ f → ⊥) → i < line_index l f
place-past l f i h s n =
    ⊎_elim (λ p. p) (λ p. absurd (n (let e : line_index l f ≡ i = omega arith in rw e at (place-line l f (omega arith))))) (lt_or_le i (line_index l f))
