-- Laws on lists of which each element holds something.
use Prim.Native.Nat.{ℕ}
use mathlib.Core.Path.{◌≡◌, refl, sym, ap, subst, ◌∙◌}
use mathlib.Core.Bool.{Bool, true}
use mathlib.Core.List.{List, [], ◌∷◌, ◌++◌, map, Memᴰ}
use Rattle.laws.specs.Lists.{Each, every}
use Rattle.laws.proofs.Bools.{and_both, and-true}

-- two lists as one
pub each_append : {A : Type 0} (P : A → Type 0) (l m : List A) → Each P l → Each P m → Each P (l ++ m)
each_append P [] m h k = k
each_append P (a ∷ l) m h k = (h.0, each_append P l m h.1 k)

pub each_front : {A : Type 0} (P : A → Type 0) (l m : List A) → Each P (l ++ m) → Each P l
each_front P [] m h = tt
each_front P (a ∷ l) m h = (h.0, each_front P l m h.1)

pub each_back : {A : Type 0} (P : A → Type 0) (l m : List A) → Each P (l ++ m) → Each P m
each_back P [] m h = h
each_back P (a ∷ l) m h = each_back P l m h.1

-- each of a list, by its members
pub each_all : {A : Type 0} (P : A → Type 0) (l : List A) → ((a : A) → Memᴰ a l → P a) → Each P l
each_all P [] h = tt
each_all P (a ∷ l) h = (h a (Memᴰ.head refl), each_all P l (λ b m. h b (Memᴰ.tail m)))

-- a member of a list, in its image
pub mem_map : {A B : Type 0} (f : A → B) {a : A} {l : List A} → Memᴰ a l → Memᴰ (f a) (map f l)
mem_map f (Memᴰ.head e) = Memᴰ.head (ap f e)
mem_map f (Memᴰ.tail m) = Memᴰ.tail (mem_map f m)

-- one of a list
pub each_of : {A : Type 0} (P : A → Type 0) {a : A} {l : List A} → Each P l → Memᴰ a l → P a
each_of P h (Memᴰ.head e) = subst P (sym e) h.0
each_of P h (Memᴰ.tail m) = each_of P h.1 m

pub every_append : (p : ℕ → Bool) (v w : List ℕ) → every p v ≡ true → every p w ≡ true → every p (v ++ w) ≡ true
unfolding every
every_append p [] w hv hw = hw
every_append p (a ∷ v) w hv hw = let both = and_both (p a) (every p v) hv in sym (and-true (every p (v ++ w)) both.0) ∙ every_append p v w both.1 hw
