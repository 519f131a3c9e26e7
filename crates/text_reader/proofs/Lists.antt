-- Lists of which each element holds something: their parts, and what follows of each element.
use Prim.Native.Nat.{ℕ, zero, suc}
use mathlib.Core.Path.{◌≡◌, refl, ap₂}
use mathlib.Core.List.{List, [], ◌∷◌, map}
use lib.ListN.{take, drop, set, replicate}
use Rattle.laws.specs.Lists.{Each}

pub each_map : {A : Type 0} (P Q : A → Type 0) → ((a : A) → P a → Q a) → (l : List A) → Each P l → Each Q l
each_map P Q f [] h = tt
each_map P Q f (a ∷ l) h = (f a h.0, each_map P Q f l h.1)

pub each_both : {A : Type 0} (P Q R : A → Type 0) → ((a : A) → P a → Q a → R a) → (l : List A) → Each P l → Each Q l → Each R l
each_both P Q R f [] h k = tt
each_both P Q R f (a ∷ l) h k = (f a h.0 k.0, each_both P Q R f l h.1 k.1)

pub map_same : {A B : Type 0} (P : A → Type 0) {f g : A → B} → ((a : A) → P a → f a ≡ g a) → (l : List A) → Each P l → map f l ≡ map g l
map_same P e [] h = refl
map_same P e (a ∷ l) h = ap₂ (λ b bs. b ∷ bs) (e a h.0) (map_same P e l h.1)

module _ {A : Type 0} (P : A → Type 0) where
  pub each_take : (n : ℕ) (l : List A) → Each P l → Each P (take n l)
  each_take zero l h = tt
  each_take (suc n) [] h = tt
  each_take (suc n) (a ∷ l) h = (h.0, each_take n l h.1)

  pub each_drop : (n : ℕ) (l : List A) → Each P l → Each P (drop n l)
  each_drop zero l h = h
  each_drop (suc n) [] h = tt
  each_drop (suc n) (a ∷ l) h = each_drop n l h.1

  pub each_set : (l : List A) (i : ℕ) (a : A) → Each P l → P a → Each P (set l i a)
  each_set [] i a h p = tt
  each_set (b ∷ l) zero a h p = (p, h.1)
  each_set (b ∷ l) (suc i) a h p = (h.0, each_set l i a h.1 p)

  pub each_replicate : (n : ℕ) (a : A) → P a → Each P (replicate n a)
  each_replicate zero a p = tt
  each_replicate (suc n) a p = (p, each_replicate n a p)
