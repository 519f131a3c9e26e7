-- Every line of a plan can be followed where the readings can: all hops before a word's last are references.
use Prim.Native.Nat.{ℕ, zero, suc, ◌≤◌, ◌<◌}
use mathlib.Core.Path.{◌≡◌, refl}
use mathlib.Core.Bool.{Bool, true}
use mathlib.Core.List.{List, [], ◌∷◌, Memᴰ}
use native.Mathlib.Omega.{arith}
use lib.Dec.{ltb}
use lib.ListN.{length, take, drop}
use Rattle.laws.proofs.Bools.{and_both}
use Rattle.register.specs.declared.Sizes.{Sizes}
use Rattle.chain.specs.Word.{has_field, readable}
use Rattle.laws.specs.Lists.{every}
use Rattle.plan_theory.specs.Plan.{Fact, back, read, hops, half, front, rest, back_need, read_need}
use Rattle.plan_theory.proofs.Half.{half-below}
use Rattle.plan_theory.specs.Promise.{Needed, itself, by_back, by_read, Wanted}

-- every hop is a reference of the register
abbrev pub referring : Sizes → List ℕ → Bool
referring s w = every (λ f. ltb f s.references) w

-- the word of a Read can be followed, and that of a Back leads from record to record
abbrev pub Follows : Sizes → Fact → Type 0
Follows s (back w) = referring s w ≡ true
Follows s (read w) = readable s w ≡ true

module _ (s : Sizes) where
  -- without its first hops
  readable-drop : (k : ℕ) (w : List ℕ) → readable s w ≡ true → readable s (drop k w) ≡ true
  unfolding readable
  readable-drop zero w h = h
  readable-drop (suc k) [] h = refl
  readable-drop (suc k) (f ∷ []) h = readable-drop k [] refl
  readable-drop (suc k) (f ∷ g ∷ w) h = readable-drop k (g ∷ w) (and_both (ltb f s.references) (readable s (g ∷ w)) h).1

  -- without its last hop or more
  readable-take : (k : ℕ) (w : List ℕ) → readable s w ≡ true → k < length w → referring s (take k w) ≡ true
  unfolding readable every
  readable-take zero w h l = refl
  readable-take (suc k) [] h l = absurd (omega arith)
  readable-take (suc k) (f ∷ []) h l = absurd (omega arith)
  readable-take (suc k) (f ∷ g ∷ w) h l =
      let (a, b) = and_both (ltb f s.references) (readable s (g ∷ w)) h in
      rw (a, readable-take k (g ∷ w) b (omega arith)) refl

  referring-take : (k : ℕ) (w : List ℕ) → referring s w ≡ true → referring s (take k w) ≡ true
  unfolding every
  referring-take zero w h = refl
  referring-take (suc k) [] h = refl
  referring-take (suc k) (f ∷ w) h =
      let (a, b) = and_both (ltb f s.references) (referring s w) h in
      rw (a, referring-take k w b) refl

  pub referring-readable : (w : List ℕ) → referring s w ≡ true → readable s w ≡ true
  unfolding readable every has_field
  referring-readable [] h = refl
  referring-readable (f ∷ []) h = rw (and_both (ltb f s.references) true h).0 refl
  referring-readable (f ∷ g ∷ w) h =
      let (a, b) = and_both (ltb f s.references) (referring s (g ∷ w)) h in
      rw (a, referring-readable (g ∷ w) b) refl

  -- the two needs of a line
  pub back_follows : (f : Fact) → 2 ≤ hops f → Follows s f → Follows s (back_need f)
  unfolding front
  back_follows (back w) l h = referring-take (half (length w)) w h
  back_follows (read w) l h = readable-take (half (length w)) w h (half-below (length w) l)

  pub read-follows : (f : Fact) → Follows s f → Follows s (read_need f)
  unfolding rest
  read-follows (back w) h = readable-drop (half (length w)) w (referring-readable w h)
  read-follows (read w) h = readable-drop (half (length w)) w h

  needed-follows : {f g : Fact} → Needed f g → Follows s f → Follows s g
  needed-follows (itself f) h = h
  needed-follows (by_back {f} l n) h = needed-follows n (back_follows f l h)
  needed-follows (by_read {f} l n) h = needed-follows n (read-follows f h)

  -- a line that is wanted for one of the readings
  pub wanted-follows : {ws : List (List ℕ)} {g : Fact} → ((w : List ℕ) → Memᴰ w ws → readable s w ≡ true) → Wanted ws g → Follows s g
  wanted-follows each x = needed-follows x.needed (each x.reading x.among)
