-- The longest front of a list whose elements all pass a test, and what stands behind it.
use Prim.Native.Nat.{ℕ, ◌+◌, ◌≤◌, ◌<◌}
use mathlib.Core.Path.{◌≡◌, refl, sym, ap, ap₂, ◌∙◌}
use mathlib.Core.Bool.{Bool, true, false, cond}
use mathlib.Core.List.{List, [], ◌∷◌, ◌++◌}
use native.Mathlib.Omega.{arith}
use native.Mathlib.Decide.{dec_lt}
use lib.ListN.{length, get_or, drop, length-append, drop_of_length-le}
use lib.Seq.{drop-cons, drop-drop}
use Rattle.laws.proofs.Bools.{and_both, and-true, true_false}
use Rattle.laws.specs.Lists.{every}
use Rattle.chain_text.proofs.Scanning.{first-at}
use Rattle.text_numerals.specs.Span.{starts, span}

module _ (p : ℕ → Bool) where
  -- the test at a place of the list
  module _ (t : List ℕ) (at : ℕ) where
    pub starts-within : at < length t → starts p (drop at t) ≡ p (get_or t at 0)
    unfolding starts
    starts-within h = rw (drop-cons t at 0)

    pub starts-past : length t ≤ at → starts p (drop at t) ≡ false
    unfolding starts
    starts-past h = rw (drop_of_length-le t h)

    pub starts-inside : starts p (drop at t) ≡ true → at < length t
    starts-inside h = go (dec_lt at (length t))
      where
        go : Dec (at < length t) → at < length t
        go (yes l) = l
        go (no l) = true_false h (starts-past (omega arith))

    pub starts-here : starts p (drop at t) ≡ true → p (get_or t at 0) ≡ true
    starts-here h = sym (starts-within (starts-inside h)) ∙ h

  -- one element and those behind it, or none
  pub span_more : (t : List ℕ) → starts p t ≡ true → span p t ≡ get_or t 0 0 ∷ span p (drop 1 t)
  unfolding starts span
  span_more [] h = true_false h refl
  span_more (a ∷ t) h = simp h

  pub span_none : (t : List ℕ) → starts p t ≡ false → span p t ≡ []
  unfolding starts span
  span_none [] h = refl
  span_none (a ∷ t) h = simp h

  pub span-more-at : (t : List ℕ) (i : ℕ) → starts p (drop i t) ≡ true → span p (drop i t) ≡ get_or t i 0 ∷ span p (drop (i + 1) t)
  span-more-at t i h = span_more (drop i t) h ∙ ap₂ (λ (a : ℕ) (r : List ℕ). a ∷ span p r) (first-at t i) (drop-drop 1 i t)

  -- a list is its front and what stands behind it
  pub span-text : (t : List ℕ) → t ≡ span p t ++ drop (length (span p t)) t
  unfolding span
  span-text [] = refl
  span-text (a ∷ t) = go (span-text t) (p a)
    where
      go : t ≡ span p t ++ drop (length (span p t)) t → (x : Bool) → a ∷ t ≡ cond x (a ∷ span p t) [] ++ drop (length (cond x (a ∷ span p t) [])) (a ∷ t)
      go ih true = ap (λ (l : List ℕ). a ∷ l) ih
      go ih false = refl

  pub span-every : (t : List ℕ) → every p (span p t) ≡ true
  unfolding span every
  span-every [] = refl
  span-every (a ∷ t) = go (span-every t) (p a) refl
    where
      go : every p (span p t) ≡ true → (x : Bool) → p a ≡ x → every p (cond x (a ∷ span p t) []) ≡ true
      go ih true h = sym (and-true (every p (span p t)) h) ∙ ih
      go ih false h = refl

  pub span-behind : (t : List ℕ) → starts p (drop (length (span p t)) t) ≡ false
  unfolding span starts
  span-behind [] = refl
  span-behind (a ∷ t) = go (span-behind t) (p a) refl
    where
      go : starts p (drop (length (span p t)) t) ≡ false → (x : Bool) → p a ≡ x → starts p (drop (length (cond x (a ∷ span p t) [])) (a ∷ t)) ≡ false
      go ih true h = ih
      go ih false h = h

  pub span-bound : (t : List ℕ) → length (span p t) ≤ length t
  span-bound t = omega (arith, simp length-append at (ap length (span-text t)))

  -- elements that pass are the front, where none follows
  pub span-append : (s r : List ℕ) → every p s ≡ true → span p r ≡ [] → span p (s ++ r) ≡ s
  unfolding span every
  span-append [] r h e = e
  span-append (a ∷ s) r h e =
      let both = and_both (p a) (every p s) h in
      ap (λ (x : Bool). cond x (a ∷ span p (s ++ r)) []) both.0 ∙ ap (λ (l : List ℕ). a ∷ l) (span-append s r both.1 e)

  -- elements that pass do so in both parts
  pub every-parts : (s r : List ℕ) → every p (s ++ r) ≡ true → (every p s ≡ true) × (every p r ≡ true)
  unfolding every
  every-parts [] r h = (refl, h)
  every-parts (a ∷ s) r h =
      let both = and_both (p a) (every p (s ++ r)) h in
      let parts = every-parts s r both.1 in
      (sym (and-true (every p s) both.0) ∙ parts.0, parts.1)

  -- a loop over the front: from place i on it ends where it ends from its beginning on
  pub record Onward (t : List ℕ) (at i : ℕ) : Type 0 where
    pub inside : i ≤ length t
    pub place : i + length (span p (drop i t)) ≡ at + length (span p (drop at t))

  pub onward_more : {t : List ℕ} {at i : ℕ} → Onward t at i → starts p (drop i t) ≡ true → Onward t at (i + 1)
  onward_more {t} {at} {i} w h = record { inside = omega (arith, starts-inside t i h); place = omega (arith, w.place, ap length (span-more-at t i h)) }

  pub onward_end : {t : List ℕ} {at i : ℕ} → Onward t at i → starts p (drop i t) ≡ false → i ≡ at + length (span p (drop at t))
  onward_end {t} {at} {i} w h = omega (arith, w.place, ap length (span_none (drop i t) h))
