-- A search through the keys of lines: where it ends is the place of the fact.
use Prim.Native.Nat.{ℕ, zero, suc, ◌≤◌, ◌<◌}
use mathlib.Core.Path.{◌≡◌, refl, sym, ap, ◌∙◌}
use mathlib.Core.List.{List, [], ◌∷◌, map}
use mathlib.Core.Logic.{◌≢◌, ⊎_elim}
use native.Mathlib.Omega.{arith}
use lib.ListN.{length, get_or, take, length-map}
use lib.Seq.{length-take-le, get_or-take}
use Rattle.std.specs.Prelude.{Some, None}
use Rattle.plan_theory.proofs.Lines.{listed-old, listed_new}
use Rattle.laws.proofs.Cases.{lt_or_le}
use Rattle.plan_theory.specs.Plan.{read, line_index, line}
use Rattle.plan_theory.specs.Promise.{Ordered}
use Rattle.plan_theory.proofs.Places.{place-line, place-first}
use Rattle.plan_keys.specs.Keys.{fact_of}
use Rattle.plan_lines.specs.Held.{facts_in, place}
use Rattle.plan_keys.proofs.Keys.{fact_injective}

get_d_map : {A B : Type 0} (f : A → B) (l : List A) (i : ℕ) (d : B) (e : A) → i < length l → get_or (map f l) i d ≡ f (get_or l i e)
get_d_map f [] i d e h = absurd (omega arith)
get_d_map f (x ∷ l) zero d e h = refl
get_d_map f (x ∷ l) (suc i) d e h = get_d_map f l i d e (omega arith)

-- a search for a key is one for its fact: from the first on, ..
pub place_first : (xs : List ℕ) (key i : ℕ) → i < length xs → get_or xs i 0 ≡ key → ((k : ℕ) → k < i → get_or xs k 0 ≢ key) → place (map fact_of xs) (fact_of key) ≡ Some i
unfolding place
place_first xs key i h e other =
    let l = map fact_of xs in
    let n = length-map xs fact_of in
    let at = line_index l (fact_of key) in
    let here : line l i ≡ fact_of key = get_d_map fact_of xs i (read []) 0 h ∙ ap fact_of e in
    let first : at ≤ i = rw here at (place-first l i (omega (arith, n))) in
    let same : at ≡ i =
    ⊎_elim
    (λ (b : at < i).
    absurd (other at b (fact_injective _ _ (sym (get_d_map fact_of xs at (read []) 0 (omega arith)) ∙ place-line l (fact_of key) (omega (arith, n))))))
    (λ b. omega arith)
    (lt_or_le at i) in
    rw (listed-old l (fact_of key) (omega (arith, same, n)), same) refl

-- .. from the last on, where each stands only once
pub place_last : (xs : List ℕ) (key i : ℕ) → Ordered (map fact_of xs) → i < length xs → get_or xs i 0 ≡ key → place (map fact_of xs) (fact_of key) ≡ Some i
unfolding place
place_last xs key i o h e =
    let l = map fact_of xs in
    let at : line l i ≡ fact_of key = get_d_map fact_of xs i (read []) 0 h ∙ ap fact_of e in
    let once : line_index l (fact_of key) ≡ i = rw at at (o i (omega (arith, length-map xs fact_of))).once in
    rw (listed-old l (fact_of key) (omega (arith, once, length-map xs fact_of)), once) refl

pub place_none : (xs : List ℕ) (key : ℕ) → ((i : ℕ) → i < length xs → get_or xs i 0 ≢ key) → place (map fact_of xs) (fact_of key) ≡ None
unfolding place
place_none xs key other =
    let l = map fact_of xs in
    let n = length-map xs fact_of in
    let at = line_index l (fact_of key) in
    let none : length l ≤ at =
    ⊎_elim
    (λ (h : at < length l).
    let b : at < length xs = omega (arith, n) in
    absurd (other at b (fact_injective _ _ (sym (get_d_map fact_of xs at (read []) 0 b) ∙ place-line l (fact_of key) h))))
    (λ h. h)
    (lt_or_le at (length l)) in
    rw (listed_new l (fact_of key) none) refl

module _ (keys : List ℕ) (n : ℕ) (within : n ≤ length keys) where
  pub facts-length : length (facts_in keys n) ≡ n
  unfolding facts_in
  facts-length = length-map (take n keys) fact_of ∙ length-take-le n keys within

  pub facts-line : (i : ℕ) → i < n → line (facts_in keys n) i ≡ fact_of (get_or keys i 0)
  unfolding facts_in
  facts-line i h = get_d_map fact_of (take n keys) i (read []) 0 (omega (arith, length-take-le n keys within)) ∙ ap fact_of (get_or-take n keys i 0 h)
