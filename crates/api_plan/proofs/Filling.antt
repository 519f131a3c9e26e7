-- The arrays of a plan's lines, place by place.
use Prim.Native.Nat.{ℕ, zero, suc, ◌+◌, ◌-◌, ◌*◌, ◌/◌, ◌%◌, ◌≤◌, ◌<◌}
use mathlib.Core.Path.{◌≡◌, refl, sym, ap, ◌∙◌}
use mathlib.Core.Logic.{⊎_elim}
use mathlib.Core.List.{List, [], ◌∷◌, map}
use native.Mathlib.Omega.{arith}
use borrow.Author.Count.{below_none, below_more}
use borrow.Author.Tests.{lt-ltb, le-ltb}
use lib.ListN.{length, get_or, set, take, drop, replicate, length-map, length-set, length-replicate, get_or-map, get_or-eq_default}
use lib.Seq.{get_or-take, get_or-set_same, get_or-set_other}
use Rattle.chain.specs.Word.{is_reference, unpack, unpack_within, FirstHop}
use Rattle.chain.proofs.Packing.{unpack-none}
use Rattle.plan_theory.specs.Plan.{Fact, read, word, round, rounds, tree, tree_within}
use Rattle.laws.proofs.Cases.{lt_or_le}
use Rattle.plan_keys.specs.Keys.{fact_of}
use Rattle.plan_lines.specs.Held.{facts_in, facts, HoldsLines}
use Rattle.plan_lines.specs.declared.Plan.{Plan}
use Rattle.plan_lines.proofs.Appending.{holds_count}
use Rattle.api_plan.specs.PlanArrays.{kind_number, letter_of, kind_at, letters_at, letter_at, round_at, PlacesHold, plan_lines}

-- the first i of n places hold the values of g, and those behind them d
pub record Progress {A : Type 0} (d : A) (g : ℕ → A) (n i : ℕ) (xs : List A) : Type 0 where
  pub places : length xs ≡ n
  pub filled : PlacesHold d g i xs
  pub cleared : (k : ℕ) → i ≤ k → get_or xs k d ≡ d

pub cleared_all : {A : Type 0} (d : A) (n k : ℕ) → get_or (replicate n d) k d ≡ d
cleared_all d zero k = refl
cleared_all d (suc n) zero = refl
cleared_all d (suc n) (suc k) = cleared_all d n k

module _ {A : Type 0} {d : A} {g : ℕ → A} {n : ℕ} where
  pub progress_none : Progress d g n 0 (replicate n d)
  progress_none = record { places = length-replicate n d; filled = below_none _; cleared = λ k l. cleared_all d n k }

  pub progress_next : {i : ℕ} {v : A} {xs : List A} → Progress d g n i xs → i < n → v ≡ g i → Progress d g n (i + 1) (set xs i v)
  progress_next {i} {v} {xs} p h e =
      let l : i < length xs = omega (arith, p.places) in
      record {
        places = simp length-set p.places;
        filled = below_more _ i (λ k b. get_or-set_other xs i k v d (λ q. omega arith) ∙ p.filled k b) (get_or-set_same xs i v d l ∙ e);
        cleared = λ k b. get_or-set_other xs i k v d (λ q. omega arith) ∙ p.cleared k (omega arith);
      }

  pub progress_all : {i : ℕ} {xs : List A} → Progress d g n i xs → ((k : ℕ) → i ≤ k → g k ≡ d) → PlacesHold d g n xs
  progress_all {i} p z k b = ⊎_elim (λ l. p.filled k l) (λ l. p.cleared k l ∙ sym (z k l)) (lt_or_le k i)

-- the letter of a field
pub letter_reference : (f : ℕ) → f < 8 → 65 + f ≡ letter_of f
unfolding letter_of is_reference
letter_reference f h = rw (lt-ltb f 8 h)

pub letter_measure : (f : ℕ) → 8 ≤ f → 77 + (f - 8) ≡ letter_of f
unfolding letter_of is_reference
letter_measure f h = rw (le-ltb f 8 h) (omega arith)

-- the letter of hop h is that of the first hop behind h hops
first-behind : (w : List ℕ) (h : ℕ) → get_or (map letter_of (drop h w)) 0 0 ≡ get_or (map letter_of w) h 0
first-behind w zero = refl
first-behind [] (suc h) = refl
first-behind (f ∷ w) (suc h) = first-behind w h

module _ (chain hop rest : ℕ) (e : unpack rest ≡ drop hop (unpack chain)) where
  letter-first : (w : List ℕ) → unpack rest ≡ w → get_or (map letter_of w) 0 0 ≡ get_or (map letter_of (unpack chain)) hop 0
  letter-first w q = ap (λ (v : List ℕ). get_or (map letter_of v) 0 0) (sym q ∙ e) ∙ first-behind (unpack chain) hop

  pub letter-none : rest ≡ 0 → 0 ≡ get_or (map letter_of (unpack chain)) hop 0
  letter-none z = letter-first [] (ap unpack z ∙ unpack-none)

  pub letter-some : {f : ℕ} → FirstHop f (unpack rest) → letter_of f ≡ get_or (map letter_of (unpack chain)) hop 0
  letter-some h = letter-first _ h.splits

module _ (p : Plan) (h : HoldsLines p (facts p)) where
  -- what v makes of line i; behind the last line, of f
  line-value : {A : Type 0} (v : Fact × ℕ → A) (f : Fact) (i : ℕ)
      → get_or (map v (plan_lines p)) i (v (f, round f)) ≡ v (get_or (facts p) i f, round (get_or (facts p) i f))
  line-value v f i = get_or-map v (plan_lines p) i (f, round f) ∙ ap v (get_or-map (λ f. (f, round f)) (facts p) i f)

  -- key 0 is Back of no hop
  fact-value : {A : Type 0} (v : Fact → A) (i : ℕ) → i < p.count
      → v (fact_of (get_or p.keys i 0)) ≡ get_or (map (λ (l : Fact × ℕ). v l.0) (plan_lines p)) i (v (fact_of 0))
  unfolding facts_in
  fact-value v i l =
      let e = get_or-map fact_of (take p.count p.keys) i 0 ∙ ap fact_of (get_or-take p.count p.keys i 0 l) in
      sym (line-value (λ (l : Fact × ℕ). v l.0) (fact_of 0) i ∙ ap v e)

  pub kind-value : (i : ℕ) → i < p.count → kind_number (fact_of (get_or p.keys i 0)) ≡ kind_at (plan_lines p) i
  unfolding kind_at kind_number fact_of
  kind-value = fact-value kind_number

  pub letter-value : (k chain : ℕ) → k < 16 * p.count → unpack chain ≡ word (fact_of (get_or p.keys (k / 16) 0))
      → get_or (map letter_of (unpack chain)) (k % 16) 0 ≡ letter_at (plan_lines p) k
  unfolding letter_at letters_at fact_of unpack unpack_within
  letter-value k chain l e =
      ap (λ (w : List ℕ). get_or w (k % 16) 0) (ap (map letter_of) e ∙ fact-value (λ f. map letter_of (word f)) (k / 16) (omega arith))

  pub round-value : (i : ℕ) → i < p.count → get_or p.rounds i 0 ≡ round_at (plan_lines p) i
  unfolding round_at round rounds tree tree_within
  round-value i l = h.rounds_are.entry i (omega (arith, holds_count h)) ∙ sym (line-value (λ l. l.1) (read []) i)

  -- behind the last line
  behind : {A : Type 0} (v : Fact × ℕ → A) (d : A) (i : ℕ) → p.count ≤ i → get_or (map v (plan_lines p)) i d ≡ d
  behind v d i l = get_or-eq_default (map v (plan_lines p)) d {n = i} (simp length-map (omega (arith, holds_count h)))

  pub kind-behind : (i : ℕ) → p.count ≤ i → kind_at (plan_lines p) i ≡ 0
  unfolding kind_at
  kind-behind = behind _ 0

  pub letter-behind : (k : ℕ) → 16 * p.count ≤ k → letter_at (plan_lines p) k ≡ 0
  unfolding letter_at letters_at
  letter-behind k l = ap (λ (w : List ℕ). get_or w (k % 16) 0) (behind _ [] (k / 16) (omega arith))

  pub round-behind : (i : ℕ) → p.count ≤ i → round_at (plan_lines p) i ≡ 0
  unfolding round_at
  round-behind = behind _ 0
