-- The keys of lines: each has its fact and no other key has it.
use Prim.Native.Nat.{ℕ, ◌+◌, ◌*◌, ◌/◌, ◌%◌, ◌^◌, ◌≤◌, ◌<◌}
use mathlib.Core.Path.{◌≡◌, sym, ap, ◌∙◌}
use mathlib.Core.Logic.{◌⊎◌, inl, inr, ⊎_elim, ◌≢◌}
use native.Mathlib.Omega.{arith}
use borrow.Author.Tests.{eq-eqb, ne_eqb, lt-ltb, le-ltb, le-leb, lt-leb}
use lib.Dec.{ltb, leb}
use lib.ListN.{length}
use Rattle.chain.specs.Word.{pack, unpack}
use Rattle.chain.proofs.Packing.{pack-unpack}
use Rattle.plan_theory.specs.Plan.{back, read, word, hops, line_from, front as frontOf, rest as rest_of}
use Rattle.plan_theory.proofs.Facts.{back_need-shorter, read_need-shorter}
use Rattle.laws.proofs.Cases.{lt_or_le}
use Rattle.plan_keys.specs.Keys.{fact_of, kind}
use Rattle.plan_keys.specs.declared.key.Kind.TheVariants.{Back, Read}
use Rattle.plan_keys.proofs.Words.{hops-none, hops-one, hops-pos, hops-two, packed_small}

-- two tests that hold and fail together
same_test : (a b c d : ℕ) → (a < b → c ≤ d) → (b ≤ a → d < c) → ltb a b ≡ leb c d
same_test a b c d t f = ⊎_elim (λ l. lt-ltb a b l ∙ sym (le-leb c d (t l))) (λ l. le-ltb a b l ∙ sym (lt-leb c d (f l))) (lt_or_le a b)

module _ (k : ℕ) where
  pub fact_even : k % 2 ≡ 0 → fact_of k ≡ back (unpack (k / 2))
  unfolding fact_of
  fact_even e = rw (eq-eqb (k % 2) 0 e, fact_of)

  pub fact_odd : k % 2 ≢ 0 → fact_of k ≡ read (unpack (k / 2))
  unfolding fact_of
  fact_odd n = rw (ne_eqb (k % 2) 0 n, fact_of)

  even_or_odd : (k % 2 ≡ 0) ⊎ (k % 2 ≢ 0)
  even_or_odd = ⊎_elim (λ l. inl (omega arith)) (λ l. inr (λ e. omega arith)) (lt_or_le (k % 2) 1)

  pub kind_even : kind (fact_of k) ≡ Back → k % 2 ≡ 0
  kind_even e = ⊎_elim (λ p. p) (λ n. absurd (let z : Read ≡ Back = sym (ap kind (fact_odd n)) ∙ e in cc)) even_or_odd

  pub kind_odd : kind (fact_of k) ≡ Read → k % 2 ≢ 0
  kind_odd e p = let z : Back ≡ Read = sym (ap kind (fact_even p)) ∙ e in cc

  pub fact-word : word (fact_of k) ≡ unpack (k / 2)
  fact-word = ⊎_elim (λ e. ap word (fact_even e)) (λ n. ap word (fact_odd n)) even_or_odd

  -- from key 34 on a chain has two or more hops
  pub hops_long : 33 < k → 2 ≤ hops (fact_of k)
  hops_long h = rw fact-word (hops-two (k / 2) (omega arith))

  pub hops-short : k ≤ 33 → hops (fact_of k) < 2
  hops-short h =
      rw fact-word
      (⊎_elim
      (λ (l : k / 2 < 1). let e : k / 2 ≡ 0 = omega arith in rw e (omega (arith, hops-none)))
      (λ (l : 1 ≤ k / 2). omega (arith, hops-one (k / 2) l (omega arith)))
      (lt_or_le (k / 2) 1))

  -- the tests for a line of its own
  pub line_even : k % 2 ≡ 0 → ltb 1 k ≡ leb (line_from (fact_of k)) (hops (fact_of k))
  line_even e =
      rw (fact_even e)
      (same_test 1 k 1 (length (unpack (k / 2)))
      (λ (l : 1 < k). hops-pos (k / 2) (λ z. omega arith))
      (λ (l : k ≤ 1). let z : k / 2 ≡ 0 = omega arith in rw z (omega (arith, hops-none))))

  pub line_odd : k % 2 ≢ 0 → ltb 33 k ≡ leb (line_from (fact_of k)) (hops (fact_of k))
  line_odd n = rw (ap line_from (fact_odd n)) (same_test 33 k 2 (hops (fact_of k)) hops_long hops-short)

pub fact-back : (n : ℕ) → fact_of (2 * n) ≡ back (unpack n)
fact-back n = let e : 2 * n / 2 ≡ n = omega arith in fact_even (2 * n) (omega arith) ∙ ap (λ (m : ℕ). back (unpack m)) e

pub fact-read : (n : ℕ) → fact_of (2 * n + 1) ≡ read (unpack n)
fact-read n = let e : (2 * n + 1) / 2 ≡ n = omega arith in fact_odd (2 * n + 1) (λ z. omega arith) ∙ ap (λ (m : ℕ). read (unpack m)) e

-- the two parts of a fact of at most 16 hops are packed into numbers that leave room for a key
pub front_small : (k n : ℕ) → (2 ≤ hops (fact_of k)) × (hops (fact_of k) ≤ 16) → unpack n ≡ frontOf (unpack (k / 2)) → n + 5 ≤ 5 * 8 ^ 16
front_small k n h e = packed_small n 16 (omega (arith, ap length (e ∙ ap frontOf (sym (fact-word k))), back_need-shorter (fact_of k) h.0, h.1))

pub rest_small : (k n : ℕ) → (2 ≤ hops (fact_of k)) × (hops (fact_of k) ≤ 16) → unpack n ≡ rest_of (unpack (k / 2)) → n + 5 ≤ 5 * 8 ^ 16
rest_small k n h e = packed_small n 16 (omega (arith, ap length (e ∙ ap rest_of (sym (fact-word k))), read_need-shorter (fact_of k) h.0, h.1))

unpack_injective : (m n : ℕ) → unpack m ≡ unpack n → m ≡ n
unpack_injective m n e = sym (pack-unpack m) ∙ ap pack e ∙ pack-unpack n

pub fact_injective : (j k : ℕ) → fact_of j ≡ fact_of k → j ≡ k
fact_injective j k e =
    let whole : word (fact_of j) ≡ word (fact_of k) = ap word e in
    let halves : j / 2 ≡ k / 2 = unpack_injective _ _ (sym (fact-word j) ∙ whole ∙ fact-word k) in
    ⊎_elim
    (λ a. ⊎_elim (λ b. omega arith) (λ b. absurd (let z : ◌≡◌ {A = ℕ} 0 1 = cc (fact_even j a, fact_odd k b) in omega arith)) (even_or_odd k))
    (λ a. ⊎_elim (λ b. absurd (let z : ◌≡◌ {A = ℕ} 0 1 = cc (fact_odd j a, fact_even k b) in omega arith)) (λ b. omega arith) (even_or_odd k))
    (even_or_odd j)
