-- Plain terms: where they are found, and what they come to.
use Rattle.std.specs.Prelude.{Ok}
use Prim.Native.Nat.{ℕ}
use mathlib.Core.Path.{◌≡◌, refl}
use mathlib.Core.Bool.{true, false}
use mathlib.Core.List.{List, []}
use native.Mathlib.Omega.{arith}
use lib.IntN.{ℤ}
use Rattle.laws.proofs.Bools.{true_false, and_both}
use Rattle.register.specs.declared.Sizes.{Sizes}
use Rattle.register.specs.declared.cells.Cell.{Cell}
use Rattle.chain.specs.Reading.{Reading}
use Rattle.program.specs.declared.term.Term.{Term}
use Rattle.program.specs.declared.term.Term.TheVariants.{Chain, Number, Tree}
use Rattle.program.specs.declared.rule.Test.{Test}
use Rattle.program.specs.declared.rule.Test.TheVariants.{Always, When}
use Rattle.program.specs.declared.rule.Rule.{Rule}
use Rattle.program.specs.declared.rule.Rule.TheVariants.{Set, Combine, Remote}
use Rattle.program.specs.declared.location.Location.{Location}
use Rattle.program.specs.declared.location.Places.{Places}
use Rattle.program.specs.declared.location.Located.{Located}
use Rattle.program.specs.Stored.{term_in, test_in}
use Rattle.program.specs.Terms.{TermPlaced}
use Rattle.machine.specs.Value.{value, overflows}
use Rattle.machine.specs.Local.{test_overflows}
use Rattle.step_terms.specs.Found.{found_at, Reaches, Told, TermReaches, TestReaches, RuleReaches, SlotReaches}
use Rattle.step_operations.specs.Evaluated.{evaluated}
use Rattle.step_tests.specs.Plain.{is_plain, plain_test, plain_rule, plain_slot}

-- a plain term forms no sum
module _ (read : List ℕ → Reading) (k : List ℕ) where
  pub plain-formed : (x : Term) → is_plain x ≡ true → overflows read (term_in k x) ≡ false
  unfolding is_plain overflows term_in
  plain-formed (Chain c) h = refl
  plain-formed (Number z) h = refl
  plain-formed (Tree from to) h = true_false h refl

  pub plain-tested : (t : Test) → plain_test t ≡ true → test_overflows read (test_in k t) ≡ false
  unfolding plain_test test_overflows test_in
  plain-tested Always h = refl
  plain-tested (When x c y) h = let (a, b) = and_both (is_plain x) (is_plain y) h in simp (plain-formed x a, plain-formed y b)

  -- it comes to its value
  pub plain-evaluated : (x : Term) → is_plain x ≡ true → evaluated read (term_in k x) ≡ Ok (value read (term_in k x))
  unfolding evaluated
  plain-evaluated x h = simp (plain-formed x h)

module _ (s : Sizes) (values : List ℤ) (marks : List ℕ) (u : ℕ) where
  -- a plain term that is no number is a chain
  pub chain_reaches : (at : Location) (x : Term) → ((z : ℤ) → x ≡ Number z → ⊥) → TermReaches s values marks u [] at x → Reaches s values marks u at
  chain_reaches at (Chain c) t f = f
  chain_reaches at (Number z) t f = absurd (t z refl)
  chain_reaches at (Tree from to) t f = absurd (omega (arith, f.some, f.kept))

  pub chain_told : (cells : List Cell) (codes : List ℕ) (at : Location) (x : Term) → ((z : ℤ) → x ≡ Number z → ⊥) → TermReaches s values marks u [] at x
      → Told s cells values marks u (λ P. TermPlaced P codes at x) (λ read. found_at s cells values marks u at ≡ value read (term_in codes x))
  unfolding term_in value
  chain_told cells codes at (Chain c) t f read agrees = agrees
  chain_told cells codes at (Number z) t f read agrees = absurd (t z refl)
  chain_told cells codes at (Tree from to) t f read agrees = absurd (omega (arith, f.some, f.kept))

  -- what is found without codes is plain
  pub term_plain : (at : Location) (x : Term) → TermReaches s values marks u [] at x → is_plain x ≡ true
  unfolding is_plain
  term_plain at (Chain c) f = refl
  term_plain at (Number z) f = refl
  term_plain at (Tree from to) f = absurd (omega (arith, f.some, f.kept))

  pub test_plain : (p : Places) (t : Test) → TestReaches s values marks u [] p t → plain_test t ≡ true
  unfolding plain_test
  test_plain p Always f = refl
  test_plain p (When x c y) f = simp (term_plain p.first x f.0, term_plain p.second y f.1)

  pub rule-plain : (p : Places) (r : Rule) → RuleReaches s values marks u [] p r → plain_rule r ≡ true
  unfolding plain_rule
  rule-plain p (Set g x) f = term_plain p.first x f
  rule-plain p (Combine g op x y) f = simp (term_plain p.first x f.0, term_plain p.second y f.1)
  rule-plain p (Remote sort g c x) f = term_plain p.second x f.1

  -- a plain rule needs no codes
  module _ (codes : List ℕ) where
    plain_term : (at : Location) (x : Term) → is_plain x ≡ true → TermReaches s values marks u codes at x → TermReaches s values marks u [] at x
    unfolding is_plain
    plain_term at (Chain c) h f = f
    plain_term at (Number z) h f = f
    plain_term at (Tree from to) h f = true_false h refl

    plain-test : (p : Places) (t : Test) → plain_test t ≡ true → TestReaches s values marks u codes p t → TestReaches s values marks u [] p t
    unfolding plain_test
    plain-test p Always h f = f
    plain-test p (When x c y) h f =
        let (a, b) = and_both (is_plain x) (is_plain y) h in
        (plain_term p.first x a f.0, plain_term p.second y b f.1)

    plain-rule : (p : Places) (r : Rule) → plain_rule r ≡ true → RuleReaches s values marks u codes p r → RuleReaches s values marks u [] p r
    unfolding plain_rule
    plain-rule p (Set g x) h f = plain_term p.first x h f
    plain-rule p (Combine g op x y) h f =
        let (a, b) = and_both (is_plain x) (is_plain y) h in
        (plain_term p.first x a f.0, plain_term p.second y b f.1)
    plain-rule p (Remote sort g c x) h f = (f.0, plain_term p.second x h f.1)

    pub plain-reaches : (x : Located) → plain_slot x.slot ≡ true → SlotReaches s values marks u codes x → SlotReaches s values marks u [] x
    unfolding plain_slot
    plain-reaches x h f =
        let (a, b) = and_both (plain_test x.slot.test) (plain_rule x.slot.rule) h in
        record { test = plain-test x.at.test x.slot.test a f.test; rule = plain-rule x.at.rule x.slot.rule b f.rule }
