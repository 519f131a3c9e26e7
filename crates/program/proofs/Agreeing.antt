-- What holds of the terms of a rule, and codes that agree below a place: rules whose codes stand there are the same.
use Prim.Native.Nat.{ℕ, ◌-◌, ◌≤◌, ◌<◌}
use mathlib.Core.Path.{◌≡◌, refl, ap, ap₂, subst}
use mathlib.Core.List.{List}
use native.Mathlib.Omega.{arith}
use Rattle.program.specs.declared.term.Term.{Term}
use Rattle.program.specs.declared.term.Term.TheVariants.{Chain, Number, Tree}
use Rattle.program.specs.declared.rule.Test.{Test}
use Rattle.program.specs.declared.rule.Test.TheVariants.{Always, When}
use Rattle.program.specs.declared.rule.Rule.{Rule}
use Rattle.program.specs.declared.rule.Rule.TheVariants.{Set, Combine, Remote}
use Rattle.program.specs.declared.rule.Slot.{Slot}
use Rattle.program.specs.Program as P
use Rattle.program.specs.Code.{decoded, Formed, code_of, code_at, codes_in, tree_in, SameBelow}
use Rattle.program.specs.Stored.{term_in, test_in, expression_in, rule_in}
use Rattle.program.specs.Terms.{TestTerms, RuleTerms, SlotTerms, TermFrom, TermInside, TermFormed}
use Rattle.program.proofs.Codes.{codes_agree}

-- what holds of each term of a rule, from what held of it
module _ {P Q : Term → Type 0} (f : (x : Term) → P x → Q x) where
  pub test-map : (x : Test) → TestTerms P x → TestTerms Q x
  test-map Always h = tt
  test-map (When x c y) h = (f x h.0, f y h.1)

  pub rule-map : (x : Rule) → RuleTerms P x → RuleTerms Q x
  rule-map (Set g x) h = f x h
  rule-map (Combine g op x y) h = (f x h.0, f y h.1)
  rule-map (Remote sort g c x) h = f x h

  pub slot_map : (x : Slot) → SlotTerms P x → SlotTerms Q x
  slot_map x h = (test-map x.test h.0, rule-map x.rule h.1)

-- and from two things that held
module _ (P Q : Term → Type 0) where
  pub test-both : (x : Test) → TestTerms P x → TestTerms Q x → TestTerms (λ t. P t × Q t) x
  test-both Always h k = tt
  test-both (When x c y) h k = ((h.0, k.0), (h.1, k.1))

  rule-both : (x : Rule) → RuleTerms P x → RuleTerms Q x → RuleTerms (λ t. P t × Q t) x
  rule-both (Set g x) h k = (h, k)
  rule-both (Combine g op x y) h k = ((h.0, k.0), (h.1, k.1))
  rule-both (Remote sort g c x) h k = (h, k)

  pub slot-both : (x : Slot) → SlotTerms P x → SlotTerms Q x → SlotTerms (λ t. P t × Q t) x
  slot-both x h k = (test-both x.test h.0 k.0, rule-both x.rule h.1 k.1)

-- codes that stand before a place stand before a later one, and those behind a place behind an earlier one
pub inside-more : {n m : ℕ} → n ≤ m → (x : Term) → TermInside n x → TermInside m x
inside-more l (Chain c) h = tt
inside-more l (Number z) h = tt
inside-more l (Tree from to) h = omega (arith, l, h)

pub from_less : {m n : ℕ} → m ≤ n → (x : Term) → TermFrom n x → TermFrom m x
from_less l (Chain c) h = tt
from_less l (Number z) h = tt
from_less l (Tree from to) h = omega (arith, l, h)

-- codes that are the same below a place, wherever their chains are found
module _ (codes codes' : List ℕ) {n : ℕ} (alike : (i : ℕ) → i < n → code_at codes i ≡ code_at codes' i) where
  codes-alike : (from to : ℕ) → to ≤ n → codes_in codes from to ≡ codes_in codes' from to
  codes-alike from to h = codes_agree codes codes' from (to - from) (λ j l b. alike j (omega (arith, h, l, b)))

  term_alike : (x : Term) → TermInside n x → term_in codes x ≡ term_in codes' x
  unfolding term_in tree_in
  term_alike (Chain c) h = refl
  term_alike (Number z) h = refl
  term_alike (Tree from to) h = ap decoded (codes-alike from to h)

  pub formed-alike : (x : Term) → TermInside n x → TermFormed codes x → TermFormed codes' x
  formed-alike (Chain c) h f = tt
  formed-alike (Number z) h f = tt
  formed-alike (Tree from to) h f = record { formed = subst Formed (codes-alike from to h) f.formed; some = f.some }

  test-alike : (x : Test) → TestTerms (TermInside n) x → test_in codes x ≡ test_in codes' x
  unfolding test_in
  test-alike Always h = refl
  test-alike (When x c y) h = ap₂ (λ (u v : P.Expression). P.when u c v) (term_alike x h.0) (term_alike y h.1)

  expression-alike : (x : Rule) → RuleTerms (TermInside n) x → expression_in codes x ≡ expression_in codes' x
  unfolding expression_in
  expression-alike (Set f x) h = term_alike x h
  expression-alike (Combine f op x y) h = ap₂ (P.operation op) (term_alike x h.0) (term_alike y h.1)
  expression-alike (Remote sort f c x) h = term_alike x h

  pub rule-alike : (x : Slot) → SlotTerms (TermInside n) x → rule_in codes x ≡ rule_in codes' x
  unfolding rule_in
  rule-alike x h = rw (test-alike x.test h.0, expression-alike x.rule h.1)

-- codes that are the same there
module _ (codes codes' : List ℕ) {n : ℕ} (same : SameBelow codes codes' n) where
  pub alike : (i : ℕ) → i < n → code_at codes i ≡ code_at codes' i
  unfolding code_at
  alike i l = ap code_of (same i l)

  pub term_same : (x : Term) → TermInside n x → term_in codes x ≡ term_in codes' x
  term_same = term_alike codes codes' alike

  pub formed-same : (x : Term) → TermInside n x → TermFormed codes x → TermFormed codes' x
  formed-same = formed-alike codes codes' alike

  pub test-same : (x : Test) → TestTerms (TermInside n) x → test_in codes x ≡ test_in codes' x
  test-same = test-alike codes codes' alike
