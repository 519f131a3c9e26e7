-- The words of a rule in the array, and a plan that grows by them as they are located in it.
use Rattle.std.specs.Prelude.{ℕ, List, [], ◌∷◌, ◌++◌}
use Rattle.chain.specs.Word.{unpack}
use Rattle.program.specs.declared.term.Term.{Term}
use Rattle.program.specs.declared.term.Term.TheVariants.{Chain, Number, Tree}
use Rattle.program.specs.declared.rule.Test.{Test}
use Rattle.program.specs.declared.rule.Test.TheVariants.{Always, When}
use Rattle.program.specs.declared.rule.Rule.{Rule}
use Rattle.program.specs.declared.rule.Rule.TheVariants.{Set, Combine, Remote}
use Rattle.program.specs.declared.rule.Slot.{Slot}
use Rattle.program.specs.declared.location.Location.{Location}
use Rattle.program.specs.declared.location.Places.{Places}
use Rattle.program.specs.declared.location.Locations.{Locations}
use Rattle.program.specs.Terms.{TestTerms, RuleTerms, SlotTerms, TermFrom, TermPlaced, TestPlaced, RulePlaced, SlotPlaced}
use Rattle.text_readings.specs.Readings.{code_words, WordPlaced, Walked}
use Rattle.text_readings.specs.declared.Open.{Open}

-- the hop words of a rule's chains, from left to right: "C standing for the remote target"
module _ (codes : List ℕ) where
  unfoldable pub term_words : Term → List (List ℕ)
  term_words (Chain c) = unpack c ∷ []
  term_words (Number z) = []
  term_words (Tree from to) = code_words codes from to

  unfoldable pub test_words : Test → List (List ℕ)
  test_words Always = []
  test_words (When x c y) = term_words x ++ term_words y

  unfoldable pub rule_words : Rule → List (List ℕ)
  rule_words (Set f x) = term_words x
  rule_words (Combine f op x y) = term_words x ++ term_words y
  rule_words (Remote sort f c x) = unpack c ∷ term_words x

  abbrev pub slot_words : Slot → List (List ℕ)
  slot_words x = test_words x.test ++ rule_words x.rule

-- they are added to the lines a, and found in the lines b that come of it
module _ (a : Open) (codes : List ℕ) (b : Open) (codes' : List ℕ) where
  abbrev pub TermWalked : Location → Term → Type 0
  TermWalked at x = Walked (term_words codes x) (λ n. TermFrom n x) (λ l z. TermPlaced (WordPlaced l) z at x) a codes b codes'

  abbrev pub TermsWalked : Places → Term → Term → Type 0
  TermsWalked at x y =
      Walked (term_words codes x ++ term_words codes y) (λ n. TermFrom n x × TermFrom n y)
      (λ l z. TermPlaced (WordPlaced l) z at.first x × TermPlaced (WordPlaced l) z at.second y) a codes b codes'

  abbrev pub TestWalked : Places → Test → Type 0
  TestWalked at x = Walked (test_words codes x) (λ n. TestTerms (TermFrom n) x) (λ l z. TestPlaced (WordPlaced l) z at x) a codes b codes'

  abbrev pub RuleWalked : Places → Rule → Type 0
  RuleWalked at x = Walked (rule_words codes x) (λ n. RuleTerms (TermFrom n) x) (λ l z. RulePlaced (WordPlaced l) z at x) a codes b codes'

  abbrev pub SlotWalked : Locations → Slot → Type 0
  SlotWalked at x =
      Walked (slot_words codes x) (λ n. SlotTerms (TermFrom n) x) (λ l z. SlotPlaced (WordPlaced l) z (record { slot = x; at = at })) a codes b codes'
