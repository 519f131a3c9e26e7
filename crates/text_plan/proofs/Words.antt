-- The words of a rule in the array: they are those of the codes, wherever their chains are found, and the readings of the rule.
use Prim.Native.Nat.{ℕ}
use mathlib.Core.Path.{◌≡◌, refl, ap, ap₂, ◌∙◌}
use mathlib.Core.List.{List, ◌∷◌, ◌++◌}
use Rattle.chain.specs.Word.{unpack}
use Rattle.program.specs.Code.{decoded, code_readings, code_at, codes_in, tree_in}
use Rattle.program.proofs.Codes.{postfix-readings}
use Rattle.program.specs.declared.term.Term.{Term}
use Rattle.program.specs.declared.term.Term.TheVariants.{Chain, Number, Tree}
use Rattle.program.specs.declared.rule.Test.{Test}
use Rattle.program.specs.declared.rule.Test.TheVariants.{Always, When}
use Rattle.program.specs.declared.rule.Rule.{Rule}
use Rattle.program.specs.declared.rule.Rule.TheVariants.{Set, Combine, Remote}
use Rattle.program.specs.declared.rule.Slot.{Slot}
use Rattle.program.specs.Program.{expression_readings, test_readings, target_readings, rule_readings}
use Rattle.program.specs.Stored.{term_in, test_in, target_in, expression_in, rule_in}
use Rattle.program.specs.Terms.{TestTerms, RuleTerms, SlotTerms, TermFormed}
use Rattle.text_readings.proofs.Codes.{words_same}
use Rattle.text_plan.specs.Walked.{term_words, test_words, rule_words, slot_words}

both : {a b c d : List (List ℕ)} → a ≡ c → b ≡ d → a ++ b ≡ c ++ d
both e f = ap₂ (λ (v w : List (List ℕ)). v ++ w) e f

-- codes that are the same
module _ (codes codes' : List ℕ) (same : (i : ℕ) → code_at codes i ≡ code_at codes' i) where
  pub term_words-same : (x : Term) → term_words codes' x ≡ term_words codes x
  unfolding term_words
  term_words-same (Chain c) = refl
  term_words-same (Number z) = refl
  term_words-same (Tree from to) = words_same codes codes' same from to

  pub rule-words-same : (x : Rule) → rule_words codes' x ≡ rule_words codes x
  unfolding rule_words
  rule-words-same (Set f x) = term_words-same x
  rule-words-same (Combine f op x y) = both (term_words-same x) (term_words-same y)
  rule-words-same (Remote sort f c x) = ap (λ (v : List (List ℕ)). unpack c ∷ v) (term_words-same x)

-- the words of a rule are the readings of the rule
module _ (codes : List ℕ) where
  term_words_lem : (x : Term) → TermFormed codes x → term_words codes x ≡ expression_readings (term_in codes x)
  unfolding term_words expression_readings term_in tree_in
  term_words_lem (Chain c) h = refl
  term_words_lem (Number z) h = refl
  term_words_lem (Tree from to) h = ap code_readings h.formed ∙ postfix-readings (decoded (codes_in codes from to))

  test_words_lem : (x : Test) → TestTerms (TermFormed codes) x → test_words codes x ≡ test_readings (test_in codes x)
  unfolding test_words test_readings test_in
  test_words_lem Always h = refl
  test_words_lem (When x c y) h = both (term_words_lem x h.0) (term_words_lem y h.1)

  rule-words : (x : Rule) → RuleTerms (TermFormed codes) x → rule_words codes x ≡ target_readings (target_in x) ++ expression_readings (expression_in codes x)
  unfolding rule_words target_readings target_in expression_in expression_readings
  rule-words (Set f x) h = term_words_lem x h
  rule-words (Combine f op x y) h = both (term_words_lem x h.0) (term_words_lem y h.1)
  rule-words (Remote sort f c x) h = ap (λ (v : List (List ℕ)). unpack c ∷ v) (term_words_lem x h)

  pub slot-words : (x : Slot) → SlotTerms (TermFormed codes) x → slot_words codes x ≡ rule_readings (rule_in codes x)
  unfolding rule_readings rule_in
  slot-words x h = both (test_words_lem x.test h.0) (rule-words x.rule h.1)
