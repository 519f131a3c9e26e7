-- Rules whose readings are placed in the plan of their step: they stay so where it grows, and they are located in it.
use mathlib.Core.Bool.{Bool}
use Prim.Native.Nat.{ℕ, ◌<◌}
use mathlib.Core.Path.{ap}
use mathlib.Core.List.{List, ◌++◌}
use native.Mathlib.Omega.{arith}
use lib.ListN.{length, get_or}
use Rattle.chain.specs.Word.{unpack}
use Rattle.plan_lines.specs.Held.{facts}
use Rattle.program.specs.declared.term.Term.{Term}
use Rattle.program.specs.declared.term.Term.TheVariants.{Chain, Number, Tree}
use Rattle.program.specs.declared.rule.Test.{Test}
use Rattle.program.specs.declared.rule.Test.TheVariants.{Always, When}
use Rattle.program.specs.declared.rule.Rule.{Rule}
use Rattle.program.specs.declared.rule.Rule.TheVariants.{Set, Combine, Remote}
use Rattle.program.specs.declared.rule.Slot.{Slot}
use Rattle.program.specs.declared.location.Location.{Location}
use Rattle.program.specs.declared.location.Places.{Places}
use Rattle.program.specs.declared.location.Located.{Located}
use Rattle.program.specs.declared.location.Locations.{Locations}
use Rattle.program.specs.Code.{IfChain}
use Rattle.program.specs.Location.{TermLocated, TestLocated, RuleLocated, LocatedAmong}
use Rattle.program.specs.Terms.{TestTerms, RuleTerms, SlotTerms, TermInside, TermFormed, TermPlaced, TestPlaced, RulePlaced, SlotPlaced}
use Rattle.text_readings.specs.declared.Open.{Open}
use Rattle.plan_lines.specs.declared.Plan.{Plan}
use Rattle.text_readings.specs.Readings.{NotFull, PlacedIn, WordPlaced, Walked}
use Rattle.text_readings.proofs.Codes.{walked_both, walked_as}
use Rattle.text_plan.specs.Walked.{term_words, test_words, TermWalked, TermsWalked, TestWalked, RuleWalked, SlotWalked}
use Rattle.text_plan.proofs.Words.{term_words-same, rule-words-same}

-- what holds of each chain of a rule and of where it is found, from what held of it: of the chains of a tree, in other codes
module _ {P Q : Location → List ℕ → Type 0} (codes codes' : List ℕ) (n : ℕ) (word : (at : Location) (w : List ℕ) → P at w → Q at w)
    (code : (i : ℕ) → i < n → IfChain P (get_or codes i 0) → IfChain Q (get_or codes' i 0)) where
  term_changed : (at : Location) (x : Term) → TermInside n x → TermPlaced P codes at x → TermPlaced Q codes' at x
  term_changed at (Chain c) t h = word at (unpack c) h
  term_changed at (Number z) t h = tt
  term_changed at (Tree from to) t h = λ i f l. code i (omega (arith, t)) (h i f l)

  test-changed : (at : Places) (x : Test) → TestTerms (TermInside n) x → TestPlaced P codes at x → TestPlaced Q codes' at x
  test-changed at Always t h = tt
  test-changed at (When x c y) t h = (term_changed at.first x t.0 h.0, term_changed at.second y t.1 h.1)

  rule-changed : (at : Places) (x : Rule) → RuleTerms (TermInside n) x → RulePlaced P codes at x → RulePlaced Q codes' at x
  rule-changed at (Set f x) t h = term_changed at.first x t h
  rule-changed at (Combine f op x y) t h = (term_changed at.first x t.0 h.0, term_changed at.second y t.1 h.1)
  rule-changed at (Remote sort f c x) t h = (word at.first (unpack c) h.0, term_changed at.second x t h.1)

  pub slot-changed : (x : Located) → SlotTerms (TermInside n) x.slot → SlotPlaced P codes x → SlotPlaced Q codes' x
  slot-changed x t h = (test-changed x.at.test x.slot.test t.0 h.0, rule-changed x.at.rule x.slot.rule t.1 h.1)

-- a walk that follows leaves them where they are
module _ {vs : List (List ℕ)} {From : ℕ → Type 0} {Found : Open → List ℕ → Type 0} {a b : Open} {k k' : List ℕ} (w : Walked vs From Found a k b k') (f : NotFull b)
    (n : ℕ) where
  term_stays : (at : Location) (x : Term) → TermInside n x → TermPlaced (WordPlaced a) k at x → TermPlaced (WordPlaced b) k' at x
  term_stays = term_changed k k' n (w.grown.stays f) (λ i l. w.keeps f i)

  test-stays : (at : Places) (x : Test) → TestTerms (TermInside n) x → TestPlaced (WordPlaced a) k at x → TestPlaced (WordPlaced b) k' at x
  test-stays = test-changed k k' n (w.grown.stays f) (λ i l. w.keeps f i)

  pub slot-stays : (x : Located) → SlotTerms (TermInside n) x.slot → SlotPlaced (WordPlaced a) k x → SlotPlaced (WordPlaced b) k' x
  slot-stays = slot-changed k k' n (w.grown.stays f) (λ i l. w.keeps f i)

-- one term behind another, and a rule behind its test
module _ {a b c : Open} {k k' k'' : List ℕ} (n : ℕ) where
  pub walked_terms : (x y : Term) (at : Places) → TermInside n x → TermWalked a k b k' at.first x → TermWalked b k' c k'' at.second y
      → TermsWalked a k c k'' at x y
  walked_terms x y at t h w =
      walked_as (ap (λ (l : List (List ℕ)). term_words k x ++ l) (term_words-same k k' h.same y)) (λ n f. f) (λ p. p)
      (walked_both (λ f. term_stays w f n at.first x t) h w)

  pub walked_slot : (x : Slot) (at : Locations) → TestTerms (TermInside n) x.test → TestWalked a k b k' at.test x.test
      → RuleWalked b k' c k'' at.rule x.rule → SlotWalked a k c k'' at x
  walked_slot x at t h w =
      walked_as (ap (λ (l : List (List ℕ)). test_words k x.test ++ l) (rule-words-same k k' h.same x.rule)) (λ n f. f) (λ p. p)
      (walked_both (λ f. test-stays w f n at.test x.test t) h w)

-- a rule that is placed, and whose trees are those of expressions, is located
module _ (l : Plan) (wanted : List Bool) (codes : List ℕ) where
  term_located : (x : Term) → TermFormed codes x → TermInside (length codes) x → (at : Location) → TermPlaced (PlacedIn l wanted) codes at x
      → TermLocated (facts l) wanted codes at x
  term_located (Chain c) f t at h = h.located
  term_located (Number z) f t at h = tt
  term_located (Tree from to) f t at h = record { formed = f.formed; some = f.some; kept = t; located = λ i k b e. (h i k b e).located }

  test-located : (x : Test) → TestTerms (TermFormed codes) x → TestTerms (TermInside (length codes)) x → (p : Places)
      → TestPlaced (PlacedIn l wanted) codes p x → TestLocated (facts l) wanted codes p x
  test-located Always f t p h = tt
  test-located (When x c y) f t p h = (term_located x f.0 t.0 p.first h.0, term_located y f.1 t.1 p.second h.1)

  rule-located : (x : Rule) → RuleTerms (TermFormed codes) x → RuleTerms (TermInside (length codes)) x → (p : Places)
      → RulePlaced (PlacedIn l wanted) codes p x → RuleLocated (facts l) wanted codes p x
  rule-located (Set g x) f t p h = term_located x f t p.first h
  rule-located (Combine g op x y) f t p h = (term_located x f.0 t.0 p.first h.0, term_located y f.1 t.1 p.second h.1)
  rule-located (Remote sort g c x) f t p h = (h.0.located, term_located x f t p.second h.1)

  pub slot-located : (x : Located) → SlotTerms (TermFormed codes) x.slot → SlotTerms (TermInside (length codes)) x.slot
      → SlotPlaced (PlacedIn l wanted) codes x → LocatedAmong (facts l) wanted codes x
  slot-located x f t h = record {
    test = test-located x.slot.test f.0 t.0 x.at.test h.0;
    rule = rule-located x.slot.rule f.1 t.1 x.at.rule h.1;
  }
