-- What holds of the terms of a rule in the array.
use Rattle.std.specs.Prelude.{ℕ, ◌≤◌, ◌<◌, List}
use Rattle.program.specs.Code.{Formed, codes_in, EachChain}
use Rattle.program.specs.declared.term.Term.{Term}
use Rattle.program.specs.declared.term.Term.TheVariants.{Chain, Number, Tree}
use Rattle.program.specs.declared.rule.Test.{Test}
use Rattle.program.specs.declared.rule.Test.TheVariants.{Always, When}
use Rattle.program.specs.declared.rule.Rule.{Rule}
use Rattle.program.specs.declared.rule.Rule.TheVariants.{Set, Combine, Remote}
use Rattle.program.specs.declared.rule.Slot.{Slot}
use Rattle.program.specs.declared.location.Location.{Location}
use Rattle.program.specs.declared.location.Places.{Places}
use Rattle.program.specs.declared.location.Located.{Located}
use Rattle.chain.specs.Word.{unpack}

-- P holds of each term
abbrev pub TestTerms : (Term → Type 0) → Test → Type 0
TestTerms P Always = Unit {0}
TestTerms P (When x c y) = P x × P y

abbrev pub RuleTerms : (Term → Type 0) → Rule → Type 0
RuleTerms P (Set f x) = P x
RuleTerms P (Combine f op x y) = P x × P y
RuleTerms P (Remote sort f c x) = P x

abbrev pub SlotTerms : (Term → Type 0) → Slot → Type 0
SlotTerms P x = TestTerms P x.test × RuleTerms P x.rule

-- the codes of a tree stand from a place on, and before one
abbrev pub TermFrom : ℕ → Term → Type 0
TermFrom n (Chain c) = Unit {0}
TermFrom n (Number z) = Unit {0}
TermFrom n (Tree from to) = n ≤ from

abbrev pub TermInside : ℕ → Term → Type 0
TermInside n (Chain c) = Unit {0}
TermInside n (Number z) = Unit {0}
TermInside n (Tree from to) = to ≤ n

-- they are those of an expression
pub record TreeFormed (codes : List ℕ) (from to : ℕ) : Type 0 where
  pub formed : Formed (codes_in codes from to)
  pub some : from < to

abbrev pub TermFormed : List ℕ → Term → Type 0
TermFormed codes (Chain c) = Unit {0}
TermFormed codes (Number z) = Unit {0}
TermFormed codes (Tree from to) = TreeFormed codes from to

-- P holds of where each chain is found, and of its word; of a tree's chains its codes tell it
module _ (P : Location → List ℕ → Type 0) (codes : List ℕ) where
  abbrev pub TermPlaced : Location → Term → Type 0
  TermPlaced at (Chain c) = P at (unpack c)
  TermPlaced at (Number z) = Unit {0}
  TermPlaced at (Tree from to) = EachChain P codes from to

  abbrev pub TestPlaced : Places → Test → Type 0
  TestPlaced p Always = Unit {0}
  TestPlaced p (When x c y) = TermPlaced p.first x × TermPlaced p.second y

  abbrev pub RulePlaced : Places → Rule → Type 0
  RulePlaced p (Set f x) = TermPlaced p.first x
  RulePlaced p (Combine f op x y) = TermPlaced p.first x × TermPlaced p.second y
  RulePlaced p (Remote sort f c x) = P p.first (unpack c) × TermPlaced p.second x

  abbrev pub SlotPlaced : Located → Type 0
  SlotPlaced x = TestPlaced x.at.test x.slot.test × RulePlaced x.at.rule x.slot.rule
