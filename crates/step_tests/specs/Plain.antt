-- Plain rules and tests: each term is a chain or a number, and forms no sum.
use Rattle.std.specs.Prelude.{◌≡◌, Bool, true, false, ◌&&◌, List, ℕ, ℤ}
use Rattle.register.specs.declared.Sizes.{Sizes}
use Rattle.register.specs.declared.cells.Cell.{Cell}
use Rattle.chain.specs.Reading.{Reading}
use Rattle.program.specs.declared.term.Term.{Term}
use Rattle.program.specs.declared.term.Term.TheVariants.{Chain, Number, Tree}
use Rattle.program.specs.declared.rule.Test.{Test}
use Rattle.program.specs.declared.rule.Test.TheVariants.{Always, When}
use Rattle.program.specs.declared.rule.Rule.{Rule}
use Rattle.program.specs.declared.rule.Rule.TheVariants.{Set, Combine, Remote}
use Rattle.program.specs.declared.rule.Slot.{Slot}
use Rattle.program.specs.declared.location.Location.{Location}
use Rattle.program.specs.declared.location.Places.{Places}
use Rattle.program.specs.Stored.{term_in, test_in}
use Rattle.program.specs.Terms.{TermPlaced, TestPlaced}
use Rattle.machine.specs.Value.{value, holds}
use Rattle.step_terms.specs.Found.{Told}

unfoldable pub is_plain : Term → Bool
is_plain (Chain c) = true
is_plain (Number z) = true
is_plain (Tree from to) = false

unfoldable pub plain_test : Test → Bool
plain_test Always = true
plain_test (When x c y) = is_plain x && is_plain y

unfoldable pub plain_rule : Rule → Bool
plain_rule (Set f x) = is_plain x
plain_rule (Combine f op x y) = is_plain x && is_plain y
plain_rule (Remote k f c x) = is_plain x

-- a rule with its test
unfoldable pub plain_slot : Slot → Bool
plain_slot x = plain_test x.test && plain_rule x.rule

-- what a plain term comes to, and whether a test of plain terms holds: whatever the codes are
module _ (s : Sizes) (cells : List Cell) (values : List ℤ) (marks : List ℕ) (u : ℕ) where
  abbrev pub PlainValue : Location → Term → Reading → Type 0
  PlainValue at x r = (codes : List ℕ) → Told s cells values marks u (λ P. TermPlaced P codes at x) (λ read. r ≡ value read (term_in codes x))

  abbrev pub PlainHolds : Places → Test → Bool → Type 0
  PlainHolds at t b = (codes : List ℕ) → Told s cells values marks u (λ P. TestPlaced P codes at t) (λ read. b ≡ holds read (test_in codes t))
