-- What a record finds where its readings are located: over the cells before the step and the places of the plan's lines.
use Rattle.std.specs.Prelude.{None, Some}
use Rattle.std.specs.Prelude.{◌≡◌, true, List, ℕ, ◌+◌, ◌*◌, ◌≤◌, ◌<◌, T, ℤ, pos, length, get_or}
use Rattle.std.specs.Int.Signed.{non_neg}
use Rattle.std.specs.Int.{w32}
use Rattle.std.proofs.Common.{SFits}
use Rattle.register.specs.declared.Sizes.{Sizes}
use Rattle.register.specs.declared.cells.Cell as C
use Rattle.chain.specs.Reading.{Reading}
use Rattle.chain.specs.Word.{has_field, read_cell, refers_to}
use Rattle.program.specs.declared.term.Term.{Term}
use Rattle.program.specs.declared.term.Term.TheVariants.{Chain, Number, Tree}
use Rattle.program.specs.declared.rule.Test.{Test}
use Rattle.program.specs.declared.rule.Test.TheVariants.{Always, When}
use Rattle.program.specs.declared.rule.Rule.{Rule}
use Rattle.program.specs.declared.rule.Rule.TheVariants.{Set, Combine, Remote}
use Rattle.program.specs.declared.location.Location.{Location}
use Rattle.program.specs.declared.location.Location.TheVariants.{Own, Cell, Line}
use Rattle.program.specs.declared.location.Places.{Places}
use Rattle.program.specs.declared.location.Located.{Located}
use Rattle.program.specs.Program.{operators}
use Rattle.program.specs.Code.{Formed, codes_in, tree_in, EachChain}
use Rattle.scratch.specs.Places.{place_at}

-- "Line i, from 0, and origin u have place i × n + u"
abbrev pub line_place : Sizes → ℕ → ℕ → ℕ
line_place s u i = i * s.records + u

-- what record u finds at a location: its own number, its own cell, or what a line holds for it
unfoldable pub found_at : Sizes → List C.Cell → List ℤ → List ℕ → ℕ → Location → Reading
found_at s cells values marks u Own = Some (pos u)
found_at s cells values marks u (Cell f) = read_cell s cells u f
found_at s cells values marks u (Line i) = place_at values marks (line_place s u i)

-- a place of a line that holds a value of 32 bits
pub record LineReaches (s : Sizes) (values : List ℤ) (marks : List ℕ) (u i : ℕ) : Type 0 where
  pub in_values : line_place s u i < length values
  pub in_marks : line_place s u i < length marks
  pub fits : SFits w32 (get_or values (line_place s u i) (pos 0))

-- a location that leads to a field of the register, or to such a place
abbrev pub Reaches : Sizes → List ℤ → List ℕ → ℕ → Location → Type 0
Reaches s values marks u Own = Unit {0}
Reaches s values marks u (Cell f) = has_field s f ≡ true
Reaches s values marks u (Line i) = LineReaches s values marks u i

-- a reader says of a word what record u finds where the word is located
abbrev pub Agrees : Sizes → List C.Cell → List ℤ → List ℕ → ℕ → (List ℕ → Reading) → Location → List ℕ → Type 0
Agrees s cells values marks u read at w = found_at s cells values marks u at ≡ read w

-- P holds of every reader that agrees with all that is located so: "takes every reading that has a line from there alone"
abbrev pub Told : Sizes → List C.Cell → List ℤ → List ℕ → ℕ → ((Location → List ℕ → Type 0) → Type 0) → ((List ℕ → Reading) → Type 0) → Type 0
Told s cells values marks u Located P = (read : List ℕ → Reading) → Located (Agrees s cells values marks u read) → P read

-- the codes from..to are those of an expression of at most 64 operators, and each chain of them leads somewhere
pub record TreeReaches (s : Sizes) (values : List ℤ) (marks : List ℕ) (u : ℕ) (codes : List ℕ) (from to : ℕ) : Type 0 where
  pub formed : Formed (codes_in codes from to)
  pub few : operators (tree_in codes from to) ≤ 64
  pub some : from < to
  pub kept : to ≤ length codes
  pub reaches : EachChain (λ at w. Reaches s values marks u at) codes from to

-- each reading of a term, of a test and of a rule leads somewhere; with no codes, the terms are chains and numbers
module _ (s : Sizes) (values : List ℤ) (marks : List ℕ) (u : ℕ) (codes : List ℕ) where
  abbrev pub TermReaches : Location → Term → Type 0
  TermReaches at (Chain c) = Reaches s values marks u at
  TermReaches at (Number z) = Unit {0}
  TermReaches at (Tree from to) = TreeReaches s values marks u codes from to

  abbrev pub TestReaches : Places → Test → Type 0
  TestReaches p Always = Unit {0}
  TestReaches p (When x c y) = TermReaches p.first x × TermReaches p.second y

  abbrev pub RuleReaches : Places → Rule → Type 0
  RuleReaches p (Set f x) = TermReaches p.first x
  RuleReaches p (Combine f op x y) = TermReaches p.first x × TermReaches p.second y
  RuleReaches p (Remote sort f c x) = Reaches s values marks u p.first × TermReaches p.second x

  -- a rule with its test
  pub record SlotReaches (x : Located) : Type 0 where
    pub test : TestReaches x.at.test x.slot.test
    pub rule : RuleReaches x.at.rule x.slot.rule

-- Q holds of what record u finds for the record that a remote write goes to, where there is one
abbrev pub TargetFound : (Reading → Type 0) → Sizes → List C.Cell → List ℤ → List ℕ → ℕ → Places → Rule → Type 0
TargetFound Q s cells values marks u p (Set f x) = Unit {0}
TargetFound Q s cells values marks u p (Combine f op x y) = Unit {0}
TargetFound Q s cells values marks u p (Remote sort f c x) = Q (found_at s cells values marks u p.first)

-- a reading that is missing or leads to one of n records, and one that is missing or names a record
abbrev pub Within : ℕ → Reading → Type 0
Within n x = refers_to n x ≡ true

abbrev pub Names : Reading → Type 0
Names None = Unit {0}
Names (Some z) = T (non_neg z)
