-- Rules that a step can run, and what the local ones leave.
use Rattle.std.specs.Prelude.{◌≡◌, Bool, true, false, List, ℕ, ◌<◌, ℤ, length, take, Ok, Err}
use Rattle.std.proofs.Math.Option.{none}
use Rattle.register.specs.File.{cell_count}
use Rattle.register.specs.declared.Sizes.{Sizes}
use Rattle.register.specs.declared.cells.Cell.{Cell}
use Rattle.chain.specs.Reading.{Reading}
use Rattle.chain.specs.Word.{has_field, column}
use Rattle.program.specs.declared.location.Located.{Located}
use Rattle.program.specs.Program.{Rule, target_field}
use Rattle.laws.specs.Lists.{Each}
use Rattle.program.specs.Stored.{target_in, rule_in}
use Rattle.program.specs.Terms.{SlotPlaced}
use Rattle.machine.specs.Local.{offends, local_rule, local_records, sum_column}
use Rattle.step_terms.specs.Found.{Agrees, Told, SlotReaches, TargetFound, Within}
use Rattle.step_tests.specs.Plain.{plain_slot}
use Rattle.step_effects.specs.Answers.{write_of}
use Rattle.step_effects.specs.declared.stored.Write.{Write}
use Rattle.step_effects.specs.declared.stored.Write.TheVariants as W
use Rattle.step_cells.specs.Work.{HoldsCells, Same, Small}
use Rattle.step_cells.specs.Stop.{Stop}

-- a rule that every record can run: over these cells, these places of lines, and these codes; with no codes, a plain rule
pub record RuleReady (s : Sizes) (cells : List Cell) (values : List ℤ) (marks : List ℕ) (codes : List ℕ) (x : Located) : Type 0 where
  pub reaches : (u : ℕ) → u < s.records → SlotReaches s values marks u codes x
  pub field : has_field s (target_field (target_in x.slot.rule)) ≡ true
  pub targets : (u : ℕ) → u < s.records → TargetFound (Within s.records) s cells values marks u x.at.rule x.slot.rule

abbrev pub AllReady : Sizes → List Cell → List ℤ → List ℕ → List ℕ → List Located → Type 0
AllReady s cells values marks codes xs = Each (RuleReady s cells values marks codes) xs

-- a reader for each record agrees with where the readings of a rule, and of all rules, are found
abbrev pub RuleAgrees : Sizes → List Cell → List ℤ → List ℕ → List ℕ → (ℕ → List ℕ → Reading) → Located → Type 0
RuleAgrees s cells values marks codes read x = (u : ℕ) → u < s.records → SlotPlaced (Agrees s cells values marks u (read u)) codes x

abbrev pub AllAgree : Sizes → List Cell → List ℤ → List ℕ → List ℕ → (ℕ → List ℕ → Reading) → List Located → Type 0
AllAgree s cells values marks codes read xs = Each (RuleAgrees s cells values marks codes read) xs

-- where a flag says so, these rules are plain
abbrev pub AllPlain : Bool → List Located → Type 0
AllPlain plain xs = plain ≡ true → Each (λ x. plain_slot x.slot ≡ true) xs

-- no sum of these rules leaves the range, at any record
abbrev pub AllInRange : Sizes → (ℕ → List ℕ → Reading) → List Rule → Type 0
AllInRange s read rs = (u : ℕ) → u < s.records → sum_column s (read u) rs ≡ none

-- what is left by one local rule at record u
pub record RuleDone (s : Sizes) (read : List ℕ → Reading) (base u : ℕ) (r : Rule) (values : List ℤ) (marks : List ℕ)
    (values' : List ℤ) (marks' : List ℕ) : Type 0 where
  pub in_range : offends read r ≡ false
  pub holds : (d : List Cell) → length d ≡ cell_count s → HoldsCells base d values marks → HoldsCells base (local_rule s read u r d) values' marks'
  pub small : Small 2147483648 base (cell_count s) values marks → Small 2147483648 base (cell_count s) values' marks'

-- where it stops instead
pub record RuleStops (s : Sizes) (read : List ℕ → Reading) (u : ℕ) (r : Rule) (v c : ℕ) : Type 0 where
  pub row : v ≡ u
  pub column_is : c ≡ column s (target_field r.target)
  pub out_of_range : offends read r ≡ true

abbrev pub LocalRule : Sizes → (List ℕ → Reading) → ℕ → ℕ → Rule → List ℤ → List ℕ → List ℤ → List ℕ → Stop → Type 0
LocalRule s read base u r values marks values' marks' (Ok done) = Same base values marks values' marks' × RuleDone s read base u r values marks values' marks'
LocalRule s read base u r values marks values' marks' (Err o) = Same base values marks values' marks' × RuleStops s read u r o.row o.column

-- the field that is written is one of the register
abbrev pub WritesField : Sizes → Write → Type 0
WritesField s W.Nothing = Unit {0}
WritesField s (W.Store f z) = has_field s f ≡ true
WritesField s (W.OutOfRange f) = has_field s f ≡ true

-- what is left where a rule's write is performed
abbrev pub Performed : Sizes → ℕ → ℕ → Write → List ℤ → List ℕ → List ℤ → List ℕ → Stop → Type 0
Performed s base u w values marks values' marks' stop =
    (read : List ℕ → Reading) (r : Rule) → write_of read r ≡ w → has_field s (target_field r.target) ≡ true
    → LocalRule s read base u r values marks values' marks' stop

-- what is left by a rule whose readings are found over the places below the working cells, and by a plain one
abbrev pub RuleLeaves : Sizes → List Cell → ℕ → ℕ → List ℕ → Located → List ℤ → List ℕ → List ℤ → List ℕ → Stop → Type 0
RuleLeaves s cells base u codes x values marks values' marks' stop =
    Told s cells (take base values) (take base marks) u (λ P. SlotPlaced P codes x) (λ read. LocalRule s read base u (rule_in codes x.slot) values marks values' marks' stop)

abbrev pub PlainLeaves : Sizes → List Cell → ℕ → ℕ → Located → List ℤ → List ℕ → List ℤ → List ℕ → Stop → Type 0
PlainLeaves s cells base u x values marks values' marks' stop = (codes : List ℕ) → RuleLeaves s cells base u codes x values marks values' marks' stop

-- what all local rules leave at the records below n
pub record LocalDone (s : Sizes) (read : ℕ → List ℕ → Reading) (base : ℕ) (rs : List Rule) (n : ℕ) (values : List ℤ) (marks : List ℕ)
    (values' : List ℤ) (marks' : List ℕ) : Type 0 where
  pub in_range : (u : ℕ) → u < n → sum_column s (read u) rs ≡ none
  pub holds : (d : List Cell) → length d ≡ cell_count s → HoldsCells base d values marks → HoldsCells base (local_records s read rs n d) values' marks'
  pub small : Small 2147483648 base (cell_count s) values marks → Small 2147483648 base (cell_count s) values' marks'
