-- Where the readings of a rule are found: the own number of a record, its own cell of a field, or a line of the step's plan.
use Rattle.std.specs.Prelude.{ℕ, ◌≤◌, ◌<◌, ◌≡◌, Bool, true, false, List, [], ◌∷◌, length, get_or}
use Rattle.chain.specs.Word.{unpack}
use Rattle.plan_theory.specs.Plan.{Fact, read, line_index}
use Rattle.program.specs.declared.term.Term.{Term}
use Rattle.program.specs.declared.term.Term.TheVariants.{Chain, Number, Tree}
use Rattle.program.specs.declared.rule.Test.{Test}
use Rattle.program.specs.declared.rule.Test.TheVariants.{Always, When}
use Rattle.program.specs.declared.rule.Rule.{Rule}
use Rattle.program.specs.declared.rule.Rule.TheVariants.{Set, Combine, Remote}
use Rattle.program.specs.declared.location.Location.{Location}
use Rattle.program.specs.declared.location.Location.TheVariants.{Own, Cell, Line}
use Rattle.program.specs.declared.location.Places.{Places}
use Rattle.program.specs.declared.location.Located.{Located}
use Rattle.program.specs.Code.{Formed, codes_in, EachChain}

-- where a word is found in a step whose plan has the lines l: "Read of at most one hop needs no line"
unfoldable pub location_of : List Fact → List ℕ → Location
location_of l [] = Own
location_of l (f ∷ []) = Cell f
location_of l (f ∷ g ∷ w) = Line (line_index l (read (f ∷ g ∷ w)))

-- a location that names no line, or one that is wanted
abbrev pub Wants : List Bool → Location → Type 0
Wants wanted Own = Unit {0}
Wants wanted (Cell f) = Unit {0}
Wants wanted (Line i) = get_or wanted i false ≡ true

-- a word located among the lines l, its line being wanted
pub record WordLocated (l : List Fact) (wanted : List Bool) (at : Location) (w : List ℕ) : Type 0 where
  pub at_is : at ≡ location_of l w
  pub wants : Wants wanted at

-- the codes from..to are those of an expression, and its chains are located among the lines l
pub record TreeLocated (l : List Fact) (wanted : List Bool) (codes : List ℕ) (from to : ℕ) : Type 0 where
  pub formed : Formed (codes_in codes from to)
  pub some : from < to
  pub kept : to ≤ length codes
  pub located : EachChain (WordLocated l wanted) codes from to

-- where the readings of a term, of a test and of a rule are found
abbrev pub TermLocated : List Fact → List Bool → List ℕ → Location → Term → Type 0
TermLocated l wanted codes at (Chain c) = WordLocated l wanted at (unpack c)
TermLocated l wanted codes at (Number z) = Unit {0}
TermLocated l wanted codes at (Tree from to) = TreeLocated l wanted codes from to

abbrev pub TestLocated : List Fact → List Bool → List ℕ → Places → Test → Type 0
TestLocated l wanted codes p Always = Unit {0}
TestLocated l wanted codes p (When x c y) = TermLocated l wanted codes p.first x × TermLocated l wanted codes p.second y

abbrev pub RuleLocated : List Fact → List Bool → List ℕ → Places → Rule → Type 0
RuleLocated l wanted codes p (Set f x) = TermLocated l wanted codes p.first x
RuleLocated l wanted codes p (Combine f op x y) = TermLocated l wanted codes p.first x × TermLocated l wanted codes p.second y
RuleLocated l wanted codes p (Remote sort f c x) = WordLocated l wanted p.first (unpack c) × TermLocated l wanted codes p.second x

-- a rule whose readings are located among the lines l, those that it reads being wanted
pub record LocatedAmong (l : List Fact) (wanted : List Bool) (codes : List ℕ) (x : Located) : Type 0 where
  pub test : TestLocated l wanted codes x.at.test x.slot.test
  pub rule : RuleLocated l wanted codes x.at.rule x.slot.rule
