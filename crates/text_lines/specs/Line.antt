-- What the line reader answers.
use Rattle.std.specs.Prelude.{ℕ, ◌+◌, ◌≤◌, ◌≡◌, true, false, cond, List, length, Option, Some, None}
use Rattle.std.proofs.Math.Option.{none}
use Rattle.register.specs.declared.Sizes.{Sizes}
use Rattle.chain_text.specs.Text.{names, letter_field}
use Rattle.program.specs.declared.rule.Test.{Test}
use Rattle.program.specs.Stored.{test_in}
use Rattle.program.specs.Terms.{TestTerms, SlotTerms, TermFormed, TermFrom, TermInside}
use Rattle.program.specs.Code.{SameBelow}
use Rattle.text_syntax.specs.Token.{Token}
use Rattle.text_syntax.specs.Kind.{letter_in, comparison_in}
use Rattle.text_syntax.specs.Form.{Form, formed, unformed, one_of, then, whole}
use Rattle.text_syntax.specs.Written.{Expression, Condition, Line}
use Rattle.text_syntax.specs.Grammar.{expression, rule_form, compared_form}
use Rattle.text_syntax.specs.Tree.{test_of}
use Rattle.text_syntax.specs.Flat as F
use Rattle.text_rules.specs.declared.line.LineRead.{LineRead}
use Rattle.text_rules.specs.declared.line.LineRead.TheVariants.{Step, End, Done, Loop, Rule, NoForm}
use Rattle.text_rules.specs.LineRead.{all_pass, Reads}
use Rattle.text_places.specs.Place.{tokens_from}
use Rattle.text_codes.specs.Summary.{summary_of}
use Rattle.text_places.specs.Word.{is_empty}
use Rattle.text_checks.specs.Checks.{summary_checks, condition_checks}
use Rattle.text_sides.specs.Side.{Holds}
use Rattle.text_lines.specs.declared.line.LineParts.{LineParts}
use Rattle.text_demands.specs.declared.test.TestParts.{TestParts}
use Rattle.text_demands.specs.declared.test.FirstSide.{FirstSide}

-- no line of document 01
abbrev pub no_parts : ℕ → LineParts
no_parts count = record { line = NoForm; used = count }

-- a line that is one word, and a loop's field, by the tokens behind the first
unfoldable pub word_read : LineRead → ℕ → List Token → Option LineParts
word_read word count ts = cond (is_empty ts) (Some (record { line = word; used = count })) None

unfoldable pub loop_field : Sizes → ℕ → Form ℕ → Option LineParts
loop_field s count unformed = None
loop_field s count (formed f r) = word_read (Loop (letter_field f) (names s f)) count r

unfoldable pub loop_read : Sizes → ℕ → List Token → Option LineParts
loop_read s count ts = loop_field s count (one_of letter_in ts)

-- a test in the array is the written one; the codes of its terms stand from..to
pub record TestHeld (b : List ℕ) (from to : ℕ) (c : Condition) (t : Test) : Type 0 where
  pub test_is : test_in b t ≡ test_of c
  pub formed : TestTerms (TermFormed b) t
  pub behind : TestTerms (TermFrom from) t
  pub inside : TestTerms (TermInside to) t

-- what a line leaves in the arrays: of a rule that passes, codes from..to; those before are as they were
abbrev pub Leaves : List ℕ → List ℕ → ℕ → ℕ → LineRead → Type 0
Leaves a b from to (Rule x k) = all_pass k ≡ true → SlotTerms (TermFrom from) x × SlotTerms (TermInside to) x × SameBelow a b from
Leaves a b from to Step = SameBelow a b from
Leaves a b from to End = SameBelow a b from
Leaves a b from to Done = SameBelow a b from
Leaves a b from to (Loop f n) = SameBelow a b from
Leaves a b from to NoForm = Unit {0}

-- what is read of a line by the form of its tokens, and the codes that it leaves: from `from` on, `count` of
-- them before `at`, and at most one for each byte behind
pub record LineAt (s : Sizes) (line : List ℕ) (at : ℕ) (form : Form Line) (a b : List ℕ) (from count : ℕ) (r : LineParts) : Type 0 where
  pub reads : Reads s b (whole form) r.line
  pub leaves : Leaves a b from r.used r.line
  pub more_codes : from ≤ r.used
  pub few_codes : r.used + at ≤ count + length line

-- no line of that form, which uses up the tokens
pub record NoLine (form : Form Line) : Type 0 where
  pub none : whole form ≡ none

-- the same of a line whose form may fail
abbrev pub FormAt : Sizes → List ℕ → ℕ → Form Line → List ℕ → List ℕ → ℕ → ℕ → Option LineParts → Type 0
FormAt s line at form a b from count (Some r) = LineAt s line at form a b from count r
FormAt s line at form a b from count None = NoLine form

-- behind a test, for every written test that it is: its codes stand from..count, of arrays whose codes before `from` were those of o
abbrev pub RuledBehind : Sizes → List ℕ → ℕ → TestParts → List ℕ → List ℕ → ℕ → Option LineParts → Type 0
RuledBehind s line at t a b count r =
    (c : Condition) (o : List ℕ) (from : ℕ) → from ≤ count → t.checks ≡ condition_checks s c
    → (all_pass t.checks ≡ true → TestHeld a from count c t.test × SameBelow o a from)
    → FormAt s line at (rule_form c (tokens_from false line at)) o b from count r

-- behind a first side and its comparison, the same way
abbrev pub ComparedBehind : Sizes → List ℕ → ℕ → FirstSide → List ℕ → List ℕ → ℕ → Option LineParts → Type 0
ComparedBehind s line at x a b count r =
    (e : Expression) (o : List ℕ) (from : ℕ) → from ≤ count → summary_of x.seen ≡ F.summary s e
    → (all_pass (summary_checks x.seen) ≡ true → Holds a from count e x.term × SameBelow o a from)
    → FormAt s line at (compared_form e x.comparison (tokens_from true line at)) o b from count r

-- behind `if`
unfoldable pub tested_behind : List Token → Form Line
tested_behind ts = then (expression ts) (λ x r. then (one_of comparison_in r) (compared_form x))
