-- Written expressions as the terms of a rule in the array.
use Rattle.std.specs.Prelude.{ℕ, ◌+◌, ◌≤◌, ◌≡◌, true, false, cond, List, eqb, length, get_or, Option, Some, None}
use Rattle.register.specs.declared.Sizes.{Sizes}
use Rattle.program.specs.declared.term.Term.{Term}
use Rattle.program.specs.declared.term.Term.TheVariants.{Chain, Number, Tree}
use Rattle.program.specs.declared.rule.Operator.{Operator}
use Rattle.program.specs.declared.rule.Operator.TheVariants.{Plus, Minus, Smaller}
use Rattle.program.specs.declared.rule.Rule.{Rule}
use Rattle.program.specs.declared.rule.Rule.TheVariants.{Set, Combine}
use Rattle.program.specs.Code.{kind_in, chain_in, number_in, SameBelow}
use Rattle.program.specs.Stored.{term_in}
use Rattle.program.specs.Terms.{TermFormed, TermFrom, TermInside}
use Rattle.text_syntax.specs.Form.{formed}
use Rattle.text_syntax.specs.Written.{Expression}
use Rattle.text_syntax.specs.Grammar.{expression}
use Rattle.text_syntax.specs.Tree.{tree_of}
use Rattle.text_syntax.specs.Flat as F
use Rattle.text_rules.specs.LineRead.{all_pass}
use Rattle.text_places.specs.Place.{tokens_from}
use Rattle.text_codes.specs.Summary.{summary_of}
use Rattle.text_codes.specs.Codes.{Roomy}
use Rattle.text_expressions.specs.Reading.{Unread}
use Rattle.text_checks.specs.Checks.{summary_checks}
use Rattle.text_sides.specs.declared.side.Side.{Side}

-- the term of one code, and of the codes from..to
unfoldable pub single_of : ℕ → Term
single_of c = cond (eqb (kind_in c) 0) (Chain (chain_in c)) (Number (number_in c))

unfoldable pub term_held : List ℕ → ℕ → ℕ → Term
term_held a from to = cond (eqb to (from + 1)) (single_of (get_or a from 0)) (Tree from to)

-- the operator of a code
unfoldable pub operator_in : ℕ → Operator
operator_in c = cond (eqb (kind_in c) 2) Plus (cond (eqb (kind_in c) 3) Minus Smaller)

-- the local rule of the codes from..to: three codes are two terms and their operator
unfoldable pub rule_held : List ℕ → ℕ → ℕ → ℕ → Rule
rule_held a f from to = cond (eqb to (from + 3))
    (Combine f (operator_in (get_or a (from + 2) 0)) (single_of (get_or a from 0)) (single_of (get_or a (from + 1) 0))) (Set f (term_held a from to))

-- the number of codes then, where `size` codes are given back
unfoldable pub codes_left : ℕ → ℕ → ℕ → ℕ
codes_left from to size = cond (eqb to (from + size)) from to

-- a term in the array is a written expression; its codes, if it has any, stand from..to
pub record Holds (b : List ℕ) (from to : ℕ) (e : Expression) (x : Term) : Type 0 where
  pub term_is : term_in b x ≡ tree_of e
  pub formed : TermFormed b x
  pub behind : TermFrom from x
  pub inside : TermInside to x

-- an expression stands at a place where an operand is due; if it passes what is asked of it, the term is that expression
pub record SideFormed (s : Sizes) (line : List ℕ) (at : ℕ) (a b : List ℕ) (count : ℕ) (x : Side) : Type 0 where
  pub written : Expression
  pub form_is : expression (tokens_from true line at) ≡ formed written (tokens_from false line x.end)
  pub summary_is : summary_of x.seen ≡ F.summary s written
  pub holds : all_pass (summary_checks x.seen) ≡ true → Holds b count x.used written x.term
  pub kept : all_pass (summary_checks x.seen) ≡ true → SameBelow a b count
  pub more_codes : count ≤ x.used
  pub few_codes : x.used + at ≤ count + x.end
  pub inside : x.end ≤ length line
  pub roomy : Roomy b line x.end x.used

abbrev pub SideAt : Sizes → List ℕ → ℕ → List ℕ → List ℕ → ℕ → Option Side → Type 0
SideAt s line at a b count (Some x) = SideFormed s line at a b count x
SideAt s line at a b count None = Unread expression line at
