-- What a written line is to the program: of a rule its trees, without groups and with numbers in centimetres.
use Rattle.std.specs.Prelude.{ℕ, ◌≡◌, Bool, List}
use Rattle.chain_text.specs.Text.{letter_field, word_of}
use Rattle.program.specs.Program as P
use Rattle.text_numerals.specs.Numeral.{Numeral, number_value}
use Rattle.text_syntax.specs.Written as W
use Rattle.text_syntax.specs.Written.{Term, chain, number, Expression, term, group, operation, Condition, always, when, Action, set, remote}
use Rattle.text_syntax.specs.Printed.{ProperExpression}

-- a chain by its hop word, a number by its value: "`1.80` means 180 centimetres"
unfoldable pub term_tree : Term → P.Expression
term_tree (chain ls) = P.reading (word_of ls)
term_tree (number negative x) = P.constant (number_value negative x)

-- "terms or groups joined by operators", of which groups leave no trace but the tree
unfoldable pub tree_of : Expression → P.Expression
tree_of (term x) = term_tree x
tree_of (group e) = tree_of e
tree_of (operation o x y) = P.operation o (tree_of x) (tree_of y)

-- the words and the constants of a tree can be written
abbrev pub TermsWritten : P.Expression → Type 0
TermsWritten (P.reading w) = (ls : List ℕ) × (word_of ls ≡ w)
TermsWritten (P.constant z) = (negative : Bool) × (x : Numeral) × (number_value negative x ≡ z)
TermsWritten (P.operation o x y) = TermsWritten x × TermsWritten y

-- every such tree is that of an expression, which holds its operands together by groups where they are needed
abbrev pub TreesWritten : Type 0
TreesWritten = (e : P.Expression) → TermsWritten e → (f : Expression) × ProperExpression f × (tree_of f ≡ e)

-- "Before any of them may stand `if X < Y: `"
unfoldable pub test_of : Condition → P.Test
test_of always = P.always
test_of (when x c y) = P.when (tree_of x) c (tree_of y)

-- F, of the own record or of the record at C
unfoldable pub target_of : Action → P.Target
target_of (set f e) = P.own (letter_field f)
target_of (remote k f c e) = P.remote k (letter_field f) (word_of c)

-- X
unfoldable pub source_of : Action → P.Expression
source_of (set f e) = tree_of e
source_of (remote k f c e) = tree_of e

unfoldable pub rule_of : Condition → Action → P.Rule
rule_of c a = record { test = test_of c; target = target_of a; expression = source_of a }

-- What a line is to the program: a loop by the number of its field, a rule by its trees.
pub data LineTree : Type 0 where
  step end done : LineTree
  loop : ℕ → LineTree
  rule : P.Rule → LineTree

unfoldable pub line_tree : W.Line → LineTree
line_tree W.step = step
line_tree W.end = end
line_tree W.done = done
line_tree (W.loop f) = loop (letter_field f)
line_tree (W.rule c a) = rule (rule_of c a)
