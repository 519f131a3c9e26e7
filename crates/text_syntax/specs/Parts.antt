-- What a line of a rules text may hold, whatever stands around it: one definition for each of the refusals 9 to 12, 24 and 25.
use Rattle.std.specs.Prelude.{ℕ, suc, ◌+◌, max, Bool, true, false, not, ◌&&◌, ◌||◌, List, [], ◌∷◌, ◌++◌, leb, length}
use Rattle.integers.specs.Range.{in_range}
use Rattle.register.specs.declared.Sizes.{Sizes}
use Rattle.laws.specs.Lists.{every}
use Rattle.chain_text.specs.Text.{names, is_reference_letter, inner_references}
use Rattle.text_numerals.specs.Numeral.{number_value}
use Rattle.program.specs.declared.rule.Sort.TheVariants.{Least, Total}
use Rattle.text_syntax.specs.Written.{Term, chain, number, Expression, term, group, operation, Condition, always, when, Action, set, remote, Line, step, end, done, loop, rule}
use Rattle.text_syntax.specs.Grammar.{is_sum}

-- the expressions of a line from left to right, C standing for the remote target
unfoldable pub condition_expressions : Condition → List Expression
condition_expressions always = []
condition_expressions (when x c y) = x ∷ y ∷ []

unfoldable pub action_expressions : Action → List Expression
action_expressions (set f e) = e ∷ []
action_expressions (remote k f c e) = term (chain c) ∷ e ∷ []

unfoldable pub expressions : Line → List Expression
expressions step = []
expressions end = []
expressions done = []
expressions (loop f) = []
expressions (rule c a) = condition_expressions c ++ action_expressions a

-- whether every expression passes; whether every term of an expression does
unfoldable pub every_expression : (Expression → Bool) → List Expression → Bool
every_expression p [] = true
every_expression p (e ∷ es) = p e && every_expression p es

unfoldable pub every_term : (Term → Bool) → Expression → Bool
every_term p (term x) = p x
every_term p (group e) = every_term p e
every_term p (operation o x y) = every_term p x && every_term p y

-- whether every term of a line passes
unfoldable pub terms_pass : (Term → Bool) → Line → Bool
terms_pass p l = every_expression (every_term p) (expressions l)

-- F, the field that a rule writes
unfoldable pub target : Action → ℕ
target (set f e) = f
target (remote k f c e) = f

-- whether every capital of a term names a field of the register
unfoldable pub term_named : Sizes → Term → Bool
term_named s (chain ls) = every (names s) ls
term_named s (number negative x) = true

-- whether the register has the field that a line names by itself
unfoldable pub field_named : Sizes → Line → Bool
field_named s step = true
field_named s end = true
field_named s done = true
field_named s (loop f) = names s f
field_named s (rule c a) = names s (target a)

-- 9: every capital of the line names a field of the register
unfoldable pub named : Sizes → Line → Bool
named s l = field_named s l && terms_pass (term_named s) l

-- "Every field but the outermost is a reference field."
unfoldable pub term_kinded : Term → Bool
term_kinded (chain ls) = inner_references ls
term_kinded (number negative x) = true

-- "Its kind is that of the outermost letter, `u` being a reference"; "a number is a measure"
unfoldable pub is_reference_term : Term → Bool
is_reference_term (chain []) = true
is_reference_term (chain (l ∷ ls)) = is_reference_letter l
is_reference_term (number negative x) = false

-- an expression holds a reference if one of its terms is one, and a measure if one of its terms is one or a `+` or `-` stands in it:
-- "`+`, `-` and `+=` take measures only", `<?` "both kinds"
unfoldable pub is_reference : Expression → Bool
is_reference (term x) = is_reference_term x
is_reference (group e) = is_reference e
is_reference (operation o x y) = is_reference x || is_reference y

unfoldable pub is_measure : Expression → Bool
is_measure (term x) = not (is_reference_term x)
is_measure (group e) = is_measure e
is_measure (operation o x y) = is_measure x || (is_sum o || is_measure y)

-- what an expression holds has one kind, which is its own
unfoldable pub one_kind : Expression → Bool
one_kind e = not (is_reference e && is_measure e)

-- whether two kinds are the same
unfoldable pub same_kind : Bool → Bool → Bool
same_kind true b = b
same_kind false b = not b

-- "Both sides of a rule or test have the same kind"
unfoldable pub condition_kinds : Condition → Bool
condition_kinds always = true
condition_kinds (when x c y) = same_kind (is_reference x) (is_reference y)

-- "`+=` take measures only"; "C a chain of reference kind"
unfoldable pub action_kinds : Action → Bool
action_kinds (set f e) = same_kind (is_reference_letter f) (is_reference e)
action_kinds (remote Least f c e) = is_reference_term (chain c) && same_kind (is_reference_letter f) (is_reference e)
action_kinds (remote Total f c e) = is_reference_term (chain c) && (not (is_reference_letter f) && not (is_reference e))

-- whether the kinds of a line's sides agree
unfoldable pub kinds_agree : Line → Bool
kinds_agree step = true
kinds_agree end = true
kinds_agree done = true
kinds_agree (loop f) = true
kinds_agree (rule c a) = condition_kinds c && action_kinds a

-- 10: chains go over references, the terms of an expression have one kind, and the kinds of a line's sides agree
unfoldable pub kinded : Line → Bool
kinded l = terms_pass term_kinded l && (every_expression one_kind (expressions l) && kinds_agree l)

-- "a chain has at most 16" hops
unfoldable pub term_short : Term → Bool
term_short (chain ls) = leb (length ls) 16
term_short (number negative x) = true

-- 11: every chain of the line has at most 16 hops
unfoldable pub short : Line → Bool
short l = terms_pass term_short l

-- whether a number is in the range of sums
unfoldable pub term_in_range : Term → Bool
term_in_range (chain ls) = true
term_in_range (number negative x) = in_range (number_value negative x)

-- 12: no "number outside the range of sums"
unfoldable pub numbers_in_range : Line → Bool
numbers_in_range l = terms_pass term_in_range l

-- how many groups deep an expression is, as it is written
unfoldable pub depth : Expression → ℕ
depth (term x) = 0
depth (group e) = suc (depth e)
depth (operation o x y) = max (depth x) (depth y)

-- 24: "at most 8 groups deep"
unfoldable pub shallow : Line → Bool
shallow l = every_expression (λ e. leb (depth e) 8) (expressions l)

-- the operators of an expression, "its groups' included"
unfoldable pub operators : Expression → ℕ
operators (term x) = 0
operators (group e) = operators e
operators (operation o x y) = operators x + operators y + 1

-- 25: no "more than 64 operators in one expression"
unfoldable pub few_operators : Line → Bool
few_operators l = every_expression (λ e. leb (operators e) 64) (expressions l)
