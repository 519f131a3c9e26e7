-- The program that a rules text describes: steps of rules over the register's fields, the readings of a step and its plan.
use Rattle.std.specs.Prelude.{ℕ, suc, ◌+◌, max, Bool, true, false, ◌||◌, List, [], ◌∷◌, ◌++◌, ℤ, eqb, length}
use Rattle.plan_theory.specs.Plan.{Fact, plan}
use Rattle.program.specs.declared.rule.Operator.{Operator}
use Rattle.program.specs.declared.rule.Comparison.{Comparison}
use Rattle.program.specs.declared.rule.Sort.{Sort}
use Rattle.program.specs.declared.rule.Sort.TheVariants.{Least, Total}
use Rattle.program.specs.declared.setting.Setting.{Setting}

-- "A term X or Y is a chain or a number": a chain by its hop word; `+`, `-` and `<?` are operations on two
pub data Expression : Type 0 where
  reading : List ℕ → Expression
  constant : ℤ → Expression
  operation : Operator → Expression → Expression → Expression

-- how many operations an expression has
unfoldable pub operators : Expression → ℕ
operators (reading w) = 0
operators (constant z) = 0
operators (operation op x y) = suc (operators x + operators y)

-- "Before any of them may stand `if X < Y: `"
pub data Test : Type 0 where
  always : Test
  when : Expression → Comparison → Expression → Test

-- where a rule writes: field F of its own record, `F[u] :=`, or, by a remote write, of the record at C, `remote F[C]`
pub data Target : Type 0 where
  own : ℕ → Target
  remote : Sort → ℕ → List ℕ → Target

-- a rule: its test, where it writes, and what
pub record Rule : Type 0 where
  pub test : Test
  pub target : Target
  pub expression : Expression

-- a step: its rules from the top, and where it stands
pub record Step : Type 0 where
  pub rules : List Rule
  pub setting : Setting

abbrev pub Program : Type 0
Program = List Step

-- "in a rule the chains from left to right, C standing for the remote target"
unfoldable pub expression_readings : Expression → List (List ℕ)
expression_readings (reading w) = w ∷ []
expression_readings (constant z) = []
expression_readings (operation op x y) = expression_readings x ++ expression_readings y

unfoldable pub test_readings : Test → List (List ℕ)
test_readings always = []
test_readings (when x c y) = expression_readings x ++ expression_readings y

unfoldable pub target_readings : Target → List (List ℕ)
target_readings (own f) = []
target_readings (remote k f c) = c ∷ []

unfoldable pub rule_readings : Rule → List (List ℕ)
rule_readings r = test_readings r.test ++ (target_readings r.target ++ expression_readings r.expression)

-- "A step's plan walks its rules from the top"
unfoldable pub readings : List Rule → List (List ℕ)
readings [] = []
readings (r ∷ rs) = rule_readings r ++ readings rs

unfoldable pub step_plan : List Rule → List Fact
step_plan rs = plan (readings rs)

-- L, "the most lines of any step"
unfoldable pub most_lines : Program → ℕ
most_lines [] = 0
most_lines (x ∷ xs) = max (length (step_plan x.rules)) (most_lines xs)

-- the field that a rule writes
unfoldable pub target_field : Target → ℕ
target_field (own f) = f
target_field (remote k f c) = f

-- whether that is field f
unfoldable pub writes : ℕ → Target → Bool
writes f t = eqb f (target_field t)

-- whether a rule is a remote write to field f: by `<?=`, by `+=`
unfoldable pub is_least : ℕ → Target → Bool
is_least f (own g) = false
is_least f (remote Least g c) = eqb f g
is_least f (remote Total g c) = false

unfoldable pub is_total : ℕ → Target → Bool
is_total f (own g) = false
is_total f (remote Least g c) = false
is_total f (remote Total g c) = eqb f g

-- whether p holds of where one of these rules writes
unfoldable pub some_target : (Target → Bool) → List Rule → Bool
some_target p [] = false
some_target p (r ∷ rs) = p r.target || some_target p rs

-- whether a rule is a remote one, and whether a step holds one: then "a remote exchange follows"
unfoldable pub is_remote : Target → Bool
is_remote (own f) = false
is_remote (remote k f c) = true

unfoldable pub has_remote : List Rule → Bool
has_remote rs = some_target is_remote rs
