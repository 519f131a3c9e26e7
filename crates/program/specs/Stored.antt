-- The rules of a program as the array holds them.
use Rattle.std.specs.Prelude.{ℕ, List, map, take}
use Rattle.chain.specs.Word.{unpack}
use Rattle.program.specs.declared.term.Term.{Term}
use Rattle.program.specs.declared.term.Term.TheVariants.{Chain, Number, Tree}
use Rattle.program.specs.declared.rule.Test.{Test}
use Rattle.program.specs.declared.rule.Test.TheVariants.{Always, When}
use Rattle.program.specs.declared.rule.Rule.{Rule}
use Rattle.program.specs.declared.rule.Rule.TheVariants.{Set, Combine, Remote}
use Rattle.program.specs.declared.rule.Slot.{Slot}
use Rattle.program.specs.declared.location.Located.{Located}
use Rattle.program.specs.Program as P
use Rattle.program.specs.Code.{tree_in}

-- a term, a test, where a rule writes and what, as the program has them, with the codes beside the rules
unfoldable pub term_in : List ℕ → Term → P.Expression
term_in codes (Chain n) = P.reading (unpack n)
term_in codes (Number z) = P.constant z
term_in codes (Tree from to) = tree_in codes from to

unfoldable pub test_in : List ℕ → Test → P.Test
test_in codes Always = P.always
test_in codes (When x c y) = P.when (term_in codes x) c (term_in codes y)

unfoldable pub target_in : Rule → P.Target
target_in (Set f x) = P.own f
target_in (Combine f op x y) = P.own f
target_in (Remote k f c x) = P.remote k f (unpack c)

unfoldable pub expression_in : List ℕ → Rule → P.Expression
expression_in codes (Set f x) = term_in codes x
expression_in codes (Combine f op x y) = P.operation op (term_in codes x) (term_in codes y)
expression_in codes (Remote sort f c x) = term_in codes x

unfoldable pub rule_in : List ℕ → Slot → P.Rule
rule_in codes x = record { test = test_in codes x.test; target = target_in x.rule; expression = expression_in codes x.rule }

-- the first n rules of a step's 32 places
unfoldable pub rules_in : List ℕ → ℕ → List Located → List P.Rule
rules_in codes n places = map (λ x. rule_in codes x.slot) (take n places)
