-- Every reading of rules that pass can be followed, and a plan that holds their lines keeps its promise for these readings.
use mathlib.Core.List.{List, [], ◌∷◌}
use Rattle.register.specs.declared.Sizes.{Sizes}
use Rattle.chain.specs.Word.{Passes}
use Rattle.plan_lines.specs.Held.{HoldsLines}
use Rattle.plan_lines.specs.Promised.{Promised}
use Rattle.plan_lines.specs.declared.Plan.{Plan}
use Rattle.plan_lines.proofs.Promised.{promised}
use Rattle.program.specs.Program.{Expression, reading, constant, operation, Test, always, when, Target, own, remote, Rule, expression_readings, test_readings, target_readings, rule_readings, readings, step_plan}
use Rattle.laws.specs.Lists.{Each}
use Rattle.program.specs.Passed.{ExpressionPasses, TestPasses, TargetPasses, RulePasses}
use Rattle.laws.proofs.Lists.{each_append}

module _ (s : Sizes) where
  -- the readings of an expression, of a test, and of a target
  expression_pass : (x : Expression) → ExpressionPasses s x → Each (Passes s) (expression_readings x)
  unfolding expression_readings
  expression_pass (reading w) k = (k, tt)
  expression_pass (constant z) k = tt
  expression_pass (operation op x y) k = each_append (Passes s) (expression_readings x) _ (expression_pass x k.0.0) (expression_pass y k.1.0)

  test_pass : (t : Test) → TestPasses s t → Each (Passes s) (test_readings t)
  unfolding test_readings
  test_pass always k = tt
  test_pass (when x c y) k = each_append (Passes s) (expression_readings x) _ (expression_pass x k.0) (expression_pass y k.1)

  target_pass : (t : Target) → TargetPasses s t → Each (Passes s) (target_readings t)
  unfolding target_readings
  target_pass (own f) k = tt
  target_pass (remote k f c) p = (p.passes, tt)

  -- those of a rule, and of rules
  pub rule_pass : (r : Rule) → RulePasses s r → Each (Passes s) (rule_readings r)
  unfolding rule_readings
  rule_pass r k =
      each_append (Passes s) (test_readings r.test) _ (test_pass r.test k.test)
      (each_append (Passes s) (target_readings r.target) _ (target_pass r.target k.target) (expression_pass r.expression k.expression))

  pub readings_pass : (rs : List Rule) → Each (RulePasses s) rs → Each (Passes s) (readings rs)
  unfolding readings
  readings_pass [] k = tt
  readings_pass (r ∷ rs) k = each_append (Passes s) (rule_readings r) (readings rs) (rule_pass r k.0) (readings_pass rs k.1)

-- all that the machines take of the plan of a step
pub step-promised : {p : Plan} (rs : List Rule) → HoldsLines p (step_plan rs) → Promised (readings rs) p
unfolding step_plan
step-promised rs h = promised {ws = readings rs} h
