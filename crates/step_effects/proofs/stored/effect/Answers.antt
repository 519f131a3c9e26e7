-- `step_effects::stored::effect` meets its contract.
use mathlib.Core.Path.{◌≡◌, ◌∙◌}
use mathlib.Core.Bool.{true, false}
use borrow.Author.Rules.{rules}
use Rattle.std.specs.Prelude.{Ok, Err}
use Rattle.step_effects.proofs.Answering.{effect_fails, effect_offends, effect_done}
use Rattle.step_effects.proofs.stored.effect.Goals as goal

pub returns-in_err-test_at : goal.returns-in_err-test_at
returns-in_err-test_at c read agrees =
    let out : c.from_residual.result ≡ Err c.in_err-test_at.field-0.0 = search rules in
    rw out (effect_offends _ _ _ (c.test_at.ensures read agrees.0) c.in_err-test_at.was)

pub returns-then-not-branch : goal.returns-then-not-branch
returns-then-not-branch c read agrees =
    let fails : c.test_at.result ≡ Ok false = search rules in
    effect_fails _ _ _ (c.test_at.ensures read agrees.0) fails

pub returns : goal.returns
returns c read agrees =
    let done : c.test_at.result ≡ Ok true = search rules in
    c.expression.ensures read agrees.1 ∙ effect_done _ _ _ (c.test_at.ensures read agrees.0) done
