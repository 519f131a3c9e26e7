-- `step_expressions::term::test_at` meets its contract.
use mathlib.Core.Path.{ap₂, ◌∙◌}
use Rattle.program.specs.Stored.{test_in}
use Rattle.step_operations.specs.Tests.{compared}
use Rattle.step_operations.proofs.Testing.{test_compared}
use Rattle.step_expressions.proofs.term.test_at.Goals as goal

pub returns-in-When : goal.returns-in-When
unfolding test_in
returns-in-When c read agrees =
    let is = c.in-When.is in
    let a = rw is at agrees in
    rw is
    (c.compare_sides.ensures ∙ ap₂ (compared _) (c.term_value-left.ensures read a.0) (c.term_value-right.ensures read a.1)
    ∙ test_compared _ _ _ _)
