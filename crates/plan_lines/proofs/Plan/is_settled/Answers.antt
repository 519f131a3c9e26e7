-- `plan_lines::Plan::is_settled` meets its contract.
use mathlib.Core.Path.{sym, ap, ◌∙◌}
use mathlib.Core.Bool.{not}
use Rattle.std.specs.Prelude.{is_some}
use borrow.Author.Tests.{leb-true, leb-false}
use Rattle.plan_lines.proofs.Settled.{settled-none, settled-place}
use Rattle.plan_lines.proofs.Plan.is_settled.Goals as goal

pub returns-then-not-has_line : goal.returns-then-not-has_line
returns-then-not-has_line c =
    ap not c.if-not-has_line.true ∙ sym (settled-none _ _ (leb-false _ _ (sym c.has_line.ensures ∙ c.if-not-has_line.true)))

pub returns-else-not-has_line : goal.returns-else-not-has_line
returns-else-not-has_line c =
    c.is_some.ensures ∙ ap is_some c.find.ensures ∙ sym (settled-place _ _ (leb-true _ _ (sym c.has_line.ensures ∙ c.if-not-has_line.false)))
