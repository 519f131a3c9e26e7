-- `step_expressions::evaluate::term_at` meets its contract.
use mathlib.Core.Path.{ap, ◌∙◌}
use borrow.Author.Tests.{ne_eqb}
use lib.IntN.{ℤ}
use Rattle.std.specs.Prelude.{Some, Ok}
use Rattle.integers.proofs.Complement.{kept}
use Rattle.step_operations.specs.Evaluated.{answer_of}
use Rattle.step_expressions.specs.Codes.{term_at}
use Rattle.step_operations.proofs.Operating.{read_back, value-answer}
use Rattle.step_expressions.proofs.evaluate.term_at.Goals as goal

pub returns : goal.returns
unfolding term_at
returns c =
    let z = kept _ c.number.type_inv in
    simp (ne_eqb _ 0 (λ e. c.if-kind-eq0.false (c.kind.ensures ∙ e)))
    (read_back _ c.widen.type_inv ∙ ap answer_of (c.widen.ensures ∙ z) ∙ value-answer _ c.number.type_inv ∙ ap (λ (y : ℤ). Ok (Some y)) c.number.ensures)
