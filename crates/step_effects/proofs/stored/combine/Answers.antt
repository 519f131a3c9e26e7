-- `step_effects::stored::combine` meets its contract.
use mathlib.Core.Path.{sym, ap₂, ◌∙◌}
use Rattle.step_operations.specs.Evaluated.{joined}
use Rattle.step_operations.proofs.Operating.{operation_joined}
use Rattle.step_effects.proofs.stored.combine.Goals as goal

pub returns : goal.returns
returns c read agrees =
    c.join.ensures ∙ ap₂ (joined _) (c.term_value-a.ensures read agrees.0) (c.term_value-b.ensures read agrees.1) ∙ sym (operation_joined _ _ _ _)
