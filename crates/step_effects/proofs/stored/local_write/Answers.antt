-- `step_effects::stored::local_write` meets its contract.
use mathlib.Core.Path.{ap, ◌∙◌}
use Rattle.step_effects.specs.Answers.{done_by}
use Rattle.step_effects.proofs.Answering.{effect_written}
use Rattle.step_effects.proofs.stored.local_write.Goals as goal

pub returns : goal.returns
returns c = (
  record { value = _; is = c.write_value.ensures },
  λ read agrees. c.write_value.ensures ∙ ap (done_by _) (c.effect-value.ensures read agrees) ∙ effect_written _ _ _,
)
