-- `api_plan::letter_at` meets its contract.
use mathlib.Core.Path.{◌∙◌}
use Rattle.api_plan.proofs.Filling.{letter-none, letter-some}
use Rattle.api_plan.proofs.letter_at.Goals as goal

pub returns-then-rest-eq0 : goal.returns-then-rest-eq0
returns-then-rest-eq0 c = letter-none _ _ _ c.rest-rest.ensures c.if-rest-eq0.true

pub returns-else-rest-eq0 : goal.returns-else-rest-eq0
returns-else-rest-eq0 c = c.letter.ensures ∙ letter-some _ _ _ c.rest-rest.ensures c.first_hop.ensures
