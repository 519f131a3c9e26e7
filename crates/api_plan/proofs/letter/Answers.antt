-- `api_plan::letter` meets its contract.
use Rattle.api_plan.proofs.Filling.{letter_reference, letter_measure}
use Rattle.api_plan.proofs.letter.Goals as goal

pub returns-then-field-lt8 : goal.returns-then-field-lt8
returns-then-field-lt8 c = letter_reference _ c.if-field-lt8.true

pub returns-else-field-lt8 : goal.returns-else-field-lt8
returns-else-field-lt8 c = letter_measure _ c.if-field-lt8.false
