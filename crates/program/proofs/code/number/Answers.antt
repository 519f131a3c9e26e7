use mathlib.Core.Path.{◌∙◌}
use Rattle.program.specs.Code.{number_in}
use Rattle.integers.proofs.Complement.{kept}
use Rattle.program.proofs.code.number.Goals as goal

pub returns : goal.returns
unfolding number_in
returns c = kept c.signed.result c.signed.type_inv ∙ c.signed.ensures
