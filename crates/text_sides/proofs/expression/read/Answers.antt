-- `text_sides::expression::read` meets its contract.
use native.Mathlib.Omega.{arith}
use Rattle.text_sides.proofs.Whole.{nothing_few, whole-read}
use Rattle.text_sides.proofs.expression.read.Goals as goal

pub read_expression-requires : goal.read_expression-requires
read_expression-requires c =
    let p = c.requires in record { limits = (p.0, omega arith, p.1, nothing_few c.nothing.ensures _); roomy = p.2 }

pub returns-in-Ok : goal.returns-in-Ok
returns-in-Ok c = whole-read c.nothing.ensures c.requires.2 c.in-Ok.ensures
