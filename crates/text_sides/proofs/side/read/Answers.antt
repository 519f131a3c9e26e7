-- `text_sides::side::read` meets its contract.
use native.Mathlib.Omega.{arith}
use Rattle.text_sides.proofs.Expressions.{codes-inside, side_formed}
use Rattle.text_sides.proofs.side.read.Goals as goal

pub term_in-requires : goal.term_in-requires
term_in-requires c = codes-inside c.in_ok-read.ensures (omega (arith, c.requires.3, c.read.auto.codes))

pub returns : goal.returns
returns c = side_formed c.in_ok-read.ensures c.requires.0 c.term_in.ensures c.codes_left.ensures
