-- `gather_line::known` meets its contract.
use mathlib.Core.Path.{◌∙◌}
use Rattle.gather_line.proofs.Writing.{known_own, known-told}
use native.Mathlib.Omega.{arith}
use Rattle.gather_line.proofs.known.Goals as goal

pub read_cell-requires : goal.read_cell-requires
read_cell-requires c = (c.requires.0, c.requires.1.own c.if-read-eq-NO_LINE.true)

pub read_at-requires : goal.read_at-requires
read_at-requires c =
    let held = c.requires.1.line c.if-read-eq-NO_LINE.false in
    (omega (arith, held.values_room), omega (arith, held.marks_room), held.fits c.args.v c.requires.0)

pub returns-then-read-eq-NO_LINE : goal.returns-then-read-eq-NO_LINE
returns-then-read-eq-NO_LINE c = c.read_cell.ensures ∙ known_own _ _ _ _ _ _ c.if-read-eq-NO_LINE.true

pub returns : goal.returns
returns c = c.read_at.ensures ∙ known-told _ _ _ _ _ _ c.if-read-eq-NO_LINE.false
