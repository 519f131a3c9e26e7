-- `gather_line::writer` meets its contract.
use Rattle.std.specs.Prelude.{Some}
use mathlib.Core.Path.{ap, ◌∙◌}
use Rattle.integers.proofs.Complement.{kept}
use Rattle.gather_line.proofs.Writing.{writer_own, writer-told}
use native.Mathlib.Omega.{arith}
use Rattle.gather_line.proofs.writer.Goals as goal

pub read_at-requires : goal.read_at-requires
read_at-requires c =
    let s = c in
    let held = s.requires.2.line c.if-back-eq-NO_LINE.false in
    (omega (arith, held.values_room), omega (arith, held.marks_room), held.fits s.args.u s.requires.1)

pub returns-then-back-eq-NO_LINE : goal.returns-then-back-eq-NO_LINE
returns-then-back-eq-NO_LINE c = ap Some (kept c.of_index.result c.of_index.type_inv ∙ c.of_index.ensures) ∙ writer_own _ _ _ c.if-back-eq-NO_LINE.true

pub returns : goal.returns
returns c = c.read_at.ensures ∙ writer-told _ _ _ c.if-back-eq-NO_LINE.false
