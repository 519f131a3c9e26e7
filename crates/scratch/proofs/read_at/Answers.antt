-- `scratch::read_at` meets its contract: the mark says whether there is a value.
use Rattle.std.specs.Prelude.{Some}
use mathlib.Core.Path.{ap, ◌∙◌}
use mir.Syntax.{w64}
use mir.Facts.{to_z-of_z, sfits_widen}
use Rattle.integers.proofs.Complement.{kept}
use Rattle.scratch.proofs.Placed.{place_at_missing, place_at-value}
use Rattle.scratch.proofs.read_at.Goals as goal

pub returns-then-marks-j-eq0 : goal.returns-then-marks-j-eq0
returns-then-marks-j-eq0 c = place_at_missing _ _ _ c.if-marks-j-eq0.true

pub returns : goal.returns
returns c =
    let s = c in
    ap Some (kept c.narrow.result c.narrow.type_inv ∙ c.narrow.ensures ∙ to_z-of_z {w = w64} (sfits_widen tt s.requires.2))
    ∙ place_at-value _ _ _ c.if-marks-j-eq0.false
