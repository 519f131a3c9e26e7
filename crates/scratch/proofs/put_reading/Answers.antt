-- `scratch::put_reading` meets its contract: a missing reading is stored as 0 with mark 0.
use mathlib.Core.Path.{ap, ◌∙◌}
use native.Mathlib.Omega.{arith}
use lib.ListN.{set}
use mir.Syntax.{w64}
use mir.Facts.{to_z-of_z}
use Rattle.integers.proofs.Complement.{kept}
use Rattle.chain.specs.Word.{reading_value}
use Rattle.scratch.specs.Places.{reading_mark}
use borrow.Author.Rules.{rules}
use Rattle.scratch.proofs.put_reading.Goals as goal

pub returns-in-None : goal.returns-in-None
unfolding reading_value reading_mark
returns-in-None c =
    let p = c in
    rw p.in-None.is (p.clear.ensures.0, p.clear.ensures.1, record { sfits = omega arith })

pub returns-in-Some : goal.returns-in-Some
unfolding reading_value reading_mark
returns-in-Some c =
    let p = c in
    let v = p in
    let a = v.args in
    let z = to_z-of_z {w = w64} (record { sfits = p.widen.type_inv }) ∙ p.widen.ensures ∙ kept v.in-Some.value (search rules) in
    rw v.in-Some.is (p.put.ensures.0 ∙ ap (set a.values.now a.j) z, p.put.ensures.1, record { sfits = (search rules) })
