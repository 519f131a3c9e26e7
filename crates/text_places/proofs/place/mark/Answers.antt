-- `text_places::place::mark` meets its contract.
use mathlib.Core.Path.{sym, ◌∙◌}
use native.Mathlib.Omega.{arith}
use Rattle.chain_text.proofs.Scanning.{starts-inside}
use Rattle.text_places.proofs.Bytes.{byte_passed, byte_absent}
use Rattle.text_places.proofs.place.mark.Goals as goal

pub returns-then-not-starts_with : goal.returns-then-not-starts_with
returns-then-not-starts_with c =
    byte_absent _ (sym c.byte.ensures ∙ c.in-Some.is) (sym c.starts_with.ensures ∙ c.if-not-starts_with.true)

-- it stands there
pub skip_spaces-requires : goal.skip_spaces-requires
skip_spaces-requires c =
    let a = c.args in
    omega (arith, starts-inside a.line.now a.at _ (sym c.starts_with.ensures ∙ c.if-not-starts_with.false))

pub returns : goal.returns
returns c =
    byte_passed _ (sym c.byte.ensures ∙ c.in-Some.is) (sym c.starts_with.ensures ∙ c.if-not-starts_with.false) c.skip_spaces.ensures
