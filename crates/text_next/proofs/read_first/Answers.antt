-- `text_next::read_first` meets its contract.
use native.Mathlib.Omega.{arith}
use Rattle.text_next.proofs.Fronts.{next-none, next-roomy, next-line}
use Rattle.text_next.proofs.read_first.Goals as goal

pub returns-then-text-end : goal.returns-then-text-end
returns-then-text-end c =
    let a = c.args in
    rw c.no_form.ensures (next-none a.sizes a.text.now a.at a.end a.count c.requires.2 c.requires.3 _ _ (omega (arith, c.if-text-end.true)))

pub read_line-requires : goal.read_line-requires
read_line-requires c =
    let a = c.args in
    let left = c.if-text-end.false in
    (c.requires.0, next-roomy a.sizes a.text.now a.at a.end a.count c.requires.2 c.requires.3 _ (omega (arith, left)) c.requires.4, c.requires.4.few)

pub returns : goal.returns
returns c =
    let a = c.args in
    let left = c.if-text-end.false in
    next-line a.sizes a.text.now a.at a.end a.count c.requires.2 c.requires.3 _ _ _ (omega (arith, left)) c.read_line.ensures
