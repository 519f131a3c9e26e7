-- `gather_exchanges::clear` meets its contract: the places hold values 0 and marks 0.
use mathlib.Core.Path.{◌≡◌}
use native.Mathlib.Omega.{arith}
use lib.ListN.{length, take, length-take}
use Rattle.gather_exchanges.proofs.Exchanging.{cleared_by}
use Rattle.gather_exchanges.proofs.clear.Goals as goal

pub returns : goal.returns
returns c =
    let places = c.args.places in
    let v : length (take places c.args.values.now) ≡ places = simp length-take (omega arith) in
    let m : length (take places c.args.marks.now) ≡ places = simp length-take (omega arith) in
    rw (c.fill.ensures.after (λ y e. e), c.fill-2.ensures.after (λ y e. e), v, m)
    (cleared_by places c.args.values.now c.args.marks.now c.requires.0 c.requires.1)
