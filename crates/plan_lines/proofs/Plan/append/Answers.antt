-- `plan_lines::Plan::append` meets its contract.
use Prim.Native.Nat.{◌<◌}
use native.Mathlib.Omega.{arith}
use Rattle.plan_keys.specs.Keys.{fact_of}
use Rattle.plan_lines.proofs.Appending.{holds-append, extended_full, extended-append}
use Rattle.plan_lines.proofs.Plan.append.Goals as goal

pub returns-then-i-eq64 : goal.returns-then-i-eq64
returns-then-i-eq64 c = (extended_full (fact_of c.args.line.key) c.requires.0 c.if-i-eq64.true, c.requires.0.keyed)

pub returns : goal.returns
returns c =
    let (h, n) = c.requires in
    let room : c.args.self.now.count < 64 = omega (arith, h.keyed, c.if-i-eq64.false) in
    (extended-append h n room, (holds-append h n room).keyed)
