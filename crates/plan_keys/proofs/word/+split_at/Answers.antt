-- `plan_keys::word::split_at` meets its contract: it calls itself on the chain behind the first hop, for one hop less.
use Prim.Native.Nat.{suc, ◌-◌}
use mathlib.Core.Path.{◌≡◌, refl, ap, ◌∙◌}
use native.Mathlib.Omega.{arith}
use lib.ListN.{length, length-take}
use Rattle.chain.specs.Word.{unpack}
use Rattle.chain.proofs.Packing.{unpack-none, packed_some}
use Rattle.plan_keys.proofs.Words.{packed_small, front-more, rest_more}
use Rattle.plan_keys.proofs.word.+split_at.Goals as goal

pub returns-then-h-eq0 : goal.returns-then-h-eq0
returns-then-h-eq0 t c = rw c.if-h-eq0.true (record { front-is = unpack-none; rest-is = refl })

pub first_hop-first-requires : goal.first_hop-first-requires
first_hop-first-requires t c = packed_some _ (omega (arith, c.if-h-eq0.false, c.requires.1))

pub push-requires : goal.push-requires
push-requires t c =
    let few = ap length c.split_at-behind.ensures.front-is in
    let taken = length-take (c.args.h - 1) (unpack c.rest_hops-inner.result) in
    let small = packed_small c.split_at-behind.result.front 15 (omega (arith, few, taken, c.requires.0)) in
    omega (arith, small, c.first_hop-first.ensures.below)

pub returns : goal.returns
returns t c =
    let h : suc (c.args.h - 1) ≡ c.args.h = omega (arith, c.if-h-eq0.false) in
    let first = c.first_hop-first.ensures in
    let inner = c.rest_hops-inner.ensures in
    record {
      front-is = ap unpack c.push.ensures ∙ rw h at (front-more c.args.chain _ first inner (c.args.h - 1) _ c.split_at-behind.ensures.front-is);
      rest-is = rw h at (rest_more c.args.chain _ first inner (c.args.h - 1) _ c.split_at-behind.ensures.rest-is);
    }
