-- `plan_keys::word::split` meets its contract.
use mathlib.Core.Path.{◌≡◌, ap, ◌∙◌}
use native.Mathlib.Omega.{arith}
use lib.ListN.{length}
use Rattle.chain.specs.Word.{unpack}
use Rattle.plan_theory.specs.Plan.{half as half_of, front as frontOf, rest as rest_of}
use Rattle.plan_theory.proofs.Half.{half-below}
use Rattle.plan_keys.proofs.word.split.Goals as goal

pub split_at-requires : goal.split_at-requires
split_at-requires c =
    let h_is : c.half.result ≡ half_of (length (unpack c.args.chain)) = c.half.ensures ∙ ap half_of c.hops.ensures in
    let w = unpack c.args.chain in
    omega (arith, h_is, half-below (length w) (omega arith))

pub returns : goal.returns
unfolding frontOf rest_of
returns c =
    let h_is : c.half.result ≡ half_of (length (unpack c.args.chain)) = c.half.ensures ∙ ap half_of c.hops.ensures in
    let e = rw (h_is) at c.split_at.ensures in
    record { front-is = e.front-is; rest-is = e.rest-is }
