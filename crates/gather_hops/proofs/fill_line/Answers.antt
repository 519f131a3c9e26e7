-- `gather_hops::fill_line` meets its contract. The loop's invariant: the places are underway, with the rest of the chain to follow.
use Prim.Native.Nat.{ℕ}
use mathlib.Core.Path.{◌≡◌, refl, ap, ◌∙◌}
use mathlib.Core.List.{List, ◌∷◌}
use native.Mathlib.Omega.{arith}
use lib.ListN.{length, drop}
use Rattle.chain.specs.Word.{unpack}
use Rattle.chain.proofs.Packing.{unpack-none, packed_some, taken_apart}
use Rattle.chain.proofs.Following.{readable-field}
use Rattle.scratch.proofs.Storing.{stored_over_lem}
use Rattle.gather_hops.proofs.Hopping.{readable-two, line-begun, line-referring, line_on, line-done}
use Rattle.gather_hops.proofs.fill_line.Goals as goal

pub overflow_mul-first : goal.overflow_mul-first
overflow_mul-first c = record { fits = omega arith }

pub first_hop-field-requires : goal.first_hop-field-requires
first_hop-field-requires c = packed_some _ (omega (arith, c.requires.2))

pub first_hop-second-requires : goal.first_hop-second-requires
first_hop-second-requires c =
    let first-apart : unpack c.args.chain ≡ c.first_hop-field.result ∷ unpack c.rest_hops-behind.result = taken_apart c.first_hop-field.ensures c.rest_hops-behind.ensures in
    packed_some _ (omega (arith, ap length first-apart, c.requires.2))

pub begin_line-requires : goal.begin_line-requires
begin_line-requires c =
    let first-apart : unpack c.args.chain ≡ c.first_hop-field.result ∷ unpack c.rest_hops-behind.result = taken_apart c.first_hop-field.ensures c.rest_hops-behind.ensures in
    let two-apart : (r : List ℕ) → r ≡ drop 1 (unpack c.rest_hops-behind.result) → unpack c.args.chain ≡ c.first_hop-field.result ∷ c.first_hop-second.result ∷ r = λ r e. first-apart ∙ ap (λ (w : List ℕ). c.first_hop-field.result ∷ w) (taken_apart c.first_hop-second.ensures e) in
    (c.requires.0, readable-two _ (two-apart _ refl) c.requires.1, c.requires.3, c.requires.4)

pub loop-rest-init : goal.loop-rest-init
loop-rest-init c =
    let first-apart : unpack c.args.chain ≡ c.first_hop-field.result ∷ unpack c.rest_hops-behind.result = taken_apart c.first_hop-field.ensures c.rest_hops-behind.ensures in
    let two-apart : (r : List ℕ) → r ≡ drop 1 (unpack c.rest_hops-behind.result) → unpack c.args.chain ≡ c.first_hop-field.result ∷ c.first_hop-second.result ∷ r = λ r e. first-apart ∙ ap (λ (w : List ℕ). c.first_hop-field.result ∷ w) (taken_apart c.first_hop-second.ensures e) in
    line-begun c.requires.0 (two-apart _ c.rest_hops-rest.ensures) c.requires.1 c.begin_line.ensures

pub advance-requires : goal.advance-requires
advance-requires c =
    let so_far = c.loop-rest.invariant in (
      readable-field _ c.first_hop-next.ensures.splits so_far.follows,
      omega (arith, so_far.stored.values_length),
      omega (arith, so_far.stored.marks_length),
      line-referring so_far c.first_hop-next.ensures,
    )

pub loop-rest-smaller : goal.loop-rest-smaller
loop-rest-smaller c =
    let apart : unpack c.loop-rest.rest ≡ c.first_hop-next.result ∷ unpack c.rest_hops-rest-in-loop-rest.result = taken_apart c.first_hop-next.ensures c.rest_hops-rest-in-loop-rest.ensures in
    omega (arith, ap length apart)

pub loop-rest-preserved : goal.loop-rest-preserved
loop-rest-preserved c =
    let apart : unpack c.loop-rest.rest ≡ c.first_hop-next.result ∷ unpack c.rest_hops-rest-in-loop-rest.result = taken_apart c.first_hop-next.ensures c.rest_hops-rest-in-loop-rest.ensures in
    line_on c.loop-rest.invariant c.requires.0 apart c.advance.ensures

-- the hops behind the first two, over what these read
pub returns : goal.returns
returns c =
    stored_over_lem c.begin_line.ensures (line-done c.loop-rest.invariant (ap unpack c.loop-rest-test.false ∙ unpack-none))
