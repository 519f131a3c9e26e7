-- `chain_path::Path::at_record` meets its contract. The loop's invariant: the hops noted and those still to come are the
-- whole path, and the reading reached is underway as in `chain::follow`.
use mathlib.Core.Path.{◌≡◌, ap, ◌∙◌}
use mathlib.Core.Bool.{true}
use mathlib.Core.List.{◌∷◌}
use native.Mathlib.Omega.{arith}
use borrow.Author.Rules.{rules}
use lib.IntN.{ℤ, nat_abs}
use lib.ListN.{length}
use mir.Syntax.{w32}
use mir.Val.{to_z, of_z}
use Rattle.integers.proofs.Complement.{kept}
use Rattle.chain.specs.Word.{unpack, refers_to}
use Rattle.chain.proofs.Packing.{unpack-none, first_some_lem, taken_apart}
use Rattle.chain.proofs.Following.{readable-field, readable-rest, named-index, named-below, hop-value, underway-first, underway-next}
use Rattle.chain_path.proofs.Walking.{field-read, walking_first, walking_next, walking_last, walking_missing}
use Rattle.chain_path.proofs.Path.at_record.Goals as goal

pub of_index-requires : goal.of_index-requires
of_index-requires c = let s = c in omega (arith, s.requires.1, s.requires.0.limits.records≤)

pub loop-rest-init : goal.loop-rest-init
loop-rest-init c =
    let s = c in
    let w = unpack s.args.chain in
    let e = kept c.of_index.result c.of_index.type_inv ∙ c.of_index.ensures in
    (s.requires.2.follows, rw e (underway-first w s.args.u s.requires.1), rw e (walking_first w s.args.u c.none-path.ensures s.requires.2.short))

pub returns-in_default : goal.returns-in_default
returns-in_default c = walking_missing c.loop-rest.invariant.2 c.in_default.is

pub index-at-requires : goal.index-at-requires
index-at-requires c =
    let value : ℤ = c.in-Some.value in
    let names : refers_to c.args.cells.now.sizes.records c.loop-rest.reading ≡ true = c.loop-rest.invariant.1.refers (first_some_lem c.first_hop-field.ensures) in
    let value-is : to_z w32 (of_z w32 (value)) ≡ value = kept (value) (search rules) in
    rw (value-is) (named-index _ _ c.in-Some.is (names))

pub field_cell-cell-requires : goal.field_cell-cell-requires
field_cell-cell-requires c =
    let value : ℤ = c.in-Some.value in
    let names : refers_to c.args.cells.now.sizes.records c.loop-rest.reading ≡ true = c.loop-rest.invariant.1.refers (first_some_lem c.first_hop-field.ensures) in
    let value-is : to_z w32 (of_z w32 (value)) ≡ value = kept (value) (search rules) in
    let index_is : c.index-at.result ≡ nat_abs (value) = c.index-at.ensures ∙ ap nat_abs (value-is) in
    let h = c in
    let below = named-below _ _ h.in-Some.is (names) in
    (rw (index_is) below, readable-field _ h.first_hop-field.ensures.splits h.loop-rest.invariant.0)

pub push-requires : goal.push-requires
push-requires c =
    let split = c.first_hop-field.ensures in
    (c.loop-rest.invariant.2.holds, omega (arith, c.loop-rest.invariant.2.room, ap length split.splits), split.below)

pub loop-rest-smaller : goal.loop-rest-smaller
loop-rest-smaller c =
    let apart : (let h = c in unpack h.loop-rest.rest ≡ h.first_hop-field.result ∷ unpack c.rest_hops-rest.result) = taken_apart c.first_hop-field.ensures c.rest_hops-rest.ensures in
    omega (arith, ap length (apart))

pub loop-rest-preserved : goal.loop-rest-preserved
loop-rest-preserved c =
    let value : ℤ = c.in-Some.value in
    let value-is : to_z w32 (of_z w32 (value)) ≡ value = kept (value) (search rules) in
    let index_is : c.index-at.result ≡ nat_abs (value) = c.index-at.ensures ∙ ap nat_abs (value-is) in
    let apart : (let h = c in unpack h.loop-rest.rest ≡ h.first_hop-field.result ∷ unpack c.rest_hops-rest.result) = taken_apart c.first_hop-field.ensures c.rest_hops-rest.ensures in
    let i = c in
    let h = i in
    let inv = h.loop-rest.invariant in
    let reached = h.in-Some.is in
    let cell = c.field_cell-cell.ensures in
    let read = c.read_of-reading.ensures in (
      readable-rest _ (apart) inv.0,
      underway-next inv.1 h.requires.0 (apart) inv.0 (read ∙ field-read _ _ _ _ cell ∙ hop-value _ _ _ reached (index_is)),
      walking_next inv.2 (apart) reached (index_is) cell read c.push.ensures,
    )

pub returns : goal.returns
returns c = walking_last c.loop-rest.invariant.2 (ap unpack c.loop-rest-test.false ∙ unpack-none)
