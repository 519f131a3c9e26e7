-- `chain::follow::follow` meets its contract. The loop's invariant: following what is left from the reading reached gives the same reading.
use mathlib.Core.Path.{◌≡◌, ap, ◌∙◌}
use mathlib.Core.Bool.{true}
use mathlib.Core.List.{◌∷◌}
use native.Mathlib.Omega.{arith}
use borrow.Author.Rules.{rules}
use lib.IntN.{ℤ, nat_abs}
use lib.ListN.{length}
use mir.Syntax.{w32}
use mir.Val.{to_z, of_z}
use Rattle.integers.proofs.Complement.{kept}
use Rattle.chain.specs.Word.{unpack, refers_to}
use Rattle.chain.proofs.Packing.{unpack-none, first_some_lem, taken_apart}
use Rattle.chain.proofs.Following.{readable-field, readable-rest, named-index, named-below, hop-value, underway-first, underway-next, underway-last, underway_missing}
use Rattle.chain.proofs.follow.follow.Goals as goal

pub of_index-requires : goal.of_index-requires
of_index-requires c = let s = c in omega (arith, s.requires.1, s.requires.0.limits.records≤)

pub loop-rest-init : goal.loop-rest-init
loop-rest-init c =
    let s = c in
    (s.requires.2, rw (kept c.of_index.result c.of_index.type_inv ∙ c.of_index.ensures) (underway-first _ s.args.u s.requires.1))

pub returns-in_err-reading : goal.returns-in_err-reading
returns-in_err-reading c = c.from_residual.ensures ∙ underway_missing c.loop-rest.invariant.1 c.in_err-reading.was

pub index-requires : goal.index-requires
index-requires c =
    let value : ℤ = c.in_ok-reading.field-0 in
    let names : refers_to c.args.cells.now.sizes.records c.loop-rest.reading ≡ true = c.loop-rest.invariant.1.refers (first_some_lem c.first_hop-field.ensures) in
    let value-is : to_z w32 (of_z w32 value) ≡ value = kept value (search rules) in
    rw value-is (named-index _ _ c.in_ok-reading.was names)

pub read_cell-reading-requires : goal.read_cell-reading-requires
read_cell-reading-requires c =
    let value : ℤ = c.in_ok-reading.field-0 in
    let names : refers_to c.args.cells.now.sizes.records c.loop-rest.reading ≡ true = c.loop-rest.invariant.1.refers (first_some_lem c.first_hop-field.ensures) in
    let value-is : to_z w32 (of_z w32 value) ≡ value = kept value (search rules) in
    let index_is : c.index.result ≡ nat_abs value = c.index.ensures ∙ ap nat_abs value-is in
    let h = c in
    let below = named-below _ _ h.in_ok-reading.was names in
    (rw index_is below, readable-field _ h.first_hop-field.ensures.splits h.loop-rest.invariant.0)

pub loop-rest-smaller : goal.loop-rest-smaller
loop-rest-smaller c =
    let apart : (let h = c in unpack h.loop-rest.rest ≡ h.first_hop-field.result ∷ unpack c.rest_hops-rest.result) = taken_apart c.first_hop-field.ensures c.rest_hops-rest.ensures in
    omega (arith, ap length apart)

pub loop-rest-preserved : goal.loop-rest-preserved
loop-rest-preserved c =
    let value : ℤ = c.in_ok-reading.field-0 in
    let value-is : to_z w32 (of_z w32 value) ≡ value = kept value (search rules) in
    let index_is : c.index.result ≡ nat_abs value = c.index.ensures ∙ ap nat_abs value-is in
    let apart : (let h = c in unpack h.loop-rest.rest ≡ h.first_hop-field.result ∷ unpack c.rest_hops-rest.result) = taken_apart c.first_hop-field.ensures c.rest_hops-rest.ensures in
    let h = c in
    let inv = h.loop-rest.invariant in
    let hopped = c.read_cell-reading.ensures ∙ hop-value _ _ _ h.in_ok-reading.was index_is in
    (readable-rest _ apart inv.0, underway-next inv.1 h.requires.0 apart inv.0 hopped)

pub returns : goal.returns
returns c = underway-last c.loop-rest.invariant.1 (ap unpack c.loop-rest-test.false ∙ unpack-none)
