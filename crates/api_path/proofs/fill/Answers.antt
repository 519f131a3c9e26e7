-- `api_path::fill` meets its contract. The loop's invariant: the places passed hold their hops, the others 0.
use Prim.Native.Nat.{◌≤◌, ◌<◌}
use mathlib.Core.Path.{ap, ◌∙◌}
use native.Mathlib.Omega.{arith}
use lib.IntN.{pos}
use lib.ListN.{length}
use mir.Syntax.{w64}
use mir.Facts.{to_z-of_z}
use Rattle.register.specs.Cells.{value_of, mark_of}
use Rattle.chain_path.specs.Path.{hops_of}
use Rattle.chain_path.proofs.Walking.{holds_count}
use Rattle.api_plan.specs.PlanArrays.{letter_of}
use Rattle.api_plan.proofs.Filling.{progress_next, progress_all}
use Rattle.api_path.specs.PathArrays.{record_at, field_letter_at, hop_value_at, hop_mark_at}
use Rattle.api_path.proofs.Hops.{hop-is, hop-behind}
use Rattle.api_path.proofs.fill.Goals as goal

pub loop-i-preserved : goal.loop-i-preserved
unfolding record_at field_letter_at hop_value_at hop_mark_at
loop-i-preserved c =
    let i = c.loop-i.i in
    let inv = c.loop-i.invariant in
    let same = c.listed-hop-items.ensures in
    let left = c.loop-i-test.true in
    let room : i < 16 = omega (arith, left, ap length same, holds_count c.requires, c.args.path.now.fits) in
    let value = to_z-of_z {w = w64} (record { sfits = c.value_of.type_inv }) ∙ c.value_of.ensures in (
      progress_next inv.0 room (hop-is (λ h. h.u) 0 _ i same left),
      progress_next inv.1 room (c.letter.ensures ∙ hop-is (λ h. letter_of h.field) 0 _ i same left),
      progress_next inv.2 room (value ∙ hop-is (λ h. value_of h.cell) (pos 0) _ i same left),
      progress_next inv.3 room (c.mark_of.ensures ∙ hop-is (λ h. mark_of h.cell) 0 _ i same left),
    )

pub returns : goal.returns
unfolding record_at field_letter_at hop_value_at hop_mark_at
returns c =
    let h = c.requires in
    let inv = c.loop-i.invariant in
    let all : length (hops_of c.args.path.now) ≤ c.loop-i.i = omega (arith, c.loop-i-test.false, ap length c.listed-hop-items.ensures) in
    record {
      records_are = progress_all inv.0 (λ k b. hop-behind (λ h. h.u) 0 h k (omega (arith, all)));
      fields_are = progress_all inv.1 (λ k b. hop-behind (λ h. letter_of h.field) 0 h k (omega (arith, all)));
      values_are = progress_all inv.2 (λ k b. hop-behind (λ h. value_of h.cell) (pos 0) h k (omega (arith, all)));
      marks_are = progress_all inv.3 (λ k b. hop-behind (λ h. mark_of h.cell) 0 h k (omega (arith, all)));
    }
