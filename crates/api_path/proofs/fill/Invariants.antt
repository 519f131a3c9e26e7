-- `api_path::fill` meets its contract. The loop's invariant: the places passed hold their hops, the others 0.
use lib.IntN.{pos}
use Rattle.chain_path.specs.Path.{hops_of}
use Rattle.api_plan.proofs.Filling.{Progress}
use Rattle.api_path.specs.PathArrays.{record_at, field_letter_at, hop_value_at, hop_mark_at}
use Rattle.api_path.proofs.fill.Given as goal

abbrev pub invariant-loop-i : goal.invariant-loop-i
invariant-loop-i l =
    Progress 0 (record_at (hops_of l.path)) 16 l.i l.records
    × Progress 0 (field_letter_at (hops_of l.path)) 16 l.i l.fields
    × Progress (pos 0) (hop_value_at (hops_of l.path)) 16 l.i l.values
    × Progress 0 (hop_mark_at (hops_of l.path)) 16 l.i l.marks
