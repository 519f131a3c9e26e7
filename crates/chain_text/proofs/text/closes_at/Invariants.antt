-- `chain_text::text::closes_at` meets its contract. The loop's invariant: each of the first i bytes is `]`.
use Prim.Native.Nat.{◌-◌, ◌+◌, ◌≤◌}
use mathlib.Core.Path.{◌≡◌}
use mathlib.Core.Bool.{true}
use lib.ListN.{length, drop}
use Rattle.chain_text.specs.Scan.{closes}
use Rattle.chain_text.proofs.text.closes_at.Given as goal

abbrev pub invariant-loop-i : goal.invariant-loop-i
invariant-loop-i l = (l.i ≤ l.n) × (l.at + l.i ≤ length l.text) × (closes l.i (drop l.at l.text) ≡ true)

abbrev pub decreases-loop-i : goal.decreases-loop-i
decreases-loop-i l = l.n - l.i
