-- `plan_lines::Plan::empty` meets its contract.
use mathlib.Core.Path.{refl}
use native.Mathlib.Omega.{arith}
use Rattle.plan_lines.specs.Held.{facts_in}
use Rattle.plan_lines.proofs.Plan.empty.Goals as goal

pub returns : goal.returns
unfolding facts_in
returns c =
    record {
      facts_are = refl;
      keyed = record { places = refl; taken≤ = omega arith };
      ordered = λ i h. absurd (omega arith);
      rounds_are = record { places = refl; entry = λ i h. absurd (omega arith) };
      backs_are = record { places = refl; entry = λ i h. absurd (omega arith) };
      reads_are = record { places = refl; entry = λ i h. absurd (omega arith) };
    }
