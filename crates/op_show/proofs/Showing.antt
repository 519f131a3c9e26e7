-- Places that are cleared, and then exchanges 1 to t, or all of them where t is past the last round.
use Prim.Native.Nat.{ℕ, ◌*◌, ◌≤◌, ◌<◌, min}
use mathlib.Core.Path.{◌≡◌, ◌∙◌}
use mathlib.Core.List.{List}
use mathlib.Core.Logic.{⊎_elim}
use native.Mathlib.Omega.{arith}
use lib.IntN.{ℤ}
use Rattle.register.specs.Shape.{Valid}
use Rattle.register.specs.declared.Sizes.{Sizes}
use Rattle.register.specs.declared.cells.Cell.{Cell}
use Rattle.plan_theory.specs.Plan.{round, last_round, line}
use Rattle.plan_lines.specs.Held.{facts}
use Rattle.plan_lines.specs.declared.Plan.{Plan}
use Rattle.laws.proofs.Cases.{lt_or_le}
use Rattle.machine_messages.proofs.Settling.{held-settled, held-before}
use Rattle.scratch.proofs.Placed.{kept_again}
use Rattle.gather_exchanges.specs.Lines.{StepPlanned}
use Rattle.gather_exchanges.specs.Exchanged.{ExchangedTo, Cleared}
use Rattle.gather_exchanges.proofs.Planned.{planned_count, planned-round, planned-last}
use Rattle.gather_exchanges.proofs.Sending.{held_over}
use Rattle.gather_line.proofs.Places.{stored-kept}
use Rattle.gather_line.proofs.Writing.{place-before}
use Rattle.op_show.specs.Shown.{Shown}

-- clearing and exchanging
module _ {s : Sizes} {cells : List Cell} {p : Plan} (planned : StepPlanned s p) (valid : Valid s cells)
    {t last made n : ℕ} {values values' values'' : List ℤ} {marks marks' marks'' : List ℕ} where
  pub shown : made ≡ min t last → last ≡ last_round (facts p) → Cleared (p.count * s.records) values marks values' marks'
      → ExchangedTo s cells p made values' marks' values'' marks'' n → Shown s cells (facts p) t values marks values'' marks''
  shown e all c x =
      let l = facts p in
      record {
        values_length = x.values_length ∙ c.values_length;
        marks_length = x.marks_length ∙ c.marks_length;
        held = λ i u h q.
            let inside = rw (planned_count planned) at h in
            let here = planned-round planned i inside in
            let to_last = planned-last planned i h in
            ⊎_elim
            (λ (b : made < round (line l i)).
            rw (held-before s cells t (line l i) u (omega arith))
            (stored-kept (c.missing _ (place-before s.records inside q)) (x.later i u inside q (omega arith))))
            (λ (b : round (line l i) ≤ made).
            rw (held-settled s cells made t (line l i) u b (omega arith), ← held_over planned cells valid made i u inside q)
            (x.held i u inside q (omega arith)))
            (lt_or_le made (round (line l i)));
        behind = λ j h. let b = rw (planned_count planned) at h in kept_again (c.behind j b) (x.behind j b);
      }
