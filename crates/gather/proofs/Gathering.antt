-- Readings gathered by messages are those that following gives.
use Prim.Native.Nat.{ℕ, ◌*◌, ◌≤◌}
use mathlib.Core.Path.{◌≡◌, ap, ap₂, subst, ◌∙◌}
use mathlib.Core.Bool.{Bool}
use mathlib.Core.List.{List}
use native.Mathlib.Omega.{arith}
use lib.IntN.{ℤ}
use lib.ListN.{length}
use Rattle.register.specs.Shape.{Valid}
use Rattle.register.specs.declared.Sizes.{Sizes}
use Rattle.register.specs.declared.cells.Cell.{Cell}
use Rattle.chain.specs.Word.{value_at_record}
use Rattle.plan_theory.specs.Plan.{Fact, hops, line_from, word, last_round}
use Rattle.plan_lines.specs.Held.{facts}
use Rattle.plan_lines.specs.declared.Plan.{Plan}
use Rattle.machine_messages.proofs.Telling.{told}
use Rattle.machine_messages.specs.declared.Machine.{Machine}
use Rattle.machine_messages.specs.declared.Machine.TheVariants.{Direct, Messages}
use Rattle.gather_follow.specs.Filled.{FollowLines, Filled}
use Rattle.gather_exchanges.specs.Lines.{StepPlanned}
use Rattle.gather_exchanges.specs.Exchanged.{ExchangedTo}
use Rattle.gather_exchanges.proofs.Counting.{lines_le}
use Rattle.gather_exchanges.proofs.Planned.{planned_count, planned-round, planned-lines, planned-rounds}
use Rattle.gather_exchanges.proofs.Planned.{planned_has_line, planned-follows, planned-readable, planned-last}
use Rattle.gather_exchanges.proofs.Sending.{held_over, messages_over}
use Rattle.gather_line.proofs.Places.{stored-place, stored-fits}
use Rattle.gather.specs.Gathered.{GatherReady, Gathered, GatheredBy}
use Rattle.gather.specs.declared.counts.Counts.{Counts}

module _ {s : Sizes} {p : Plan} (planned : StepPlanned s p) where
  -- its Read lines can be followed
  planned_fills : FollowLines s (facts p)
  planned_fills =
      record {
        each = λ i w h e. planned-readable planned i h e;
        two = λ i w h e. subst (λ (f : Fact). line_from f ≤ hops f) e (planned_has_line planned i h);
      }

  -- it is ready for either machine
  pub planned-ready : (m : Machine) (wanted : List Bool) (values : List ℤ) (marks : List ℕ) → length wanted ≡ 64
      → p.count * s.records ≤ length values → p.count * s.records ≤ length marks → GatherReady m s p wanted values marks
  planned-ready Direct wanted values marks w v k =
      record {
        keys_length = planned.keys_length;
        count≤ = planned.promised.count≤;
        wanted_length = w;
        follow = planned_fills;
        values_room = v;
        marks_room = k;
      }
  planned-ready Messages wanted values marks w v k = record { lines = planned-lines planned; values_room = v; marks_room = k }

  module _ {cells : List Cell} {wanted : List Bool} {values values' : List ℤ} {marks marks' : List ℕ} (v : Valid s cells) where
    told-filled : {t n : ℕ} → t ≡ last_round (facts p) → ExchangedTo s cells p t values marks values' marks' n
        → Filled s cells (facts p) wanted (length (facts p)) values marks values' marks'
    told-filled {t} all x =
        record {
          values_length = x.values_length;
          marks_length = x.marks_length;
          reads = λ i u w h b _ e.
              let inside = rw (planned_count planned) at h in
              let last = planned-last planned i h in
              let at = x.held i u inside b (omega (arith, planned-round planned i inside)) in
              let reads-there = ap (λ (f : Fact). value_at_record s cells (word f) u) e in
              record {
                place_is =
                    stored-place at ∙ held_over planned cells v t i u inside b
                    ∙ told v _ (planned-follows planned i h) (planned_has_line planned i h) t u (omega arith) b ∙ reads-there;
                fits = stored-fits at;
              };
          behind = λ j h. x.behind j (rw (planned_count planned) at h);
        }

    -- what either machine makes
    pub gathered_by : {r : Counts} (m : Machine) → Gathered m s cells p wanted values marks values' marks' r
        → GatheredBy m s cells (facts p) wanted values marks values' marks' r
    gathered_by Direct (filled, none) =
        record {
          filled = rw (planned_count planned) filled;
          counted = none;
          few_exchanges = rw none (omega arith);
          few_messages = rw none (omega arith);
        }
    gathered_by {r} Messages x =
        let last = x.last.last-is _ (planned_count planned) (planned-rounds planned) in
        let sum = x.exchanged.messages ∙ messages_over planned cells v r.exchanges in
        record {
          filled = told-filled last x.exchanged;
          counted = ap₂ (λ (a b : ℕ). record { exchanges = a; messages = b }) last (rw last at sum);
          few_exchanges = x.few;
          few_messages = rw (planned_count planned, x.exchanged.messages) (lines_le _ p.count s.records);
        }
