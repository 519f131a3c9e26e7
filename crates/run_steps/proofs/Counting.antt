-- What a run has counted, step by step: exchanges and messages by each machine.
use Prim.Native.Nat.{ℕ}
use mathlib.Core.Path.{◌≡◌, refl, ap, ap₂}
use mathlib.Core.Bool.{Bool, cond}
use mathlib.Core.List.{List, [], ◌∷◌, ◌++◌}
use native.Mathlib.Nat.{add_assoc}
use lib.ListN.{length}
use Rattle.register.specs.Shape.{Valid}
use Rattle.register.specs.declared.Sizes.{Sizes}
use Rattle.register.specs.declared.cells.Cell.{Cell}
use Rattle.plan_theory.specs.Plan.{Fact, last_round}
use Rattle.program.specs.Program.{Step, readings, step_plan, has_remote}
use Rattle.program.specs.Passed.{RulesPass}
use Rattle.machine.specs.Remote.{record_messages}
use Rattle.machine.specs.Run.{direct}
use Rattle.machine.proofs.Running.{Trace}
use Rattle.machine_messages.specs.Held.{held_after}
use Rattle.machine_messages.specs.Counts.{most_rounds, held_in, plan_messages, step_exchanges, step_messages, trace_exchanges, trace_messages}
use Rattle.machine_messages.specs.By.{exchanges_by, messages_by}
use Rattle.machine_messages.specs.declared.Machine.{Machine}
use Rattle.machine_messages.specs.declared.Machine.TheVariants.{Direct, Messages}
use Rattle.machine_messages.proofs.Rounds.{most-last}
use Rattle.machine_messages.proofs.Same.{step-writes}
use Rattle.machine_messages.proofs.Counting.{exchanges_more, messages-more}
use Rattle.gather.specs.Gathered.{counted_by}
use Rattle.gather.specs.Counted.{no_counts, counts_after}
use Rattle.run_steps.specs.Answer.{counts_of}
use Rattle.gather.specs.declared.counts.Counts.{Counts}

-- no step is finished
pub counts_none : (m : Machine) (s : Sizes) → no_counts ≡ counts_of m s []
unfolding exchanges_by messages_by trace_exchanges trace_messages
counts_none Direct s = refl
counts_none Messages s = refl

-- one more is
counts_more : (m : Machine) {s : Sizes} (trace : Trace) (x : Step) {cells : List Cell} → RulesPass s x.rules → Valid s cells
    → counts_after m (counts_of m s trace) (counted_by m s cells (step_plan x.rules)) (has_remote x.rules)
    (length (record_messages (direct s x.rules cells) x.rules s.records))
    ≡ counts_of m s (trace ++ ((x, cells) ∷ []))
unfolding exchanges_by messages_by step_exchanges step_messages held_in step_plan
counts_more Direct trace x k v = refl
counts_more Messages {s} trace x {cells} k v =
    let rs = x.rules in
    let last : most_rounds (readings rs) ≡ last_round (step_plan rs) = most-last (readings rs) in
    let held = plan_messages (held_after s cells (last_round (step_plan rs))) (step_plan rs) s.records in
    let writes = length (record_messages (direct s rs cells) rs s.records) in
    rw (exchanges_more trace x cells, messages-more s trace x cells, last, ap length (step-writes k v))
    (ap₂ (λ (a b : ℕ). record { exchanges = a; messages = b })
    (add_assoc (trace_exchanges trace) (last_round (step_plan rs)) (cond (has_remote rs) 1 0))
    (add_assoc (trace_messages s trace) held writes))

-- the same, by what the code has of them
pub counts_step : (m : Machine) {s : Sizes} (trace : Trace) (x : Step) {cells : List Cell} → RulesPass s x.rules → Valid s cells
    → {c : Counts} {g : Counts} {l : List Fact} {sends : Bool} {sent : ℕ} → c ≡ counts_of m s trace → g ≡ counted_by m s cells l → l ≡ step_plan x.rules
    → sends ≡ has_remote x.rules → sent ≡ length (record_messages (direct s x.rules cells) x.rules s.records)
    → counts_after m c g sends sent ≡ counts_of m s (trace ++ ((x, cells) ∷ []))
counts_step m trace x k v c g l b n = rw (c, g, l, b, n) (counts_more m trace x k v)
