-- `run_steps::run_steps` meets its contract. The loop over the steps keeps where the run of the definition stands; a step's rules are
-- taken out of the slots, and then done for each record, each rule in order.
use Prim.Native.Nat.{◌-◌, ◌<◌}
use mathlib.Core.Path.{◌≡◌}
use lib.ListN.{length, take}
use Rattle.register.specs.File.{cells_of_file}
use Rattle.program.specs.Kept.{steps_in}
use Rattle.step_rules.specs.Ready.{AllPlain}
use Rattle.run_steps.proofs.Loops.{Taken, RulesDone, RecordsDone}
use Rattle.run_steps.proofs.Standing.{StandsBy, turns}
use Rattle.run_steps.proofs.Turn.{Held}
use Rattle.run_steps.proofs.run_steps.Given as goal

-- the first k rules of the step are taken out, and it is seen whether they are plain
abbrev pub invariant-loop-k : goal.invariant-loop-k
invariant-loop-k l = Taken l.slots l.step l.frame.rules l.rules l.k × AllPlain l.plain (take l.k l.rules)

abbrev pub decreases-loop-k : goal.decreases-loop-k
decreases-loop-k l = l.frame.rules - l.k

-- the first k rules are done at record u
abbrev pub invariant-loop-k-2 : goal.invariant-loop-k-2
invariant-loop-k-2 l = RulesDone l.sizes (cells_of_file l.sizes l.out) l.base l.codes l.rules l.used l.u l.initial.values l.initial.marks l.values l.marks l.stop l.k

abbrev pub decreases-loop-k-2 : goal.decreases-loop-k-2
decreases-loop-k-2 l = l.used - l.k

-- all rules are done at the records below u
abbrev pub invariant-records : goal.invariant-records
invariant-records l = RecordsDone l.sizes (cells_of_file l.sizes l.out) l.base l.codes l.rules l.used l.initial.values l.initial.marks l.values l.marks l.stop l.u

abbrev pub decreases-records : goal.decreases-records
decreases-records l = l.sizes.records - l.u

-- how far the run has come, the arrays have the lengths that they had, and the frame and rules of step `taken` are held, where that is
-- a step
abbrev pub invariant-loop-sizes : goal.invariant-loop-sizes
invariant-loop-sizes l =
    StandsBy l.machine l.sizes (steps_in l.codes l.slots (take l.steps l.frames)) l.at l.budget l.initial.out l.run l.out l.values l.marks
    × (length l.rules ≡ 32) × (length l.out ≡ length l.initial.out) × (length l.values ≡ length l.initial.values) × (length l.marks ≡ length l.initial.marks)
    × (l.taken < l.steps → Held l.slots l.frames l.taken l.frame l.rules l.plain)

abbrev pub decreases-loop-sizes : goal.decreases-loop-sizes
decreases-loop-sizes l = turns l.budget l.run
