-- `register_check::check_record` meets its contract. The loops' invariants: no field passed is refused.
use mathlib.Core.Path.{◌≡◌}
use Rattle.laws.specs.Outcome.{first}
use Rattle.register.specs.Load.{refusal_at}
use Rattle.register_check.proofs.check_record.Given as goal

abbrev pub invariant-loop-f : goal.invariant-loop-f
invariant-loop-f l = first l.f (refusal_at l.cells.sizes l.cells.values.now l.cells.marks.now l.u) ≡ 0

abbrev pub invariant-loop-f-2 : goal.invariant-loop-f-2
invariant-loop-f-2 l = first l.f (refusal_at l.cells.sizes l.cells.values.now l.cells.marks.now l.u) ≡ 0
