-- `register_check::check_cells` meets its contract. The loop's invariant: no record passed is refused.
use mathlib.Core.Path.{◌≡◌}
use Rattle.register.specs.Load.{record_refusal}
use Rattle.laws.specs.Outcome.{first}
use Rattle.register_check.proofs.check_cells.Given as goal

abbrev pub invariant-loop-u : goal.invariant-loop-u
invariant-loop-u l = first l.u (record_refusal l.cells.sizes l.cells.values.now l.cells.marks.now) ≡ 0
