-- `gather_hops::begin_line` meets its contract. The loop's invariant: what the records passed read by two hops is stored.
use mathlib.Core.List.{◌∷◌, []}
use Rattle.register.specs.View.{cells_in}
use Rattle.chain.specs.Word.{value_at_record}
use Rattle.scratch.specs.Places.{StoredFrom}
use Rattle.gather_hops.proofs.begin_line.Given as goal

abbrev pub invariant-loop-u : goal.invariant-loop-u
invariant-loop-u l = StoredFrom l.first l.u (value_at_record l.cells.sizes (cells_in l.cells) (l.field ∷ l.next ∷ [])) l.initial.values l.initial.marks l.values l.marks
