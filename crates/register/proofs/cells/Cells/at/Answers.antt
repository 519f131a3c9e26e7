-- `register::cells::Cells::at` meets its contract: cell j of the two arrays is that of their list.
use mathlib.Core.Path.{sym, ◌∙◌}
use native.Mathlib.Omega.{arith}
use Rattle.register.specs.View.{cells_in}
use Rattle.register.proofs.Arrays.{cells_of-at}
use Rattle.register.proofs.cells.Cells.at.Goals as goal

pub returns : goal.returns
unfolding cells_in
returns c = c.cell_at.ensures ∙ sym (cells_of-at _ _ _ (omega (arith, c.args.self.now.parts.marks_length)))
