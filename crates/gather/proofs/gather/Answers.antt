-- `gather::gather` meets its contract: by following, or by the exchanges of all rounds.
use mathlib.Core.Path.{refl}
use Rattle.register.specs.View.{cells_in}
use Rattle.register.specs.File.{cells_of_file}
use Rattle.gather.proofs.gather.Goals as goal

pub fill-requires : goal.fill-requires
unfolding cells_in cells_of_file
fill-requires c =
    let parts = c.of-cells.ensures in
    rw (parts.0, parts.1, parts.2) (c.requires.0.valid, rw c.in-Direct.is at c.requires.1)

pub exchange_all-requires : goal.exchange_all-requires
unfolding cells_in cells_of_file
exchange_all-requires c =
    let parts = c.of-cells.ensures in
    rw (parts.0, parts.1, parts.2) (c.requires.0.valid, rw c.in-Messages.is at c.requires.1)

pub returns-in-Direct : goal.returns-in-Direct
unfolding cells_in cells_of_file
returns-in-Direct c =
    let parts = c.of-cells.ensures in
    rw c.in-Direct.is (rw (parts.0, parts.1, parts.2) at c.fill.ensures, refl)

pub returns-in-Messages : goal.returns-in-Messages
unfolding cells_in cells_of_file
returns-in-Messages c =
    let parts = c.of-cells.ensures in
    rw c.in-Messages.is (rw (parts.0, parts.1, parts.2) at c.exchange_all.ensures)
