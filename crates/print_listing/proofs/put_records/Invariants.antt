-- `print_listing::put_records` meets its contract. The loop's invariant: the page keeps its length, and the lines of the records
-- passed stand on it.
use mathlib.Core.Path.{◌≡◌}
use lib.ListN.{length}
use Rattle.register.specs.View.{cells_in}
use Rattle.print_page.specs.Put.{PagePut}
use Rattle.print_listing.specs.Listing.{in_a_row, record_line}
use Rattle.print_listing.proofs.put_records.Given as goal

abbrev pub invariant-loop-u : goal.invariant-loop-u
invariant-loop-u l =
    (length l.page ≡ length l.initial.page) × PagePut l.at (in_a_row l.u (record_line l.cells.sizes (cells_in l.cells))) l.initial.page l.page l.next
