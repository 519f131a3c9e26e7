-- `print_listing::put_record` meets its contract. The loop's invariant: the page keeps its length, and the fields passed stand
-- behind the record's number.
use mathlib.Core.Path.{◌≡◌}
use lib.ListN.{length}
use Rattle.register.specs.View.{cells_in}
use Rattle.print_page.specs.Put.{PagePut}
use Rattle.print_listing.specs.Listing.{in_a_row, field_text}
use Rattle.print_listing.proofs.put_record.Given as goal

abbrev pub invariant-loop-f : goal.invariant-loop-f
invariant-loop-f l =
    (length l.page ≡ length l.initial.page) × PagePut l.initial.next (in_a_row l.f (field_text l.cells.sizes (cells_in l.cells) l.u)) l.initial.page l.page l.next
