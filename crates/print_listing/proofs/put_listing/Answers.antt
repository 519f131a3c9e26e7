-- `print_listing::put_listing` meets its contract: the cells of the file are those of its two parts.
use Rattle.register.specs.File.{cells_of_file}
use Rattle.register.specs.View.{cells_in}
use Rattle.print_page.proofs.Putting.{room-first, room_next, put-more}
use Rattle.print_listing.specs.Listing.{listing}
use Rattle.print_listing.proofs.put_listing.Goals as goal

pub put_header-at-requires : goal.put_header-at-requires
unfolding listing
put_header-at-requires c = room-first _ c.requires.2

pub put_records-requires : goal.put_records-requires
unfolding listing cells_of_file cells_in
put_records-requires c =
    let o = c.of-cells.ensures in
    rw (o.0, o.1, o.2) (room_next c.requires.2 c.put_header-at.ensures c.put_header-at.auto.page)

pub returns : goal.returns
unfolding listing cells_of_file cells_in
returns c =
    let o = c.of-cells.ensures in
    put-more c.put_header-at.ensures (rw (o.0, o.1, o.2) at c.put_records.ensures)
