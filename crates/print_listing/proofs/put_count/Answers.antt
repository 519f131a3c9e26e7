-- `print_listing::put_count` meets its contract.
use Rattle.print_page.proofs.Putting.{room-first, room_next, put-more}
use Rattle.print_listing.proofs.put_count.Goals as goal

pub put_number-next-requires : goal.put_number-next-requires
put_number-next-requires c = room-first _ c.requires

pub put_bytes-requires : goal.put_bytes-requires
put_bytes-requires c =
    let w = c.put_number-next in
    room_next c.requires w.ensures w.auto.page

pub returns : goal.returns
returns c = put-more c.put_number-next.ensures c.put_bytes.ensures
