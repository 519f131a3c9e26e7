-- `print_listing::put_refused` meets its contract.
use mathlib.Core.Path.{◌∙◌}
use Rattle.print_page.proofs.Putting.{room-first, room_next, put-more}
use Rattle.print_listing.specs.Listing.{counted, refused_line}
use Rattle.print_listing.proofs.put_refused.Goals as goal

pub put_bytes-number-requires : goal.put_bytes-number-requires
unfolding refused_line
put_bytes-number-requires c =
    let s = c in
    room-first (counted s.args.refusal " at ") (room-first (counted s.args.place "\n") s.requires)

pub put_count-next-requires : goal.put_count-next-requires
unfolding refused_line
put_count-next-requires c =
    let one = c.put_bytes-number in
    room_next (room-first _ c.requires) one.ensures one.auto.page

pub put_count-requires : goal.put_count-requires
unfolding refused_line
put_count-requires c =
    let start = c in
    let one = c.put_bytes-number in
    let two = c.put_count-next in
    room_next start.requires (put-more one.ensures two.ensures) (two.auto.page ∙ one.auto.page)

pub returns : goal.returns
unfolding refused_line
returns c =
    let one = c.put_bytes-number in
    let two = c.put_count-next in
    put-more (put-more one.ensures two.ensures) c.put_count.ensures
