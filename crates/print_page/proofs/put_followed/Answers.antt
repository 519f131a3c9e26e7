-- `print_page::put_followed` meets its contract.
use mir.Syntax.{w32}
use mir.Facts.{to_z-of_z}
use Rattle.print_page.specs.Decimal.{value_text}
use Rattle.print_page.specs.Put.{PagePut}
use Rattle.print_page.proofs.Putting.{room-first, room_next, put-more}
use Rattle.print_page.proofs.put_followed.Goals as goal

pub put_value-next-requires : goal.put_value-next-requires
put_value-next-requires c = let s = c in rw (to_z-of_z {w = w32} s.ranges.value) (room-first _ s.requires)

pub put_bytes-requires : goal.put_bytes-requires
put_bytes-requires c =
    let put : (let s = c in PagePut s.args.at (value_text s.args.value) s.args.page.now c.put_value-next.new.page c.put_value-next.result) = rw (to_z-of_z {w = w32} c.ranges.value) at c.put_value-next.ensures in
    let w = c in
    room_next w.requires (put) w.put_value-next.auto.page

pub returns : goal.returns
returns c =
    let put : (let s = c in PagePut s.args.at (value_text s.args.value) s.args.page.now c.put_value-next.new.page c.put_value-next.result) = rw (to_z-of_z {w = w32} c.ranges.value) at c.put_value-next.ensures in
    put-more (put) c.put_bytes.ensures
