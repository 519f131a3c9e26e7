-- `print_listing::put_record` meets its contract. The loop's invariant: the page keeps its length, and the fields passed stand
-- behind the record's number.
use mathlib.Core.Path.{◌≡◌, refl, ◌∙◌}
use native.Mathlib.Omega.{arith}
use Rattle.register.specs.File.{width}
use Rattle.register.proofs.Bounds.{cell_index-below}
use Rattle.print_page.proofs.Putting.{room-first, room_next, put_nothing, put-more}
use Rattle.print_listing.specs.Listing.{in_a_row, field_text, record_line}
use Rattle.print_listing.proofs.Rows.{row_more, row_room}
use Rattle.print_listing.proofs.put_record.Goals as goal

pub put_number-next-requires : goal.put_number-next-requires
unfolding record_line
put_number-next-requires c = room-first _ (room-first _ c.requires.1)

pub loop-f-init : goal.loop-f-init
unfolding in_a_row
loop-f-init c = (refl, put_nothing _ _)

pub cell_index-requires : goal.cell_index-requires
unfolding width
cell_index-requires c = (c.args.cells.now.parts.limits, c.requires.0, c.loop-f-test.true)

pub at-cell-requires : goal.at-cell-requires
unfolding width
at-cell-requires c = rw c.cell_index.ensures (cell_index-below c.args.cells.now.sizes c.args.u c.loop-f.f c.requires.0 c.loop-f-test.true)

pub put_byte-next-requires : goal.put_byte-next-requires
unfolding record_line field_text width
put_byte-next-requires c =
    let n = c.put_number-next in
    let fields = room_next (room-first _ c.requires.1) n.ensures n.auto.page in
    room-first _ (row_room _ fields c.loop-f-test.true c.loop-f.invariant.1 c.loop-f.invariant.0)

pub put_cell-next-requires : goal.put_cell-next-requires
unfolding record_line field_text width
put_cell-next-requires c =
    let n = c.put_number-next in
    let fields = room_next (room-first _ c.requires.1) n.ensures n.auto.page in
    let w = c.put_byte-next in
    rw (c.at-cell.ensures, c.cell_index.ensures) (room_next (row_room _ fields c.loop-f-test.true c.loop-f.invariant.1 c.loop-f.invariant.0) w.ensures w.auto.page)

pub loop-f-preserved : goal.loop-f-preserved
unfolding field_text width
loop-f-preserved c =
    let l = c.loop-f in
    let b = c.put_byte-next in
    let w = c.put_cell-next in
    let put = rw (c.at-cell.ensures, c.cell_index.ensures) at w.ensures in
    (w.auto.page ∙ b.auto.page ∙ l.invariant.0, rw row_more (put-more l.invariant.1 (put-more b.ensures put)))

pub put_byte-requires : goal.put_byte-requires
unfolding record_line width
put_byte-requires c =
    let all : c.loop-f.f ≡ width c.args.cells.now.sizes = omega arith in
    let fields = put-more c.put_number-next.ensures (rw all at c.loop-f.invariant.1) in
    room_next c.requires.1 fields (c.loop-f.invariant.0 ∙ c.put_number-next.auto.page)

pub returns : goal.returns
unfolding record_line width
returns c =
    let all : c.loop-f.f ≡ width c.args.cells.now.sizes = omega arith in
    put-more (put-more c.put_number-next.ensures (rw all at c.loop-f.invariant.1)) c.put_byte.ensures
