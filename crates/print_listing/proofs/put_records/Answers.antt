-- `print_listing::put_records` meets its contract. The loop's invariant: the page keeps its length, and the lines of the records
-- passed stand on it.
use mathlib.Core.Path.{◌≡◌, refl, ◌∙◌}
use native.Mathlib.Omega.{arith}
use Rattle.print_page.proofs.Putting.{put_nothing, put-more}
use Rattle.print_listing.specs.Listing.{in_a_row}
use Rattle.print_listing.proofs.Rows.{row_more, row_room}
use Rattle.print_listing.proofs.put_records.Goals as goal

pub loop-u-init : goal.loop-u-init
unfolding in_a_row
loop-u-init c = (refl, put_nothing _ _)

pub put_record-next-requires : goal.put_record-next-requires
put_record-next-requires c =
    let s = c in
    let l = c.loop-u in
    (c.loop-u-test.true, row_room _ s.requires c.loop-u-test.true l.invariant.1 l.invariant.0)

pub loop-u-preserved : goal.loop-u-preserved
loop-u-preserved c =
    let l = c.loop-u in
    let w = c.put_record-next in
    (w.auto.page ∙ l.invariant.0, rw row_more (put-more l.invariant.1 w.ensures))

pub shape_of-page : goal.shape_of-page
shape_of-page c = c.loop-u.invariant.0

pub returns : goal.returns
returns c =
    let l = c.loop-u in
    let all : l.u ≡ c.args.cells.now.sizes.records = omega arith in
    rw all at l.invariant.1
