-- `print_listing::put_header` meets its contract: each count has room behind those before it.
use mathlib.Core.Path.{◌∙◌}
use Rattle.print_page.proofs.Putting.{room-first, room_next, put-more}
use Rattle.print_listing.specs.Listing.{header}
use Rattle.print_listing.proofs.put_header.Goals as goal

pub put_count-steps-requires : goal.put_count-steps-requires
unfolding header
put_count-steps-requires c = room-first _ (room-first _ (room-first _ c.requires))

pub put_count-exchanges-requires : goal.put_count-exchanges-requires
unfolding header
put_count-exchanges-requires c =
    let one = c.put_count-steps in
    room_next (room-first _ (room-first _ c.requires)) one.ensures one.auto.page

pub put_count-letters-requires : goal.put_count-letters-requires
unfolding header
put_count-letters-requires c =
    let after_two = c in
    let after_one = after_two in
    let one = after_one.put_count-steps in
    let two = after_two.put_count-exchanges in
    room_next (room-first _ after_one.requires) (put-more one.ensures two.ensures) (two.auto.page ∙ one.auto.page)

pub put_count-requires : goal.put_count-requires
unfolding header
put_count-requires c =
    let after_two = c in
    let after_one = after_two in
    let one = after_one.put_count-steps in
    let two = after_two.put_count-exchanges in
    let three = c.put_count-letters in
    let put = put-more (put-more one.ensures two.ensures) three.ensures in
    room_next after_one.requires put (three.auto.page ∙ two.auto.page ∙ one.auto.page)

pub returns : goal.returns
unfolding header
returns c =
    let after_two = c in
    let one = after_two.put_count-steps in
    let two = after_two.put_count-exchanges in
    let three = c.put_count-letters in
    put-more (put-more (put-more one.ensures two.ensures) three.ensures) c.put_count.ensures
