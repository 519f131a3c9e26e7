-- `print_page::put_value` meets its contract.
use mathlib.Core.Path.{◌≡◌, ap, ◌∙◌}
use lib.IntN.{nat_abs}
use mir.Facts.{to_z-of_z}
use Rattle.print_page.proofs.Putting.{room-first, room_next, put-more}
use Rattle.print_page.proofs.Signs.{from_bits, negative-text, other_text}
use Rattle.print_page.proofs.put_value.Goals as goal

pub put_byte-next-requires : goal.put_byte-next-requires
put_byte-next-requires c = room-first _ (rw (negative-text _ (from_bits c.ranges.value c.if-value-lt0.true)) at c.requires)

pub put_number-requires : goal.put_number-requires
put_number-requires c =
    let size : c.from-size.result ≡ nat_abs c.args.value = c.from-size.ensures ∙ c.unsigned_abs.ensures.value ∙ ap nat_abs (to_z-of_z c.ranges.value) in
    let w = c.put_byte-next in
    rw size (room_next (rw (negative-text _ (from_bits c.ranges.value c.if-value-lt0.true)) at c.requires) w.ensures w.auto.page)

pub returns-then-value-lt0 : goal.returns-then-value-lt0
returns-then-value-lt0 c =
    let size : c.from-size.result ≡ nat_abs c.args.value = c.from-size.ensures ∙ c.unsigned_abs.ensures.value ∙ ap nat_abs (to_z-of_z c.ranges.value) in
    rw (negative-text _ (from_bits c.ranges.value c.if-value-lt0.true)) (put-more c.put_byte-next.ensures (rw size at c.put_number.ensures))

pub put_number-requires-2 : goal.put_number-requires-2
put_number-requires-2 c =
    let size : c.from-size.result ≡ nat_abs c.args.value = c.from-size.ensures ∙ c.unsigned_abs.ensures.value ∙ ap nat_abs (to_z-of_z c.ranges.value) in
    rw size (rw (other_text _ (from_bits c.ranges.value c.if-value-lt0.false)) at c.requires)

pub returns : goal.returns
returns c =
    let size : c.from-size.result ≡ nat_abs c.args.value = c.from-size.ensures ∙ c.unsigned_abs.ensures.value ∙ ap nat_abs (to_z-of_z c.ranges.value) in
    rw (other_text _ (from_bits c.ranges.value c.if-value-lt0.false)) (rw size at c.put_number-2.ensures)
