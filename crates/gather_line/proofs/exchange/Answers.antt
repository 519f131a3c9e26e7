-- `gather_line::exchange` meets its contract. The loop's invariant: the messages for the origins passed stand at their places
-- and are counted.
use Prim.Native.Nat.{ℕ}
use mathlib.Core.Path.{◌≡◌, ◌∙◌}
use native.Mathlib.Omega.{arith}
use Rattle.register.specs.View.{cells_in}
use Rattle.chain.specs.Reading.{Reading}
use Rattle.gather_line.specs.Written.{places_of, message_at}
use Rattle.gather_line.proofs.Writing.{read_kept, back-kept, message-kept, line-none, line-next}
use Rattle.gather_line.proofs.Sent.{sent_is, sent_le, line-below}
use Rattle.gather_line.proofs.exchange.Goals as goal

pub loop-u-init : goal.loop-u-init
loop-u-init c = line-none _ _ _ _ _

pub message-reading-requires : goal.message-reading-requires
message-reading-requires c =
    let so_far = c.loop-u.invariant in
    let ready = c.requires in (
      omega arith,
      back-kept _ _ _ _ _ _ so_far.before so_far.values_length so_far.marks_length ready.back_before ready.back-held,
      read_kept _ _ _ _ _ _ so_far.before so_far.values_length so_far.marks_length ready.read_before ready.read_held,
    )

pub overflow_add-sent : goal.overflow_add-sent
overflow_add-sent c =
    let one = sent_is _ _ _ c.is_some.ensures c.from-sent.ensures in
    record { fits = omega (arith, line-below _ _ _ c.loop-u.invariant.messages, sent_le c.message-reading.result, one) }

pub loop-u-preserved : goal.loop-u-preserved
loop-u-preserved c =
    let ready = c.requires in
    let so_far = c.loop-u.invariant in
    let sizes = c.args.cells.now.sizes in
    let message_of : ℕ → Reading = message_at sizes (cells_in c.args.cells.now) (places_of sizes c.args.values.now c.args.marks.now) c.args.back c.args.read c.args.field in
    let message-is : c.message-reading.result ≡ message_of c.loop-u.u = c.message-reading.ensures ∙ message-kept _ _ _ _ _ _ so_far.before _ _ _ _ _ ready.back_before ready.read_before ready.back-held c.loop-u-test.true in
    let put = c.put_reading.ensures in
    rw (put.0, put.1)
    (line-next _ _ _ _ _ c.loop-u.u _ _ c.loop-u-test.true ready.values_room ready.marks_room so_far message-is put.2 (sent_is _ _ _ c.is_some.ensures c.from-sent.ensures))

pub returns : goal.returns
returns c =
    let e : c.loop-u.u ≡ c.args.cells.now.sizes.records = omega arith in
    rw e at c.loop-u.invariant
