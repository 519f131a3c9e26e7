-- `gather_line::exchange` meets its contract. The loop's invariant: the messages for the origins passed stand at their places
-- and are counted.
use Rattle.register.specs.View.{cells_in}
use Rattle.gather_line.specs.Written.{places_of, message_at, LineSent}
use Rattle.gather_line.proofs.exchange.Given as goal

abbrev pub invariant-loop-u : goal.invariant-loop-u
invariant-loop-u l =
    let message = message_at l.cells.sizes (cells_in l.cells) (places_of l.cells.sizes l.initial.values l.initial.marks) l.back l.read l.field in
    LineSent l.cells.sizes message l.i l.u l.initial.values l.initial.marks l.values l.marks l.sent
