-- `gather_exchanges::exchange` meets its contract. The loop's invariant: the lines of this round among those passed hold their messages,
-- which are counted, and no other place has changed.
use Rattle.register.specs.View.{cells_in}
use Rattle.gather_exchanges.specs.Exchanged.{Exchanged}
use Rattle.gather_exchanges.proofs.exchange.Given as goal

abbrev pub invariant-loop-i : goal.invariant-loop-i
invariant-loop-i l = Exchanged l.cells.sizes (cells_in l.cells) l.plan l.t l.i l.initial.values l.initial.marks l.values l.marks l.sent
