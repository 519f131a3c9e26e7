-- `gather_exchanges::exchange_to` meets its contract. The loop's invariant: the exchanges before t are done and their messages counted.
use Prim.Native.Nat.{◌+◌, ◌-◌, ◌≤◌}
use Rattle.register.specs.View.{cells_in}
use Rattle.gather_exchanges.specs.Exchanged.{ExchangedTo}
use Rattle.gather_exchanges.proofs.exchange_to.Given as goal

abbrev pub invariant-loop-t : goal.invariant-loop-t
invariant-loop-t l = record {
  near : l.t ≤ l.last + 1;
  done : ExchangedTo l.cells.sizes (cells_in l.cells) l.plan (l.t - 1) l.initial.values l.initial.marks l.values l.marks l.sent;
}
