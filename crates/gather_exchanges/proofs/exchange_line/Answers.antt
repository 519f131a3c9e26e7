-- `gather_exchanges::exchange_line` meets its contract.
use Rattle.gather_exchanges.proofs.exchange_line.Goals as goal

pub exchange-requires : goal.exchange-requires
exchange-requires c = rw c.field_of.ensures c.requires.1

pub returns : goal.returns
returns c = rw c.field_of.ensures at c.exchange.ensures
