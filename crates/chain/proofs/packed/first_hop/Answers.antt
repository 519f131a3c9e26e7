-- `chain::packed::first_hop` meets its contract.
use Rattle.chain.proofs.Packing.{first-last, first_more}
use Rattle.chain.proofs.packed.first_hop.Goals as goal

pub returns-then-chain-le16 : goal.returns-then-chain-le16
returns-then-chain-le16 c = first-last _ c.requires c.if-chain-le16.true

pub returns-else-chain-le16 : goal.returns-else-chain-le16
returns-else-chain-le16 c = first_more _ c.if-chain-le16.false
