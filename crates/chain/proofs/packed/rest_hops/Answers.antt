-- `chain::packed::rest_hops` meets its contract.
use Rattle.chain.proofs.Packing.{rest-last, rest_more}
use Rattle.chain.proofs.packed.rest_hops.Goals as goal

pub returns-then-chain-le16 : goal.returns-then-chain-le16
returns-then-chain-le16 c = rest-last _ c.if-chain-le16.true

pub returns-else-chain-le16 : goal.returns-else-chain-le16
returns-else-chain-le16 c = rest_more _ c.if-chain-le16.false
