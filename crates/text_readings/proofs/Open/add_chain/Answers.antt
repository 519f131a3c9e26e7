-- `text_readings::Open::add_chain` meets its contract.
use native.Mathlib.Omega.{arith}
use Rattle.text_readings.proofs.Plans.{added_own, added_cell}
use Rattle.text_readings.proofs.Open.add_chain.Goals as goal

pub returns-then-chain-eq0 : goal.returns-then-chain-eq0
returns-then-chain-eq0 c = added_own _ c.if-chain-eq0.true

pub returns-then-chain-le-ONE_HOP : goal.returns-then-chain-le-ONE_HOP
returns-then-chain-le-ONE_HOP c = added_cell _ (omega (arith, c.if-chain-eq0.false)) c.if-chain-le-ONE_HOP.true
