-- `text_terms::chains::overlong` meets its contract.
use Prim.Native.Nat.{◌-◌}
use lib.ListN.{length}
use Rattle.text_terms.proofs.ChainForms.{Opening}
use Rattle.text_terms.proofs.chains.overlong.Given as goal

abbrev pub invariant-loop-letter : goal.invariant-loop-letter
invariant-loop-letter l = Opening l.sizes l.initial.seen l.line l.at l.seen l.i l.hops

abbrev pub decreases-loop-letter : goal.decreases-loop-letter
decreases-loop-letter l = length l.line - l.i
