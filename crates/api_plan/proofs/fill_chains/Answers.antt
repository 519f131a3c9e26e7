-- `api_plan::fill_chains` meets its contract. The loop's invariant: the places passed hold their letters, the others 0.
use mathlib.Core.Path.{◌∙◌}
use native.Mathlib.Omega.{arith}
use Rattle.api_plan.proofs.Filling.{progress_none, progress_next, progress_all, letter-value, letter-behind}
use Rattle.api_plan.proofs.fill_chains.Goals as goal

pub loop-k-init : goal.loop-k-init
loop-k-init c = progress_none

pub loop-k-preserved : goal.loop-k-preserved
loop-k-preserved c =
    let e = letter-value c.args.plan.now c.requires c.loop-k.k c.chain_of-chain.result (omega arith) c.chain_of-chain.ensures in
    progress_next c.loop-k.invariant (omega (arith, c.requires.keyed)) (c.letter_at.ensures ∙ e)

pub returns : goal.returns
returns c = progress_all c.loop-k.invariant (λ k l. letter-behind c.args.plan.now c.requires k (omega arith))
