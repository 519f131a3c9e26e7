-- `run_turn::begin` meets its contract: the pass is entered, and the readings are those of the step's plan.
use mathlib.Core.Path.{refl}
use native.Mathlib.Omega.{arith}
use Rattle.gather.proofs.Gathering.{planned-ready, gathered_by}
use Rattle.run_turn.proofs.begin.Goals as goal

pub gather-gathered-requires : goal.gather-gathered-requires
gather-gathered-requires c =
    let behind = c.enter-first.ensures.1.behind in (
      c.requires.0,
      planned-ready c.requires.3 c.args.machine _ _ _ c.requires.4
          (omega (arith, c.requires.5, behind.values_length))
          (omega (arith, c.requires.6, behind.marks_length)),
    )

pub returns : goal.returns
returns c = record {
  values₁ = _;
  marks₁ = _;
  first_is = c.enter-first.ensures.0;
  entered = c.enter-first.ensures.1;
  gathered = gathered_by c.requires.3 c.requires.0.valid c.args.machine c.gather-gathered.ensures;
  at_is = refl;
  setting_is = refl;
  machine_is = refl;
  remote_is = refl;
}
