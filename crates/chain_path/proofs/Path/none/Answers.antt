-- `chain_path::Path::none` meets its contract.
use mathlib.Core.Path.{refl}
use Rattle.chain_path.proofs.Path.none.Goals as goal

pub returns : goal.returns
returns c = record { hops_are = refl; places = refl; lettered = tt }
