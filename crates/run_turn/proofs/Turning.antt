-- Where a step stops and where it does not.
use Rattle.std.specs.Prelude.{Ok, Err, is_err}
use mathlib.Core.Path.{◌≡◌, refl}
use mathlib.Core.Bool.{Bool, true, false}
use Rattle.laws.proofs.Bools.{true_false}
use Rattle.step_cells.specs.Stop.{Stop}
use Rattle.step_cells.specs.declared.stop.Offence.{Offence}
use Rattle.run_turn.specs.Turned.{sends_by}

-- what stops does not go through
pub not-both : {A : Type 0} {stop : Stop} {o : Offence} → stop ≡ Ok tt → stop ≡ Err o → A
not-both e h = cc

-- what is no refusal goes through
pub goes_through : (stop : Stop) → is_err stop ≡ false → stop ≡ Ok tt
goes_through (Ok done) h = refl
goes_through (Err o) h = true_false refl h

-- where remote writes are sent nothing has stopped
pub sends_nowhere : (stop : Stop) (remote : Bool) → sends_by stop remote ≡ true → stop ≡ Ok tt
sends_nowhere (Ok done) remote h = refl
sends_nowhere (Err o) remote h = true_false h refl
