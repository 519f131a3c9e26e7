-- What the answers of the code mean.
use Rattle.std.specs.Prelude.{Option, None, Some, Ok, Err}
use Rattle.std.specs.Prelude.{◌≡◌, cond, List, [], ◌∷◌, ℕ, ◌<◌}
use Rattle.chain.specs.Reading.{Reading}
use Rattle.program.specs.Program.{Target, own, remote, Rule, target_field}
use Rattle.machine.specs.declared.message.Message.{Message}
use Rattle.machine.specs.Value.{value, holds}
use Rattle.machine.specs.Local.{offends}
use Rattle.step_operations.specs.Evaluated.{Evaluated, out_of_range}
use Rattle.step_effects.specs.declared.stored.Write.{Write}
use Rattle.step_effects.specs.declared.stored.Write.TheVariants as W

-- a reading for a target: a missing one stores nothing, and a remote rule stores nothing here
unfoldable pub target_write : Target → Reading → Write
target_write (own f) None = W.Nothing
target_write (own f) (Some z) = W.Store f z
target_write (remote k f w) x = W.Nothing

-- the same for what an expression comes to
unfoldable pub done_by : Target → Evaluated → Write
done_by t (Ok x) = target_write t x
done_by t (Err e) = W.OutOfRange (target_field t)

-- what a rule comes to: its expression where its test holds, or that a sum of either leaves the range
unfoldable pub effect_of : (List ℕ → Reading) → Rule → Evaluated
effect_of read r = cond (offends read r) (Err out_of_range) (cond (holds read r.test) (Ok (value read r.expression)) (Ok None))

-- what a rule stores
unfoldable pub write_of : (List ℕ → Reading) → Rule → Write
write_of read r =
    cond (offends read r) (W.OutOfRange (target_field r.target))
    (cond (holds read r.test) (target_write r.target (value read r.expression)) W.Nothing)

-- the messages of an answer
unfoldable pub messages_in : Option Message → List Message
messages_in None = []
messages_in (Some m) = m ∷ []

-- what is done with some value for this target
pub record DoneFor (t : Target) (w : Write) : Type 0 where
  pub value : Evaluated
  pub is : w ≡ done_by t value

-- a message to this field of a record that is within all that its target is
abbrev pub GoesTo : ℕ → (ℕ → Type 0) → Option Message → Type 0
GoesTo f Within None = Unit {0}
GoesTo f Within (Some m) = (m.field ≡ f) × ((n : ℕ) → Within n → m.target < n)
