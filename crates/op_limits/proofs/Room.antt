-- Scratch buffers that are not too short.
use Prim.Native.Nat.{ℕ, ◌≤◌}
use mathlib.Core.Path.{◌≡◌}
use mathlib.Core.Bool.{false}
use borrow.Author.Tests.{ltb-false}
use lib.Dec.{ltb}
use Rattle.laws.proofs.Bools.{or-neither}
use Rattle.machine.specs.Run.{is_short}

pub room : (k values marks : ℕ) → is_short k values marks ≡ false → (k ≤ values) × (k ≤ marks)
unfolding is_short
room k values marks e = let (v, m) = or-neither (ltb values k) (ltb marks k) e in (ltb-false values k v, ltb-false marks k m)
