-- Buffers that are ready for a run.
use Prim.Native.Nat.{ℕ, ◌≤◌}
use mathlib.Core.Path.{◌≡◌, refl, sym}
use mathlib.Core.List.{List}
use mathlib.Core.Bool.{Bool, true, false, cond}
use native.Mathlib.Omega.{arith}
use lib.Dec.{eqb}
use lib.IntN.{ℤ}
use lib.ListN.{length}
use Rattle.op_limits.proofs.Room.{room}
use Rattle.std.specs.Prelude.{Ok}
use Rattle.op_limits.specs.Number.{check_number}
use Rattle.op_ready.specs.Ready.{length_refusal, Readied}

-- neither 18 nor 19
neither : (a b : Bool) → ◌≡◌ {A = ℕ} (cond a (cond b 19 0) 18) 0 → b ≡ false
neither true true e = absurd (omega arith)
neither true false e = refl
neither false b e = absurd (omega arith)

-- buffers that are ready
module _ {places : ℕ} {file out : List ℕ} {values : List ℤ} {marks out' : List ℕ} {values' : List ℤ} {marks' : List ℕ} {u : Unit {0}}
    (h : Readied places file out values marks out' values' marks' (Ok u)) where
  pub ready-room : (places ≤ length values) × (places ≤ length marks)
  unfolding length_refusal check_number
  ready-room = room places (length values) (length marks) (neither (eqb (length out) (length file)) _ (sym h.refusal_is))
