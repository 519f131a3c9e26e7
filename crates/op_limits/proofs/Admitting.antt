-- A text that is read, or why it is not.
use Prim.Native.Nat.{ℕ, ◌≤◌}
use mathlib.Core.Path.{◌≡◌, refl}
use mathlib.Core.Bool.{Bool, true, false, cond}
use mathlib.Core.List.{List}
use native.Mathlib.Omega.{arith}
use borrow.Author.Tests.{ltb-false}
use lib.Dec.{ltb}
use lib.ListN.{length}
use Rattle.laws.specs.Outcome.{Outcome, done, refused, after}
use Rattle.register.specs.Load.{load}
use Rattle.register.specs.declared.Sizes.{Sizes}
use Rattle.register.proofs.Roundtrip.{Loads, loads}
use Rattle.op_limits.specs.Admitted.{admitted}

-- both pass
passing : (o : Outcome Sizes) (b : Bool) {s : Sizes} → after o (λ s. cond b (refused 6 0) (done s)) ≡ done s → (o ≡ done s) × (b ≡ false)
unfolding after
passing (done x) true e = absurd (let z : ◌≡◌ {A = ℕ} 0 1 = cc in omega arith)
passing (done x) false e = (e, refl)
passing (refused n k) b e = absurd (let z : ◌≡◌ {A = ℕ} 0 1 = cc in omega arith)

pub admitted-both : (file text : List ℕ) {s : Sizes} → admitted file text ≡ done s → Loads s file × (length text ≤ 8192)
unfolding admitted
admitted-both file text {s} e =
    let (l, b) = passing (load file) (ltb 8192 (length text)) e in (loads s file l, ltb-false 8192 (length text) b)
