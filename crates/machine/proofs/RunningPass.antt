-- A step in its setting: the loop that it stands in, the pass that it is done in, and the step that comes next.
use Prim.Native.Nat.{ℕ}
use mathlib.Core.Path.{◌≡◌, refl, sym, ap}
use mathlib.Core.Bool.{Bool, true, false, cond}
use mathlib.Core.List.{List}
use mathlib.Core.Option.{Option, none, some}
use borrow.Author.Tests.{eqb-true}
use lib.ListN.{drop}
use Rattle.laws.proofs.Bools.{true_false}
use Rattle.register.specs.declared.Sizes.{Sizes}
use Rattle.register.specs.declared.cells.Cell.{Cell}
use Rattle.program.specs.declared.setting.Setting.{Setting}
use Rattle.program.specs.declared.setting.Setting.TheVariants.{Single, Looped}
use Rattle.program.specs.Program.{Program}
use Rattle.program.specs.Passed.{setting_fits, open_behind}
use Rattle.machine.specs.Run.{Pass, begins, goes_on, entered, following}

-- the loop that is open before a step
abbrev pub open_before : Setting → Option ℕ
open_before Single = none
open_before (Looped f first last) = cond first none (some f)

-- no other fits
pub fits-before : (o : Option ℕ) (g : Setting) → setting_fits o g ≡ true → o ≡ open_before g
unfolding setting_fits
fits-before none Single h = refl
fits-before none (Looped f true last) h = refl
fits-before none (Looped f false last) h = true_false h refl
fits-before (some k) Single h = true_false h refl
fits-before (some k) (Looped f true last) h = true_false h refl
fits-before (some k) (Looped f false last) h = ap some (sym (eqb-true f k h))

-- where a pass begins no loop is open before
pub begins_outside : (g : Setting) → begins g ≡ true → open_before g ≡ none
begins_outside Single e = refl
begins_outside (Looped f first last) e = rw e

-- where a run goes back none is open behind
pub back_outside : (s : Sizes) (g : Setting) (before cells : List Cell) → goes_on s g before cells ≡ false → open_behind g ≡ none
unfolding open_behind
back_outside s Single before cells e = refl
back_outside s (Looped f first true) before cells e = refl
back_outside s (Looped f first false) before cells e = true_false refl e

-- the pass that began with step `first`
abbrev pub pass_from : Program → ℕ → List Cell → Pass
pass_from p first before = record { steps = drop first p; before = before }

pub entered-drop : (g : Setting) (p : Program) (step first : ℕ) (cells before : List Cell)
    → entered g (drop step p) cells (pass_from p first before) ≡ pass_from p (cond (begins g) step first) (cond (begins g) cells before)
unfolding entered
entered-drop g p step first cells before = go (begins g)
  where
    go : (b : Bool) → cond b (pass_from p step cells) (pass_from p first before) ≡ pass_from p (cond b step first) (cond b cells before)
    go true = refl
    go false = refl

-- the steps to come, by the number of the next
pub following-drop : (s : Sizes) (g : Setting) (p : Program) (next first : ℕ) (cells before : List Cell)
    → following s g (drop next p) cells (pass_from p first before) ≡ drop (cond (goes_on s g before cells) next first) p
unfolding following
following-drop s g p next first cells before = go (goes_on s g before cells)
  where
    go : (b : Bool) → cond b (drop next p) (drop first p) ≡ drop (cond b next first) p
    go true = refl
    go false = refl
