-- The steps of a loop stand together, the first and the last of them marked.
use Prim.Native.Nat.{ℕ}
use mathlib.Core.Path.{◌≡◌, refl}
use mathlib.Core.Bool.{true}
use mathlib.Core.List.{List, [], ◌∷◌, ◌++◌}
use mathlib.Core.Option.{Option, none, some}
use native.Mathlib.Omega.{arith}
use borrow.Author.Tests.{eq-eqb}
use Rattle.register.specs.declared.Sizes.{Sizes}
use Rattle.laws.proofs.Bools.{true_false}
use Rattle.chain.specs.Word.{has_field}
use Rattle.text_rules.specs.declared.around.Around.{Around}
use Rattle.text_rules.specs.declared.around.Around.TheVariants.{Outside, Unused, Used}
use Rattle.program.specs.declared.setting.Setting.{Setting}
use Rattle.program.specs.declared.setting.Setting.TheVariants.{Single, Looped}
use Rattle.program.specs.Program.{Step}
use Rattle.text_rules.specs.Check.{is_outside, is_used}
use Rattle.text_rules.specs.Text.{setting_in, with_step, last_of, close_loop}
use Rattle.program.specs.Passed.{SettingPasses, setting_fits, open_behind, Loops}

-- the loop that the steps so far leave open
unfoldable pub open_loop : Around → Option ℕ
open_loop Outside = none
open_loop (Unused f) = none
open_loop (Used f) = some f

pub loops_append : (o e : Option ℕ) (xs : List Step) (x : Step) → Loops o xs e → setting_fits e x.setting ≡ true → Loops o (xs ++ (x ∷ [])) (open_behind x.setting)
loops_append o e [] x h k = (rw h k, refl)
loops_append o e (y ∷ xs) x h k = (h.0, loops_append (open_behind y.setting) e xs x h.1 k)

-- the next step stands where it may, and leaves its loop open
pub setting_fits_lem : (a : Around) → setting_fits (open_loop a) (setting_in a) ≡ true
unfolding setting_fits open_loop setting_in
setting_fits_lem Outside = refl
setting_fits_lem (Unused f) = refl
setting_fits_lem (Used f) = eq-eqb f f refl

pub setting_behind : (a : Around) → open_behind (setting_in a) ≡ open_loop (with_step a)
unfolding open_behind open_loop setting_in with_step
setting_behind Outside = refl
setting_behind (Unused f) = refl
setting_behind (Used f) = refl

-- the last step of a loop
last_fits : (o : Option ℕ) (g : Setting) → setting_fits o g ≡ true → setting_fits o (last_of g) ≡ true
unfolding setting_fits last_of
last_fits none Single h = h
last_fits none (Looped f first last) h = h
last_fits (some k) Single h = h
last_fits (some k) (Looped f first last) h = h

last-behind : (g : Setting) → open_behind (last_of g) ≡ none
unfolding open_behind last_of
last-behind Single = refl
last-behind (Looped f first last) = refl

close_loops : (o e : Option ℕ) (x : Step) (xs : List Step) → Loops o (x ∷ xs) e → Loops o (close_loop (x ∷ xs)) none
unfolding close_loop
close_loops o e x [] h = (last_fits o x.setting h.0, last-behind x.setting)
close_loops o e x (y ∷ xs) h = (h.0, close_loops (open_behind x.setting) e y xs h.1)

pub outside_open : (a : Around) → is_outside a ≡ true → open_loop a ≡ none
unfolding is_outside open_loop
outside_open Outside h = refl
outside_open (Unused f) h = refl
outside_open (Used f) h = true_false h refl

pub close_used : (a : Around) (xs : List Step) → is_used a ≡ true → Loops none xs (open_loop a) → Loops none (close_loop xs) none
unfolding is_used open_loop close_loop
close_used Outside xs u h = true_false u refl
close_used (Unused f) xs u h = true_false u refl
close_used (Used f) [] u h = absurd (let z : ◌≡◌ {A = ℕ} 0 1 = cc in omega arith)
close_used (Used f) (x ∷ xs) u h = close_loops none (some f) x xs h

-- the field of a loop
abbrev pub AroundPasses : Sizes → Around → Type 0
AroundPasses s Outside = Unit {0}
AroundPasses s (Unused f) = has_field s f ≡ true
AroundPasses s (Used f) = has_field s f ≡ true

module _ (s : Sizes) where
  pub setting_passes : (a : Around) → AroundPasses s a → SettingPasses s (setting_in a)
  unfolding setting_in
  setting_passes Outside h = tt
  setting_passes (Unused f) h = h
  setting_passes (Used f) h = h

  pub around_passes : (a : Around) → AroundPasses s a → AroundPasses s (with_step a)
  unfolding with_step
  around_passes Outside h = tt
  around_passes (Unused f) h = h
  around_passes (Used f) h = h

  pub last-passes : (g : Setting) → SettingPasses s g → SettingPasses s (last_of g)
  unfolding last_of
  last-passes Single h = tt
  last-passes (Looped f first last) h = h
