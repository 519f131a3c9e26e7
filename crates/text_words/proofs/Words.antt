-- A text that begins with a word.
use Rattle.std.specs.List.{starts_with}
use Rattle.std.proofs.Common.{take_all}
use Prim.Native.Nat.{ℕ, ◌-◌}
use mathlib.Core.Path.{◌≡◌, refl, ap, ap₂, ◌∙◌}
use mathlib.Core.Bool.{Bool, ◌&&◌}
use mathlib.Core.List.{List, [], ◌∷◌}
use native.Mathlib.Omega.{arith}
use lib.Dec.{eqb}
use Rattle.std.proofs.lemmas.Bool.Decides.{nat_tests}
use lib.ListN.{length, take, drop, length-drop}
use Rattle.text_numerals.specs.Word.{opens_with}

eqb_sym : (a b : ℕ) → eqb a b ≡ eqb b a
eqb_sym a b = grind (arith, nat_tests)

-- the library's test
opens_starts : (w t : List ℕ) → starts_with eqb t w ≡ opens_with w t
unfolding opens_with
opens_starts [] t = refl
opens_starts (a ∷ w) [] = refl
opens_starts (a ∷ w) (b ∷ t) = ap₂ (λ (x y : Bool). x && y) (eqb_sym a b) (opens_starts w t)

pub opens_from : (w t : List ℕ) (at : ℕ) → starts_with eqb (take (length t - at) (drop at t)) w ≡ opens_with w (drop at t)
opens_from w t at =
    ap (λ (s : List ℕ). starts_with eqb s w) (take_all (length t - at) (drop at t) (omega (arith, length-drop at t))) ∙ opens_starts w (drop at t)
