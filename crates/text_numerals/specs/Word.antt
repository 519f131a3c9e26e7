-- Words of a text, byte by byte.
use Rattle.std.specs.Prelude.{ℕ, Bool, true, false, ◌&&◌, List, [], ◌∷◌, eqb}

-- whether a text begins with a word
unfoldable pub opens_with : List ℕ → List ℕ → Bool
opens_with [] t = true
opens_with (b ∷ w) [] = false
opens_with (b ∷ w) (d ∷ t) = eqb d b && opens_with w t
