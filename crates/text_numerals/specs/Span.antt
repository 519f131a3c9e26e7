-- The longest front of a list whose elements all pass a test.
use Rattle.std.specs.Prelude.{ℕ, Bool, false, cond, List, [], ◌∷◌}

-- whether a list begins with an element that passes
unfoldable pub starts : (ℕ → Bool) → List ℕ → Bool
starts p [] = false
starts p (a ∷ t) = p a

-- the elements before the first that does not pass
unfoldable pub span : (ℕ → Bool) → List ℕ → List ℕ
span p [] = []
span p (a ∷ t) = cond (p a) (a ∷ span p t) []
