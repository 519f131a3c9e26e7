-- Lists of which each element holds something.
use Rattle.std.specs.Prelude.{ℕ, Bool, true, ◌&&◌, List, [], ◌∷◌}

-- P holds of each
abbrev pub Each : {A : Type 0} → (A → Type 0) → List A → Type 0
Each P [] = Unit {0}
Each P (a ∷ l) = P a × Each P l

-- whether every element of a list passes
unfoldable pub every : (ℕ → Bool) → List ℕ → Bool
every p [] = true
every p (a ∷ l) = p a && every p l
