-- Laws on lists of rules.
use mathlib.Core.Path.{◌≡◌, refl}
use mathlib.Core.Bool.{Bool, true, false, ◌||◌, or-false}
use mathlib.Core.List.{List, [], ◌∷◌, ◌++◌}
use Rattle.program.specs.Program.{Target, Rule, some_target}

-- one rule more
pub some-append : (p : Target → Bool) (rs : List Rule) (r : Rule) → some_target p (rs ++ (r ∷ [])) ≡ some_target p rs || p r.target
unfolding some_target
some-append p [] r = or-false (p r.target)
some-append p (q ∷ rs) r = go (some-append p rs r) (p q.target)
  where
    go : some_target p (rs ++ (r ∷ [])) ≡ some_target p rs || p r.target → (x : Bool) → x || some_target p (rs ++ (r ∷ [])) ≡ x || some_target p rs || p r.target
    go ih true = refl
    go ih false = ih
