-- The lines of a text, from the front: a line is what stands before the first byte 10.
use Prim.Native.Nat.{ℕ, ◌<◌}
use mathlib.Core.Path.{◌≡◌, refl, ap, ◌∙◌}
use mathlib.Core.Bool.{true}
use mathlib.Core.List.{List, [], ◌∷◌, ◌++◌}
use borrow.Author.Tests.{lt-ltb, not-true}
use lib.Dec.{eqb}
use lib.ListN.{length}
use Rattle.laws.specs.Outcome.{refused}
use Rattle.laws.specs.Lists.{every}
use Rattle.laws.proofs.Bools.{and_both}
use Rattle.text_rules.specs.declared.scope.Scope.{Scope}
use Rattle.text_rules.specs.Text.{is_within, ended, cut, onto, lines, text_program}

lines_more : (b : ℕ) (t : List ℕ) → is_within b ≡ true → lines (b ∷ t) ≡ onto b (lines t)
unfolding lines is_within
lines_more b t h = rw (not-true (eqb b 10) h)

-- a line with byte 10 behind it
pub lines-ended : (l t : List ℕ) → every is_within l ≡ true → lines (l ++ (10 ∷ t)) ≡ ended l ∷ lines t
unfolding lines every onto
lines-ended [] t h = refl
lines-ended (b ∷ l) t h =
    let both = and_both (is_within b) (every is_within l) h in
    lines_more b (l ++ (10 ∷ t)) both.0 ∙ ap (onto b) (lines-ended l t both.1)

-- a last line without byte 10
pub lines_cut : (b : ℕ) (l : List ℕ) → every is_within (b ∷ l) ≡ true → lines (b ∷ l) ≡ cut (b ∷ l) ∷ []
unfolding lines every onto
lines_cut b [] h = lines_more b [] (and_both (is_within b) true h).0
lines_cut b (d ∷ l) h =
    let both = and_both (is_within b) (every is_within (d ∷ l)) h in
    lines_more b (d ∷ l) both.0 ∙ ap (onto b) (lines_cut d l both.1)

-- 6
pub too_long : (scope : Scope) (t : List ℕ) → 8192 < length t → text_program scope t ≡ refused 6 0
unfolding text_program
too_long s t h = rw (lt-ltb 8192 (length t) h)
