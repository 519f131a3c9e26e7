-- The place of the next token: behind free spaces.
use Rattle.std.specs.Prelude.{Option, Some, None}
use Rattle.std.specs.List.{position_or_len}
use Rattle.std.proofs.lemmas.Option.{none-some, cond_some}
use borrow.Author.Tests.{ltb-true, ltb-false}
use Prim.Native.Nat.{ℕ, ◌+◌, ◌-◌, ◌≤◌, ◌<◌}
use mathlib.Core.Path.{◌≡◌, refl, sym, ap, ◌∙◌}
use mathlib.Core.List.{List, [], ◌∷◌}
use native.Mathlib.Omega.{arith}
use Rattle.std.proofs.Common.{take_all}
use lib.ListN.{length, take, drop, length-drop, drop_of_length-le}
use lib.Seq.{drop-drop}
use mathlib.Core.Bool.{Bool, true, false, not, cond}
use lib.Dec.{eqb, ltb}
use Rattle.text_numerals.specs.Span.{span}
use Rattle.text_syntax.specs.Lexing.{is_space, unless_empty, skipped}
use Rattle.text_lexer.specs.Lexeme.{next_place}

-- the spaces that a text begins with, as the library counts them
spaces_are : (t : List ℕ) → position_or_len (λ (b : ℕ). not (eqb b 32)) t ≡ length (span is_space t)
unfolding span is_space
spaces_are [] = refl
spaces_are (b ∷ t) = go (spaces_are t) (eqb b 32)
  where
    go : position_or_len (λ (b : ℕ). not (eqb b 32)) t ≡ length (span is_space t) → (x : Bool)
        → cond (not (not x)) (1 + position_or_len (λ (b : ℕ). not (eqb b 32)) t) 0 ≡ length (cond x (b ∷ span is_space t) [])
    go ih true = omega arith
    go ih false = refl

unless-some : (t r : List ℕ) → 0 < length r → unless_empty t r ≡ r
unfolding unless_empty
unless-some t [] h = absurd (omega arith)
unless-some t (b ∷ r) h = refl

-- the spaces from `at` on end at i
module _ (t : List ℕ) (at i : ℕ) (end : i ≡ at + length (span is_space (drop at t))) where
  left_is : drop (length (span is_space (drop at t))) (drop at t) ≡ drop i t
  left_is = drop-drop (length (span is_space (drop at t))) at t ∙ ap (λ (n : ℕ). drop n t) (sym end)

  pub place_blank : length t ≤ i → next_place at (drop at t) ≡ at
  unfolding next_place skipped unless_empty
  place_blank h = rw (left_is, drop_of_length-le t h) (omega arith)

  left-some : i < length t → skipped (drop at t) ≡ drop i t
  unfolding skipped
  left-some h = ap (unless_empty (drop at t)) left_is ∙ unless-some (drop at t) (drop i t) (omega (arith, length-drop i t))

  pub place-behind : i < length t → next_place at (drop at t) ≡ i
  unfolding next_place
  place-behind h = rw (left-some h) (omega (arith, length-drop at t, length-drop i t))

-- the first byte that is no space, by the library's search in the line from `at` on
abbrev pub first_other : List ℕ → Option ℕ
first_other s = cond (ltb (position_or_len (λ (b : ℕ). not (eqb b 32)) s) (length s)) (Some (position_or_len (λ (b : ℕ). not (eqb b 32)) s)) None

module _ (t : List ℕ) (at : ℕ) where
  from-at : first_other (take (length t - at) (drop at t)) ≡ first_other (drop at t)
  from-at = ap first_other (take_all (length t - at) (drop at t) (omega (arith, length-drop at t)))

  pub place-some : {n : ℕ} → at ≤ length t → first_other (take (length t - at) (drop at t)) ≡ Some n → at + n ≡ next_place at (drop at t)
  place-some {n} h e =
      let parts = cond_some _ _ _ (sym from-at ∙ e) in
      sym (place-behind t at (at + n) (omega (arith, parts.1, spaces_are (drop at t))) (omega (arith, parts.1, ltb-true _ _ parts.0, length-drop at t)))

  pub place-none : at ≤ length t → first_other (take (length t - at) (drop at t)) ≡ None → at ≡ next_place at (drop at t)
  place-none h e = go (ltb (position_or_len (λ (b : ℕ). not (eqb b 32)) (drop at t)) (length (drop at t))) refl (sym from-at ∙ e)
    where
      go : (x : Bool) → ltb (position_or_len (λ (b : ℕ). not (eqb b 32)) (drop at t)) (length (drop at t)) ≡ x
          → ◌≡◌ {A = Option ℕ} (cond x (Some (position_or_len (λ (b : ℕ). not (eqb b 32)) (drop at t))) None) None → at ≡ next_place at (drop at t)
      go true q e = absurd (none-some _ (sym e))
      go false q e = sym (place_blank t at _ refl (omega (arith, ltb-false _ _ q, spaces_are (drop at t), length-drop at t)))
