-- Where a line ends, as the library's search finds it.
use Rattle.std.specs.Prelude.{Option, Some, None}
use Rattle.std.specs.List.{position_or_len}
use Rattle.std.proofs.lemmas.Option.{none-some, cond_some}
use Rattle.std.proofs.Common.{take_all}
use Prim.Native.Nat.{ℕ, ◌+◌, ◌-◌, ◌≤◌}
use mathlib.Core.Path.{◌≡◌, refl, sym, ap, ◌∙◌}
use mathlib.Core.Bool.{Bool, true, false, not, cond}
use mathlib.Core.List.{List, [], ◌∷◌}
use native.Mathlib.Omega.{arith}
use borrow.Author.Tests.{ltb-false}
use lib.Dec.{eqb, ltb}
use lib.ListN.{length, take, drop, length-drop}
use Rattle.text_numerals.specs.Span.{span}
use Rattle.text_numerals.proofs.Spans.{span-bound}
use Rattle.text_rules.specs.Text.{is_within}
use Rattle.text_next.specs.Front.{line_bytes}

-- the bytes before the first byte 10, as the library counts them
bytes_are : (t : List ℕ) → position_or_len (λ (b : ℕ). eqb b 10) t ≡ length (line_bytes t)
unfolding span is_within
bytes_are [] = refl
bytes_are (b ∷ t) = go (bytes_are t) (eqb b 10)
  where
    go : position_or_len (λ (b : ℕ). eqb b 10) t ≡ length (line_bytes t) → (x : Bool)
        → cond (not x) (1 + position_or_len (λ (b : ℕ). eqb b 10) t) 0 ≡ length (cond (not x) (b ∷ line_bytes t) [])
    go ih true = refl
    go ih false = omega arith

-- the first byte 10, by the library's search in the text from `at` on
abbrev pub first_ten : List ℕ → Option ℕ
first_ten s = cond (ltb (position_or_len (λ (b : ℕ). eqb b 10) s) (length s)) (Some (position_or_len (λ (b : ℕ). eqb b 10) s)) None

module _ (t : List ℕ) (at : ℕ) where
  from-at : first_ten (take (length t - at) (drop at t)) ≡ first_ten (drop at t)
  from-at = ap first_ten (take_all (length t - at) (drop at t) (omega (arith, length-drop at t)))

  pub end-some : {n : ℕ} → first_ten (take (length t - at) (drop at t)) ≡ Some n → at + n ≡ at + length (line_bytes (drop at t))
  end-some {n} e = omega (arith, (cond_some _ _ _ (sym from-at ∙ e)).1, bytes_are (drop at t))

  pub end-none : at ≤ length t → first_ten (take (length t - at) (drop at t)) ≡ None → length t ≡ at + length (line_bytes (drop at t))
  end-none h e = go (ltb (position_or_len (λ (b : ℕ). eqb b 10) (drop at t)) (length (drop at t))) refl (sym from-at ∙ e)
    where
      go : (x : Bool) → ltb (position_or_len (λ (b : ℕ). eqb b 10) (drop at t)) (length (drop at t)) ≡ x
          → ◌≡◌ {A = Option ℕ} (cond x (Some (position_or_len (λ (b : ℕ). eqb b 10) (drop at t))) None) None → length t ≡ at + length (line_bytes (drop at t))
      go true q e = absurd (none-some _ (sym e))
      go false q e = omega (arith, h, ltb-false _ _ q, bytes_are (drop at t), length-drop at t, span-bound is_within (drop at t))
