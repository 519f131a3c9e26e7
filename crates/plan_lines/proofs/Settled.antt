-- Facts that are listed, and those that add no line.
use Prim.Native.Nat.{ℕ, ◌≤◌, ◌<◌}
use mathlib.Core.Path.{◌≡◌, refl, sym, ap, ◌∙◌}
use mathlib.Core.Bool.{Bool, true, false}
use mathlib.Core.List.{List}
use mathlib.Core.Logic.{⊎_elim}
use native.Mathlib.Omega.{arith}
use lib.Dec.{ltb}
use lib.ListN.{length}
use borrow.Author.Tests.{lt-ltb, le-ltb, ltb-true, ltb-false}
use Rattle.plan_theory.specs.Plan.{Fact, hops, line_from, line_index, listed, add}
use Rattle.laws.proofs.Cases.{lt_or_le}
use Rattle.std.specs.Prelude.{Some, None, cond, is_some}
use Rattle.std.specs.Option.{option_map_or}
use Rattle.plan_theory.proofs.Places.{place-line}
use Rattle.plan_theory.proofs.Lines.{listed-old, listed_new, add_none, add-listed}
use Rattle.plan_theory.specs.Promise.{Ordered}
use Rattle.plan_lines.specs.Held.{settled, place, index, need_index}

some-cond : (b : Bool) (i : ℕ) → is_some (cond b (Some i) None) ≡ b
some-cond true i = refl
some-cond false i = refl

index-cond : (b : Bool) (i : ℕ) → elim b [ true ↦ i | false ↦ 64 ] ≡ option_map_or (λ i. i) (cond b (Some i) None) 64
index-cond true i = refl
index-cond false i = refl

module _ (l : List Fact) (f : Fact) where
  pub index-old : line_index l f < length l → index l f ≡ line_index l f
  unfolding index
  index-old h = rw (listed-old l f h, index)

  pub index_new : length l ≤ line_index l f → index l f ≡ 64
  unfolding index
  index_new h = rw (listed_new l f h, index)

  -- a fact of one hop needs no line, any other those of its needs
  pub need_index-one : (g : Fact) → hops f < 2 → need_index l f g ≡ 64
  unfolding need_index
  need_index-one g h = rw (lt-ltb (hops f) 2 h, need_index)

  pub need_index-both : (g : Fact) → 2 ≤ hops f → need_index l f g ≡ index l g
  unfolding need_index
  need_index-both g h = rw (le-ltb (hops f) 2 h, need_index)

  -- a fact without a line is settled, any other where it is listed
  pub settled-none : hops f < line_from f → settled l f ≡ true
  unfolding settled
  settled-none h = simp (lt-ltb (hops f) (line_from f) h)

  pub settled-line : line_from f ≤ hops f → settled l f ≡ ltb (line_index l f) (length l)
  unfolding settled listed
  settled-line h = simp (le-ltb (hops f) (line_from f) h)

  pub settled-place : line_from f ≤ hops f → settled l f ≡ is_some (place l f)
  unfolding place listed
  settled-place h = settled-line h ∙ sym (some-cond (ltb (line_index l f) (length l)) (line_index l f))

  pub index-place : index l f ≡ option_map_or (λ i. i) (place l f) 64
  unfolding index place
  index-place = index-cond (listed l f) (line_index l f)

  pub place_had : line_index l f < length l → place l f ≡ Some (line_index l f)
  unfolding place
  place_had h = rw (listed-old l f h) refl

  pub place_listed : (i : ℕ) → place l f ≡ Some i → i < length l
  unfolding place listed
  place_listed i e =
      ⊎_elim
      (λ h. omega (arith, h, ap (λ o. option_map_or (λ i. i) o 0) (rw (lt-ltb (line_index l f) (length l) h) at e)))
      (λ h. absurd (let none : false ≡ true = ap is_some (rw (le-ltb (line_index l f) (length l) h) at e) in cc))
      (lt_or_le (line_index l f) (length l))

  -- it adds no line
  pub settled_adds : settled l f ≡ true → add l f ≡ l
  settled_adds e =
      ⊎_elim (add_none l f) (λ h. add-listed l f (ltb-true (line_index l f) (length l) (sym (settled-line h) ∙ e))) (lt_or_le (hops f) (line_from f))

  -- any other has a line that is not listed yet
  pub unsettled_line : settled l f ≡ false → line_from f ≤ hops f
  unsettled_line e = ⊎_elim (λ h. absurd (let z : ◌≡◌ {A = ℕ} 0 1 = cc (settled-none h, e) in omega arith)) (λ h. h) (lt_or_le (hops f) (line_from f))

  pub unsettled_new : settled l f ≡ false → length l ≤ line_index l f
  unsettled_new e = ltb-false (line_index l f) (length l) (sym (settled-line (unsettled_line e)) ∙ e)

-- no line of a plan is a fact without a line
pub no_line_new : (l : List Fact) (f : Fact) → Ordered l → hops f < line_from f → length l ≤ line_index l f
no_line_new l f o h =
    ⊎_elim
    (λ p. absurd (omega (arith, rw (place-line l f p) at (o (line_index l f) p).has_line)))
    (λ p. p)
    (lt_or_le (line_index l f) (length l))
