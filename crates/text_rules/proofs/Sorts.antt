-- One more rule of a step that passes 14: still no field takes both sorts of remote write.
use Prim.Native.Nat.{ℕ}
use mathlib.Core.Path.{◌≡◌, refl, sym, ap, ◌∙◌}
use mathlib.Core.Bool.{Bool, true, false, ◌||◌, or-false}
use mathlib.Core.List.{List, [], ◌∷◌, ◌++◌}
use borrow.Author.Tests.{not-true, eqb-true, ne_eqb}
use lib.Dec.{eqb}
use Rattle.laws.proofs.Bools.{true_false}
use Rattle.chain_text.specs.Text.{letter_field}
use Rattle.text_syntax.specs.Written as W
use Rattle.text_syntax.specs.Tree.{target_of, rule_of}
use Rattle.program.specs.declared.rule.Sort.TheVariants.{Least, Total}
use Rattle.program.specs.Program.{Rule, is_least, is_total, some_target}
use Rattle.text_rules.specs.Check.{one_sort}
use Rattle.program.proofs.Rules.{some-append}

-- a written rule behind the rules so far
abbrev pub more : List Rule → W.Condition → W.Action → List Rule
more rs c a = rs ++ (rule_of c a ∷ [])

module _ (rs : List Rule) (t : W.Condition) (old : (f : ℕ) → some_target (is_least f) rs ≡ true → some_target (is_total f) rs ≡ false) where
  -- a local rule is neither
  local_sort : (a : W.Action) (f : ℕ) → is_least f (target_of a) ≡ false → is_total f (target_of a) ≡ false
      → some_target (is_least f) (more rs t a) ≡ true → some_target (is_total f) (more rs t a) ≡ false
  unfolding rule_of
  local_sort a f l r h =
      let was : some_target (is_least f) rs ≡ true = sym (some-append (is_least f) rs _ ∙ rw (l, or-false)) ∙ h in
      some-append (is_total f) rs _ ∙ rw (old f was, r)

  pub one_sort_each : (a : W.Action) → one_sort rs a ≡ true → (f : ℕ) → some_target (is_least f) (more rs t a) ≡ true → some_target (is_total f) (more rs t a) ≡ false
  unfolding one_sort is_least is_total target_of rule_of
  one_sort_each (W.set g x) o f h = local_sort (W.set g x) f refl refl h
  one_sort_each (W.remote Least g c x) o f h = go (some_target (is_least f) rs) refl (sym (some-append (is_least f) rs _) ∙ h)
    where
      go : (b : Bool) → some_target (is_least f) rs ≡ b → some_target (is_least f) rs || eqb f (letter_field g) ≡ true
          → some_target (is_total f) (more rs t (W.remote Least g c x)) ≡ false
      go true e k = some-append (is_total f) rs _ ∙ rw (old f e)
      go false e k =
          let at : f ≡ letter_field g = eqb-true f (letter_field g) (ap (λ (b : Bool). b || eqb f (letter_field g)) (sym e) ∙ k) in
          some-append (is_total f) rs _ ∙ or-false _ ∙ ap (λ (i : ℕ). some_target (is_total i) rs) at ∙ not-true _ o
  one_sort_each (W.remote Total g c x) o f h =
      let was : some_target (is_least f) rs ≡ true = sym (some-append (is_least f) rs _ ∙ or-false _) ∙ h in
      some-append (is_total f) rs _ ∙ rw (old f was) (ne_eqb f (letter_field g) (λ e. true_false {A = ⊥} was (rw e (not-true _ o))))
