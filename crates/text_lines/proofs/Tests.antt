-- What is asked of a rule and its test, from their parts.
use mathlib.Core.Path.{◌≡◌, refl, sym, ap, ap₂, ◌∙◌}
use mathlib.Core.Bool.{Bool, true, false, ◌&&◌, and_assoc, and_comm, true-and, and-true}
use mathlib.Core.List.{List, [], ◌∷◌, ◌++◌}
use lib.Dec.{leb}
use Rattle.register.specs.declared.Sizes.{Sizes}
use Rattle.chain_text.specs.Text.{names, is_reference_letter}
use Rattle.program.specs.declared.rule.Comparison.{Comparison}
use Rattle.program.specs.declared.rule.Sort.TheVariants.{Least, Total}
use Rattle.text_syntax.specs.Written.{chain, Expression, term, Condition, always, when, Action, set, remote, rule}
use Rattle.text_syntax.specs.Parts.{condition_expressions, action_expressions, expressions, every_expression, every_term, terms_pass, target, term_named, field_named, named, term_kinded, is_reference, one_kind, same_kind, condition_kinds, action_kinds, kinds_agree, kinded, term_short, short, term_in_range, numbers_in_range, depth, shallow, operators, few_operators}
use Rattle.text_syntax.specs.Flat as F
use Rattle.text_rules.specs.declared.line.Checks.{Checks}
use Rattle.text_rules.specs.LineRead.{line_checks, all_pass}
use Rattle.text_codes.specs.declared.summary.Summary.{Summary}
use Rattle.text_codes.specs.Summary.{summary_of}
use Rattle.text_checks.specs.Checks.{summary_checks, both_checks, with_kinds, sent_kinds, expression_checks, condition_checks, action_checks}
use Rattle.text_checks.proofs.Passing.{both_pass, kinds_pass, with_same, both-same, summary_checks_lem, summary_reference}

and_left : (a b c : Bool) → a && (b && c) ≡ b && (a && c)
and_left true b c = refl
and_left false true c = refl
and_left false false c = refl

-- both sides of a test that passes do
pub when_pass : (a b : Checks) (k : Bool) → all_pass (with_kinds (both_checks a b) true k) ≡ true → (all_pass a ≡ true) × (all_pass b ≡ true)
when_pass a b k h = both_pass a b (kinds_pass (both_checks a b) true k h)

-- of a test, from the summaries of its sides
pub when_checks : (s : Sizes) (g h : Summary) (x y : Expression) (c : Comparison) → summary_of g ≡ F.summary s x → summary_of h ≡ F.summary s y
    → with_kinds (both_checks (summary_checks g) (summary_checks h)) true (same_kind g.reference h.reference) ≡ condition_checks s (when x c y)
unfolding condition_checks
when_checks s g h x y c p q =
    with_same (both-same (summary_checks_lem s x p) (summary_checks_lem s y q)) refl (ap₂ same_kind (summary_reference s x p) (summary_reference s y q))

-- of a list of expressions, of whether a field is named and of kinds that agree
unfoldable part_checks : Sizes → List Expression → Bool → Bool → Checks
part_checks s es n k = record {
  named = n && every_expression (every_term (term_named s)) es;
  kinded = every_expression (every_term term_kinded) es && (every_expression one_kind es && k);
  short = every_expression (every_term term_short) es;
  ranged = every_expression (every_term term_in_range) es;
  shallow = every_expression (λ e. leb (depth e) 8) es;
  few = every_expression (λ e. leb (operators e) 64) es;
}

every_append : (p : Expression → Bool) (es fs : List Expression) → every_expression p (es ++ fs) ≡ every_expression p es && every_expression p fs
unfolding every_expression
every_append p [] fs = refl
every_append p (e ∷ es) fs = ap (λ (b : Bool). p e && b) (every_append p es fs) ∙ sym (and_assoc (p e) (every_expression p es) (every_expression p fs))

module _ (s : Sizes) where
  parts-both : (es fs : List Expression) (n m k j : Bool)
      → part_checks s (es ++ fs) (n && m) (k && j) ≡ both_checks (part_checks s es n k) (part_checks s fs m j)
  unfolding part_checks
  parts-both es fs n m k j = simp (every_append, and_assoc, and_comm, and_left)

  parts_kinds : (es : List Expression) (n k : Bool) → with_kinds (part_checks s es true true) n k ≡ part_checks s es n k
  unfolding part_checks
  parts_kinds es n k = simp (true-and, and-true, and_assoc, and_comm, and_left)

  one_part : (e : Expression) → expression_checks s e ≡ part_checks s (e ∷ []) true true
  unfolding part_checks expression_checks every_expression
  one_part e = simp and-true

  two-parts : (x y : Expression) (n k : Bool)
      → with_kinds (both_checks (expression_checks s x) (expression_checks s y)) n k ≡ part_checks s (x ∷ y ∷ []) n k
  two-parts x y n k =
      ap₂ (λ (a b : Checks). with_kinds (both_checks a b) n k) (one_part x) (one_part y)
      ∙ ap (λ (a : Checks). with_kinds a n k) (sym (parts-both (x ∷ []) (y ∷ []) true true true true))
      ∙ parts_kinds (x ∷ y ∷ []) n k

  condition_parts : (c : Condition) → condition_checks s c ≡ part_checks s (condition_expressions c) true (condition_kinds c)
  unfolding condition_checks condition_expressions condition_kinds part_checks every_expression
  condition_parts always = refl
  condition_parts (when x c y) = two-parts x y true (same_kind (is_reference x) (is_reference y))

  action_parts : (a : Action) → action_checks s a ≡ part_checks s (action_expressions a) (names s (target a)) (action_kinds a)
  unfolding action_checks action_expressions action_kinds sent_kinds target
  action_parts (set f e) =
      ap (λ (a : Checks). with_kinds a (names s f) (same_kind (is_reference_letter f) (is_reference e))) (one_part e) ∙ parts_kinds (e ∷ []) _ _
  action_parts (remote Least f c e) = two-parts (term (chain c)) e _ _
  action_parts (remote Total f c e) = two-parts (term (chain c)) e _ _

  line-parts : (c : Condition) (a : Action) → line_checks s (rule c a)
      ≡ part_checks s (condition_expressions c ++ action_expressions a) (names s (target a)) (condition_kinds c && action_kinds a)
  unfolding part_checks line_checks named field_named kinded kinds_agree short numbers_in_range shallow few_operators terms_pass expressions
  line-parts c a = refl

  -- a line's checks are those of its test and its rule
  pub line_checks_lem : (c : Condition) (a : Action) → line_checks s (rule c a) ≡ both_checks (condition_checks s c) (action_checks s a)
  line_checks_lem c a =
      line-parts c a
      ∙ parts-both (condition_expressions c) (action_expressions a) true (names s (target a)) (condition_kinds c) (action_kinds a)
      ∙ sym (both-same (condition_parts c) (action_parts a))
