-- The local rule of codes that are those of an expression, and the remote rule of its term.
use Prim.Native.Nat.{ℕ, ◌+◌, ◌-◌, ◌≤◌}
use mathlib.Core.Path.{◌≡◌, refl, sym, ap, ap₂, subst, ◌∙◌}
use mathlib.Core.Logic.{◌≢◌}
use mathlib.Core.Bool.{Bool, true, false, cond}
use mathlib.Core.List.{List, [], ◌∷◌}
use native.Mathlib.Omega.{arith}
use lib.Dec.{eqb}
use lib.IntN.{ℤ}
use lib.ListN.{get_or, length}
use borrow.Author.Tests.{eqb-true, eqb-false, leb-true, le-ltb}
use Rattle.laws.proofs.Bools.{cond_both}
use Rattle.register.specs.Shape.{Limits}
use Rattle.register.specs.declared.Sizes.{Sizes}
use Rattle.chain.specs.Word.{unpack}
use Rattle.chain_text.specs.Text.{letter_field, word_of}
use Rattle.chain_text.proofs.Passing.{letters_unpacked}
use Rattle.program.specs.declared.rule.Sort.{Sort}
use Rattle.program.specs.declared.rule.Rule.TheVariants.{Set, Combine, Remote}
use Rattle.program.specs.declared.term.Term.{Term}
use Rattle.program.specs.declared.term.Term.TheVariants.{Chain, Number}
use Rattle.program.specs.Program as P
use Rattle.program.specs.Code.{postfix, chain_in, chain_code, code_at, codes_from, codes_in, SameBelow}
use Rattle.program.specs.Stored.{target_in, expression_in}
use Rattle.program.specs.Terms.{TermFormed, TermFrom, TermInside}
use Rattle.text_syntax.specs.Written.{Expression, chain, set, remote}
use Rattle.text_syntax.specs.Parts.{term_named, term_kinded, term_short}
use Rattle.text_syntax.specs.Tree.{tree_of, target_of, source_of}
use Rattle.text_rules.specs.LineRead.{all_pass}
use Rattle.text_codes.specs.declared.code.TermParts.{TermParts}
use Rattle.text_codes.specs.Coded.{term_code, parts_of}
use Rattle.text_checks.specs.Checks.{term_checks}
use Rattle.text_sides.specs.Side.{operator_in, single_of, term_held, rule_held, codes_left, Holds}
use Rattle.text_actions.specs.Action.{ActionHeld}
use Rattle.text_checks.proofs.Passing.{all_passed}
use Rattle.text_sides.proofs.Sides.{left-same, left-more}
use Rattle.text_sides.proofs.Held.{three_codes, single_is, single_plain, operator_is, term_holds}

-- the codes from..to, one by one
three_between : (b : List ℕ) (from to : ℕ) → to ≡ from + 3 → codes_in b from to ≡ code_at b from ∷ code_at b (from + 1) ∷ code_at b (from + 2) ∷ []
unfolding codes_from
three_between b from to q =
    let n : to - from ≡ 3 = omega arith in
    ap (codes_from b from) n
    ∙ ap₂ (λ (i j : ℕ). code_at b from ∷ code_at b i ∷ code_at b j ∷ []) (omega arith) (omega arith)

-- two single terms are no trees
singles_plain : (Q : Term → Type 0) → ((w : ℕ) → Q (Chain w)) → ((z : ℤ) → Q (Number z)) → (c d : ℕ) → Q (single_of c) × Q (single_of d)
singles_plain Q p q c d = (single_plain c Q p q, single_plain d Q p q)

-- behind `:=`, the codes of one term or of two are given back
left_once : (from to : ℕ) → to ≢ from + 3 → codes_left from to 1 ≡ codes_left from (codes_left from to 1) 3
unfolding codes_left
left_once from to n =
    left-more from (codes_left from to 1) 3 (cond_both (λ (m : ℕ). m ≢ from + 3) (eqb to (from + 1)) from to (λ e. omega (arith, e)) n)

left_pair : (from to : ℕ) → to ≡ from + 3 → from ≡ codes_left from (codes_left from to 1) 3
left_pair from to e = left-same from (codes_left from to 1) 3 (sym (left-more from to 1 (λ q. omega (arith, e, q))) ∙ e)

module _ {a b : List ℕ} {from to : ℕ} (f : ℕ) {e : Expression} (l : from ≤ to) (h : codes_in b from to ≡ postfix (tree_of e))
    (kept : SameBelow a b from) where
  pair_held : to ≡ from + 3 → ActionHeld a b from from (set f e)
      (Combine (letter_field f) (operator_in (get_or b (from + 2) 0)) (single_of (get_or b from 0)) (single_of (get_or b (from + 1) 0)))
  unfolding target_in target_of expression_in source_of code_at
  pair_held q =
      let p = three_codes (code_at b from) (code_at b (from + 1)) (code_at b (from + 2)) (tree_of e) (sym (three_between b from to q) ∙ h) in
      record {
        target_is = refl;
        expression_is = rw (operator_is _ p.last, single_is _ b p.x p.first, single_is _ b p.y p.second) (sym p.is);
        formed = singles_plain (TermFormed b) (λ w. tt) (λ z. tt) _ _;
        behind = singles_plain (TermFrom from) (λ w. tt) (λ z. tt) _ _;
        inside = singles_plain (TermInside from) (λ w. tt) (λ z. tt) _ _;
        kept = kept;
      }

  set-held : to ≢ from + 3 → ActionHeld a b from (codes_left from (codes_left from to 1) 3) (set f e) (Set (letter_field f) (term_held b from to))
  unfolding target_in target_of expression_in source_of
  set-held n =
      let t = term_holds b from to e l h in
      record {
        target_is = refl;
        expression_is = t.term_is;
        formed = t.formed;
        behind = t.behind;
        inside = subst (λ (m : ℕ). TermInside m (term_held b from to)) (left_once from to n) t.inside;
        kept = kept;
      }

  pub rule-held : ActionHeld a b from (codes_left from (codes_left from to 1) 3) (set f e) (rule_held b (letter_field f) from to)
  unfolding rule_held
  rule-held = go (eqb to (from + 3)) refl
    where
      go : (y : Bool) → eqb to (from + 3) ≡ y → ActionHeld a b from (codes_left from (codes_left from to 1) 3) (set f e)
          (cond y (Combine (letter_field f) (operator_in (get_or b (from + 2) 0)) (single_of (get_or b from 0)) (single_of (get_or b (from + 1) 0)))
          (Set (letter_field f) (term_held b from to)))
      go true q =
          let m = eqb-true to (from + 3) q in
          rw (← left_pair from to m) (pair_held m)
      go false q = set-held (eqb-false to (from + 3) q)

-- the word of a remote target whose chain passes
chain_kept : (packed : ℕ) → chain_in (chain_code packed) ≡ packed
unfolding chain_in chain_code
chain_kept packed = omega arith

target-word : {s : Sizes} {p : TermParts} (c : List ℕ) → Limits s → p ≡ parts_of s (chain c) → all_pass (term_checks p) ≡ true
    → unpack (chain_in p.code) ≡ word_of c
unfolding parts_of term_code term_named term_kinded term_short
target-word {s} {p} c l e h =
    let k = all_passed (term_checks p) h in
    ap (λ (t : TermParts). unpack (chain_in t.code)) e
    ∙ ap unpack (chain_kept _)
    ∙ letters_unpacked s c (sym (ap (λ (t : TermParts). t.named) e) ∙ k.named) (sym (ap (λ (t : TermParts). t.kinded) e) ∙ k.kinded) l
    (le-ltb 16 (length c) (leb-true (length c) 16 (sym (ap (λ (t : TermParts). t.short) e) ∙ k.short)))

pub remote_held : {s : Sizes} {p : TermParts} {a b : List ℕ} {from to : ℕ} (k : Sort) (f : ℕ) (c : List ℕ) {e : Expression} {x : Term} → Limits s
    → p ≡ parts_of s (chain c) → all_pass (term_checks p) ≡ true → Holds b from to e x → SameBelow a b from
    → ActionHeld a b from to (remote k f c e) (Remote k (letter_field f) (chain_in p.code) x)
unfolding target_in target_of expression_in source_of
remote_held k f c l q h t kept = record {
  target_is = ap (P.remote k (letter_field f)) (target-word c l q h);
  expression_is = t.term_is;
  formed = t.formed;
  behind = t.behind;
  inside = t.inside;
  kept = kept;
}
