-- What is asked of expressions and rules, by what the readers gather.
use Prim.Native.Nat.{ℕ}
use mathlib.Core.Path.{◌≡◌, refl, ap, ap₂, ◌∙◌}
use mathlib.Core.Bool.{Bool, true, false, not, ◌&&◌}
use mathlib.Core.List.{List}
use lib.Dec.{leb}
use Rattle.register.specs.declared.Sizes.{Sizes}
use Rattle.laws.proofs.Bools.{and_both}
use Rattle.chain_text.specs.Text.{names, is_reference_letter}
use Rattle.program.specs.declared.rule.Sort.{Sort}
use Rattle.text_syntax.specs.Written.{Expression, term, chain, set, remote}
use Rattle.text_syntax.specs.Parts.{every_term, term_named, term_kinded, term_short, term_in_range, is_reference_term, is_reference, is_measure, one_kind, same_kind, depth, operators}
use Rattle.text_syntax.specs.Flat as F
use Rattle.text_syntax.specs.Flat.{summary}
use Rattle.text_rules.specs.declared.line.Checks.{Checks}
use Rattle.text_rules.specs.LineRead.{all_pass}
use Rattle.text_codes.specs.declared.summary.Summary.{Summary}
use Rattle.text_codes.specs.declared.code.TermParts.{TermParts}
use Rattle.text_codes.specs.Summary.{summary_of}
use Rattle.text_codes.specs.Coded.{parts_of}
use Rattle.text_checks.specs.Checks.{summary_checks, term_checks, both_checks, with_kinds, sent_kinds, expression_checks, action_checks}

-- all checks pass
pub record Passed (k : Checks) : Type 0 where
  pub named : k.named ≡ true
  pub kinded : k.kinded ≡ true
  pub short : k.short ≡ true
  pub ranged : k.ranged ≡ true
  pub shallow : k.shallow ≡ true
  pub few : k.few ≡ true

pub all_passed : (k : Checks) → all_pass k ≡ true → Passed k
unfolding all_pass
all_passed k h =
    let n = and_both k.named (k.kinded && (k.short && (k.ranged && (k.shallow && k.few)))) h in
    let i = and_both k.kinded (k.short && (k.ranged && (k.shallow && k.few))) n.1 in
    let s = and_both k.short (k.ranged && (k.shallow && k.few)) i.1 in
    let r = and_both k.ranged (k.shallow && k.few) s.1 in
    let d = and_both k.shallow k.few r.1 in
    record { named = n.0; kinded = i.0; short = s.0; ranged = r.0; shallow = d.0; few = d.1 }

passed_all : (k : Checks) → Passed k → all_pass k ≡ true
unfolding all_pass
passed_all k p = simp (p.named, p.kinded, p.short, p.ranged, p.shallow, p.few)

-- each of two parts passes then
pub both_pass : (a b : Checks) → all_pass (both_checks a b) ≡ true → (all_pass a ≡ true) × (all_pass b ≡ true)
both_pass a b h =
    let p = all_passed (both_checks a b) h in
    let n = and_both a.named b.named p.named in
    let i = and_both a.kinded b.kinded p.kinded in
    let s = and_both a.short b.short p.short in
    let r = and_both a.ranged b.ranged p.ranged in
    let d = and_both a.shallow b.shallow p.shallow in
    let f = and_both a.few b.few p.few in (
      passed_all a (record { named = n.0; kinded = i.0; short = s.0; ranged = r.0; shallow = d.0; few = f.0 }),
      passed_all b (record { named = n.1; kinded = i.1; short = s.1; ranged = r.1; shallow = d.1; few = f.1 }),
    )

pub kinds_pass : (k : Checks) (named kinded : Bool) → all_pass (with_kinds k named kinded) ≡ true → all_pass k ≡ true
kinds_pass k named kinded h =
    let p = all_passed (with_kinds k named kinded) h in
    passed_all k (record {
      named = (and_both k.named named p.named).0;
      kinded = (and_both k.kinded kinded p.kinded).0;
      short = p.short;
      ranged = p.ranged;
      shallow = p.shallow;
      few = p.few;
    })

pub with_same : {k j : Checks} {n m i h : Bool} → k ≡ j → n ≡ m → i ≡ h → with_kinds k n i ≡ with_kinds j m h
with_same {j = j} {n = n} {i = i} e p q = ap (λ (x : Checks). with_kinds x n i) e ∙ ap₂ (with_kinds j) p q

pub both-same : {k j m n : Checks} → k ≡ j → m ≡ n → both_checks k m ≡ both_checks j n
both-same e q = ap₂ both_checks e q

one-kind : (a b : Bool) → a ≡ a && not (b && not b)
one-kind true true = refl
one-kind true false = refl
one-kind false b = refl

module _ (s : Sizes) where
  -- of an expression, by its summary
  pub summary_checks_lem : {g : Summary} (e : Expression) → summary_of g ≡ summary s e → summary_checks g ≡ expression_checks s e
  unfolding summary expression_checks one_kind
  summary_checks_lem e h = ap (λ (f : F.Summary). record {
    named = f.named;
    kinded = f.kinded && not (f.reference && f.measure);
    short = f.short;
    ranged = f.ranged;
    shallow = leb f.depth 8;
    few = leb f.operators 64;
  }) h

  pub summary_reference : {g : Summary} (e : Expression) → summary_of g ≡ summary s e → g.reference ≡ is_reference e
  unfolding summary
  summary_reference e h = ap (λ (f : F.Summary). f.reference) h

  -- of the chain of a remote target, by its parts
  pub target_checks : {p : TermParts} (c : List ℕ) → p ≡ parts_of s (chain c) → term_checks p ≡ expression_checks s (term (chain c))
  unfolding parts_of expression_checks every_term one_kind is_reference is_measure depth operators
  target_checks c h =
      ap term_checks h
      ∙ ap (λ (k : Bool). record {
        named = term_named s (chain c);
        kinded = k;
        short = term_short (chain c);
        ranged = term_in_range (chain c);
        shallow = true;
        few = true;
      })
      (one-kind (term_kinded (chain c)) (is_reference_term (chain c)))

  pub set_checks : {g : Summary} (f : ℕ) (e : Expression) → summary_of g ≡ summary s e
      → with_kinds (summary_checks g) (names s f) (same_kind (is_reference_letter f) g.reference) ≡ action_checks s (set f e)
  unfolding action_checks
  set_checks f e h =
      ap₂ (λ (k : Checks) (r : Bool). with_kinds k (names s f) (same_kind (is_reference_letter f) r)) (summary_checks_lem e h) (summary_reference e h)

  pub remote_checks_lem : {p : TermParts} {g : Summary} (k : Sort) (f : ℕ) (c : List ℕ) (e : Expression) → p ≡ parts_of s (chain c) → summary_of g ≡ summary s e
      → with_kinds (both_checks (term_checks p) (summary_checks g)) (names s f) (p.reference && sent_kinds k (is_reference_letter f) g.reference)
      ≡ action_checks s (remote k f c e)
  unfolding action_checks parts_of
  remote_checks_lem {p} {g} k f c e q h =
      ap₂ (λ (a b : Checks). with_kinds (both_checks a b) (names s f) (p.reference && sent_kinds k (is_reference_letter f) g.reference))
      (target_checks c q) (summary_checks_lem e h)
      ∙ ap₂ (λ (r w : Bool). with_kinds (both_checks (expression_checks s (term (chain c))) (expression_checks s e)) (names s f)
      (r && sent_kinds k (is_reference_letter f) w)) (ap (λ (t : TermParts). t.reference) q) (summary_reference e h)
