-- The expression at a place: by its depth, read with its codes or passed.
use Prim.Native.Nat.{ℕ, ◌≤◌}
use mathlib.Core.Path.{◌≡◌, sym, ap, ◌∙◌}
use mathlib.Core.Bool.{true}
use mathlib.Core.List.{List}
use native.Mathlib.Omega.{arith}
use Rattle.register.specs.Shape.{Limits}
use Rattle.register.specs.declared.Sizes.{Sizes}
use Rattle.program.specs.Code.{postfix, codes_in}
use Rattle.text_syntax.specs.Grammar.{expression}
use Rattle.text_syntax.specs.Tree.{tree_of}
use Rattle.text_syntax.specs.Flat as F
use Rattle.text_syntax.specs.Flat.{empty, summary, merged}
use Rattle.text_syntax.proofs.Scans.{merged-empty}
use Rattle.text_codes.specs.declared.summary.Summary.{Summary}
use Rattle.text_joins.specs.declared.Gathered.{Gathered}
use Rattle.text_codes.specs.Summary.{summary_of}
use Rattle.text_codes.specs.Codes.{Roomy}
use Rattle.text_expressions.specs.Reading.{ReadAs}
use Rattle.text_sides.specs.Expression.{ExpressionFormed}
use Rattle.text_codes.proofs.Postfix.{codes-postfix}

pub nothing_few : {g : Summary} → summary_of g ≡ empty → (n : ℕ) → g.operators ≤ n
unfolding empty
nothing_few e n = omega (arith, ap (λ (f : F.Summary). f.operators) e)

-- what was read, before which nothing was gathered
pub whole-read : {s : Sizes} {before : Gathered} {line a b : List ℕ} {g : Gathered} → summary_of before.seen ≡ empty
    → Roomy a line before.end before.used → ReadAs expression s 8 before line a b g → ExpressionFormed s line before.end a b before.used g
whole-read {s} e r w = record {
  written = w.written;
  form_is = w.form_is;
  summary_is = w.summary_is ∙ ap (λ (f : F.Summary). merged 0 f (summary s w.written)) e ∙ merged-empty s w.written;
  wrote = λ d. w.wrote;
  more_codes = omega (arith, w.wrote.size);
  few_codes = w.few_codes;
  inside = w.behind.inside;
  roomy = omega (arith, r, w.wrote.same_length, w.few_codes);
}

-- an expression that passes 9, 11, 12 and 24, and whose chains go over references: its codes are those of its tree
pub whole-postfix : {s : Sizes} {line : List ℕ} {at : ℕ} {a b : List ℕ} {count : ℕ} {g : Gathered} → Limits s
    → (w : ExpressionFormed s line at a b count g) → g.seen.named ≡ true → g.seen.kinded ≡ true → g.seen.short ≡ true → g.seen.ranged ≡ true
    → g.seen.depth ≤ 8 → codes_in b count g.used ≡ postfix (tree_of w.written)
unfolding summary
whole-postfix {s} l w n k h r d =
    let e = w.summary_is in
    (w.wrote (omega (arith, d, ap (λ (f : F.Summary). f.depth) e))).codes_are
    ∙ codes-postfix s l w.written
    (sym (ap (λ (f : F.Summary). f.named) e) ∙ n)
    (sym (ap (λ (f : F.Summary). f.kinded) e) ∙ k)
    (sym (ap (λ (f : F.Summary). f.short) e) ∙ h)
    (sym (ap (λ (f : F.Summary). f.ranged) e) ∙ r)
