-- Terms and operators in a summary.
use Prim.Native.Nat.{ℕ, ◌+◌}
use mathlib.Core.Path.{◌≡◌, ap, ◌∙◌}
use native.Mathlib.Omega.{arith}
use Rattle.register.specs.declared.Sizes.{Sizes}
use Rattle.program.specs.declared.rule.Operator.{Operator}
use Rattle.text_syntax.specs.Written.{Term, term}
use Rattle.text_syntax.specs.Parts.{every_term, is_reference, is_measure, depth, operators}
use Rattle.text_syntax.specs.Flat as F
use Rattle.text_syntax.specs.Flat.{summary, merged, with_operator}
use Rattle.text_codes.specs.declared.code.TermParts.{TermParts}
use Rattle.text_codes.specs.declared.summary.Summary.{Summary}
use Rattle.text_codes.specs.Coded.{parts_of}
use Rattle.text_codes.specs.Summary.{summary_of, term_summary}

-- a term's part of a summary
pub term_summary_lem : (s : Sizes) (x : Term) {p : TermParts} → p ≡ parts_of s x → term_summary p ≡ summary s (term x)
unfolding parts_of summary every_term is_reference is_measure depth operators
term_summary_lem s x e = ap term_summary e

-- a term and an operator leave as many operators as bytes
pub term_few : (d : ℕ) (g : Summary) {h : Summary} (p : TermParts) → summary_of h ≡ merged d (summary_of g) (term_summary p) → h.operators ≡ g.operators
unfolding merged
term_few d g p e = ap (λ (f : F.Summary). f.operators) e ∙ omega arith

pub operator_few : (o : Operator) (g : Summary) {h : Summary} → summary_of h ≡ with_operator o (summary_of g) → h.operators ≡ g.operators + 1
unfolding with_operator
operator_few o g e = ap (λ (f : F.Summary). f.operators) e
