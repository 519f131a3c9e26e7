-- What 9 to 12, 24 and 25 ask of the parts of a rule.
use Rattle.std.specs.Prelude.{Bool, true, not, ◌&&◌, leb}
use Rattle.register.specs.declared.Sizes.{Sizes}
use Rattle.chain_text.specs.Text.{names, is_reference_letter}
use Rattle.program.specs.declared.rule.Sort.{Sort}
use Rattle.program.specs.declared.rule.Sort.TheVariants.{Least, Total}
use Rattle.text_syntax.specs.Written.{chain, Expression, term, Condition, always, when, Action, set, remote}
use Rattle.text_syntax.specs.Parts.{every_term, term_named, term_kinded, term_short, term_in_range, is_reference_term, is_reference, one_kind, same_kind, depth, operators}
use Rattle.text_codes.specs.declared.summary.Summary.{Summary}
use Rattle.text_codes.specs.declared.code.TermParts.{TermParts}
use Rattle.text_rules.specs.declared.line.Checks.{Checks}
pub use Rattle.text_rules.specs.LineRead.{all_true, both_checks, with_kinds}

-- by the summary of an expression, and by a term
abbrev pub summary_checks : Summary → Checks
summary_checks g = record {
  named = g.named;
  kinded = g.kinded && not (g.reference && g.measure);
  short = g.short;
  ranged = g.ranged;
  shallow = leb g.depth 8;
  few = leb g.operators 64;
}

abbrev pub term_checks : TermParts → Checks
term_checks p = record { named = p.named; kinded = p.kinded; short = p.short; ranged = p.ranged; shallow = true; few = true }

-- the kinds that a sort of remote write takes: of the field, of X
unfoldable pub sent_kinds : Sort → Bool → Bool → Bool
sent_kinds Least field amount = same_kind field amount
sent_kinds Total field amount = not field && not amount

-- of an expression as it is written, of a test and of a rule without its test
unfoldable pub expression_checks : Sizes → Expression → Checks
expression_checks s e = record {
  named = every_term (term_named s) e;
  kinded = every_term term_kinded e && one_kind e;
  short = every_term term_short e;
  ranged = every_term term_in_range e;
  shallow = leb (depth e) 8;
  few = leb (operators e) 64;
}

unfoldable pub condition_checks : Sizes → Condition → Checks
condition_checks s always = all_true
condition_checks s (when x c y) =
    with_kinds (both_checks (expression_checks s x) (expression_checks s y)) true (same_kind (is_reference x) (is_reference y))

unfoldable pub action_checks : Sizes → Action → Checks
action_checks s (set f e) = with_kinds (expression_checks s e) (names s f) (same_kind (is_reference_letter f) (is_reference e))
action_checks s (remote k f c e) =
    with_kinds (both_checks (expression_checks s (term (chain c))) (expression_checks s e)) (names s f)
    (is_reference_term (chain c) && sent_kinds k (is_reference_letter f) (is_reference e))
