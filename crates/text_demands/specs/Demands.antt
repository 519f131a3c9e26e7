-- What is asked of tests and rules, by what the readers gather.
use Rattle.std.specs.Prelude.{ℕ, Bool, true, ◌&&◌}
use Rattle.chain_text.specs.Text.{is_reference_letter}
use Rattle.program.specs.declared.rule.Sort.{Sort}
use Rattle.program.specs.declared.term.Term.{Term}
use Rattle.program.specs.declared.rule.Test.TheVariants.{Always, When}
use Rattle.text_syntax.specs.Parts.{same_kind}
use Rattle.text_rules.specs.declared.line.Checks.{Checks}
use Rattle.text_codes.specs.declared.code.TermParts.{TermParts}
use Rattle.text_codes.specs.declared.summary.Summary.{Summary}
use Rattle.text_checks.specs.Checks.{all_true, summary_checks, term_checks, both_checks, with_kinds, sent_kinds}
use Rattle.text_demands.specs.declared.test.TestParts.{TestParts}
use Rattle.text_demands.specs.declared.test.FirstSide.{FirstSide}

-- a test of two sides, and none
abbrev pub when_parts : FirstSide → Summary → Term → TestParts
when_parts x g y = record {
  test = When x.term x.comparison y;
  checks = with_kinds (both_checks (summary_checks x.seen) (summary_checks g)) true (same_kind x.seen.reference g.reference);
}

abbrev pub always_parts : TestParts
always_parts = record { test = Always; checks = all_true }

-- a local and a remote rule, by the letter of the field, whether it is named, and what was gathered of the rest
abbrev pub local_checks : ℕ → Bool → Summary → Checks
local_checks f named g = with_kinds (summary_checks g) named (same_kind (is_reference_letter f) g.reference)

abbrev pub remote_checks : Sort → ℕ → Bool → TermParts → Summary → Checks
remote_checks k f named p g =
    with_kinds (both_checks (term_checks p) (summary_checks g)) named (p.reference && sent_kinds k (is_reference_letter f) g.reference)
