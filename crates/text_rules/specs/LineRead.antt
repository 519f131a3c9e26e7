-- What is read of a line.
use Rattle.std.specs.Prelude.{ℕ, ◌≡◌, Bool, true, ◌&&◌, List}
use Rattle.std.proofs.Math.Option.{Option, none, some}
use Rattle.register.specs.declared.Sizes.{Sizes}
use Rattle.chain_text.specs.Text.{names, letter_field}
use Rattle.program.specs.declared.rule.Slot.{Slot}
use Rattle.program.specs.Stored.{rule_in}
use Rattle.program.specs.Terms.{SlotTerms, TermFormed}
use Rattle.text_syntax.specs.Tree.{rule_of}
use Rattle.text_syntax.specs.Written.{Condition, Action, Line, step, end, done, loop, rule}
use Rattle.text_syntax.specs.Parts.{named, kinded, short, numbers_in_range, shallow, few_operators}
use Rattle.text_rules.specs.declared.line.Checks.{Checks}
use Rattle.text_rules.specs.declared.line.LineRead.{LineRead}
use Rattle.text_rules.specs.declared.line.LineRead.TheVariants.{Step, End, Done, Loop, Rule, NoForm}

-- what 9 to 12, 24 and 25 ask of a line
unfoldable pub line_checks : Sizes → Line → Checks
line_checks s l = record { named = named s l; kinded = kinded l; short = short l; ranged = numbers_in_range l; shallow = shallow l; few = few_operators l }

unfoldable pub all_pass : Checks → Bool
all_pass c = c.named && (c.kinded && (c.short && (c.ranged && (c.shallow && c.few))))

-- asked of nothing
abbrev pub all_true : Checks
all_true = record { named = true; kinded = true; short = true; ranged = true; shallow = true; few = true }

-- of two parts; and whether a field is named and kinds agree
abbrev pub both_checks : Checks → Checks → Checks
both_checks a b = record {
  named = a.named && b.named;
  kinded = a.kinded && b.kinded;
  short = a.short && b.short;
  ranged = a.ranged && b.ranged;
  shallow = a.shallow && b.shallow;
  few = a.few && b.few;
}

abbrev pub with_kinds : Checks → Bool → Bool → Checks
with_kinds k named kinded = record {
  named = k.named && named;
  kinded = k.kinded && kinded;
  short = k.short;
  ranged = k.ranged;
  shallow = k.shallow;
  few = k.few;
}

-- a rule in the array is the one that is written; k are the codes beside the rules
pub record RuleRead (k : List ℕ) (c : Condition) (a : Action) (x : Slot) : Type 0 where
  pub rule_is : rule_in k x ≡ rule_of c a
  pub formed : SlotTerms (TermFormed k) x

-- what is read of a line, by its form; of a rule that does not pass, its checks alone
pub data Reads (s : Sizes) (k : List ℕ) : Option Line → LineRead → Type 0 where
  no_form : Reads s k none NoForm
  step_line : Reads s k (some step) Step
  end_line : Reads s k (some end) End
  done-line : Reads s k (some done) Done
  loop_line : (f : ℕ) → Reads s k (some (loop f)) (Loop (letter_field f) (names s f))
  rule-line : (c : Condition) (a : Action) (x : Slot) → (all_pass (line_checks s (rule c a)) ≡ true → RuleRead k c a x)
      → Reads s k (some (rule c a)) (Rule x (line_checks s (rule c a)))
