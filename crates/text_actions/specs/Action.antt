-- What the readers of rules answer: of a rule without its test, to the end of the line.
use Rattle.std.specs.Prelude.{ℕ, ◌+◌, ◌≤◌, ◌≡◌, true, false, List, ◌∷◌, length, Option, Some, None}
use Rattle.std.proofs.Math.Option.{none, some}
use Rattle.register.specs.declared.Sizes.{Sizes}
use Rattle.chain_text.specs.Text.{is_capital}
use Rattle.program.specs.declared.rule.Rule.{Rule}
use Rattle.program.specs.Stored.{target_in, expression_in}
use Rattle.program.specs.Terms.{RuleTerms, TermFormed, TermFrom, TermInside}
use Rattle.program.specs.Code.{SameBelow}
use Rattle.text_syntax.specs.Token.{Token}
use Rattle.text_syntax.specs.Form.{Form, formed, unformed, then, or, whole}
use Rattle.text_syntax.specs.Written.{Action, chain}
use Rattle.text_syntax.specs.Grammar.{chain_form, local_form, sent_form, remote_form}
use Rattle.text_syntax.specs.Tree.{target_of, source_of}
use Rattle.text_rules.specs.LineRead.{all_pass}
use Rattle.text_places.specs.Place.{tokens_from, Behind}
use Rattle.text_codes.specs.Coded.{parts_of}
use Rattle.text_checks.specs.Checks.{action_checks}
use Rattle.text_actions.specs.declared.action.ActionParts.{ActionParts}
use Rattle.text_actions.specs.declared.action.Target.{Target}

-- a rule without its test
unfoldable pub action_form : List Token → Form Action
action_form ts = or (remote_form ts) (local_form ts)

-- a rule in the array is the written one; the codes of its terms stand from..to, and those before are as they were
pub record ActionHeld (a b : List ℕ) (from to : ℕ) (x : Action) (r : Rule) : Type 0 where
  pub target_is : target_in r ≡ target_of x
  pub expression_is : expression_in b r ≡ source_of x
  pub formed : RuleTerms (TermFormed b) r
  pub behind : RuleTerms (TermFrom from) r
  pub inside : RuleTerms (TermInside to) r
  pub kept : SameBelow a b from

-- what was read from a place on is a rule to the end of the line: if it passes, the rule in the array is that one
pub record ActionFormed (s : Sizes) (line : List ℕ) (at : ℕ) (form : Form Action) (a b : List ℕ) (count : ℕ) (x : ActionParts) : Type 0 where
  pub written : Action
  pub form_is : whole form ≡ some written
  pub checks_are : x.checks ≡ action_checks s written
  pub held : all_pass x.checks ≡ true → ActionHeld a b count x.used written x.rule
  pub more_codes : count ≤ x.used
  pub few_codes : x.used + at ≤ count + length line

pub record NoAction (form : Form Action) : Type 0 where
  pub none : whole form ≡ none

abbrev pub ActionAt : Sizes → List ℕ → ℕ → Form Action → List ℕ → List ℕ → ℕ → Option ActionParts → Type 0
ActionAt s line at form a b count (Some x) = ActionFormed s line at form a b count x
ActionAt s line at form a b count None = NoAction form

-- `F[C]` stands at a place; or no remote target does
pub record TargetFormed (s : Sizes) (line : List ℕ) (at : ℕ) (x : Target) : Type 0 where
  pub inner : List ℕ
  pub form_is : chain_form (tokens_from false line at) ≡ formed (x.letter ∷ inner) (tokens_from false line x.end)
  pub parts_are : x.parts ≡ parts_of s (chain inner)
  pub capital : is_capital x.letter ≡ true
  pub behind : Behind line at x.end

pub record NoTarget (line : List ℕ) (at : ℕ) : Type 0 where
  pub none : then (chain_form (tokens_from false line at)) sent_form ≡ unformed

abbrev pub TargetAt : Sizes → List ℕ → ℕ → Option Target → Type 0
TargetAt s line at (Some x) = TargetFormed s line at x
TargetAt s line at None = NoTarget line at

-- what stands behind `remote F[C]`, for every C of these parts
abbrev pub SentBehind : Sizes → List ℕ → Target → List ℕ → List ℕ → ℕ → Option ActionParts → Type 0
SentBehind s line x a b count r =
    (c : List ℕ) → x.parts ≡ parts_of s (chain c)
    → ActionAt s line x.end (sent_form (x.letter ∷ c) (tokens_from false line x.end)) a b count r
