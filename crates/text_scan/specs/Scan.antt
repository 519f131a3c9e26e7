-- What one pass over an expression answers.
use Rattle.std.specs.Prelude.{ℕ, ◌≤◌, ◌<◌, ◌≡◌, true, false, List, length, Option, Some, None}
use Rattle.register.specs.declared.Sizes.{Sizes}
use Rattle.text_syntax.specs.Form.{Form, formed, unformed}
use Rattle.text_syntax.specs.Written.{Expression}
use Rattle.text_syntax.specs.Grammar.{expression}
use Rattle.text_syntax.specs.Flat as F
use Rattle.text_syntax.specs.Flat.{scan_from, summary}
use Rattle.text_codes.specs.declared.summary.Summary.{Summary}
use Rattle.text_scan.specs.declared.ScanState.{ScanState}
use Rattle.text_places.specs.Place.{tokens_from}
use Rattle.text_codes.specs.Summary.{summary_of}

-- a state whose place is inside the line; each group and each operator has a byte before it
pub record ScanStateAt (line : List ℕ) (x : ScanState) : Type 0 where
  pub inside : x.at ≤ length line
  pub groups : x.deep ≤ x.at
  pub operators : x.seen.operators ≤ x.at

-- what the pass answers from a state on
abbrev pub scan_of : Sizes → List ℕ → ScanState → Form F.Summary
scan_of s line x = scan_from s x.due x.deep (summary_of x.seen) (tokens_from x.due line x.at)

-- a turn: the same answer from the next state on, or no expression
pub record Turns (s : Sizes) (line : List ℕ) (x y : ScanState) : Type 0 where
  pub same : scan_of s line x ≡ scan_of s line y
  pub onward : x.at < y.at
  pub stands : ScanStateAt line y

pub record Fails (s : Sizes) (line : List ℕ) (x : ScanState) : Type 0 where
  pub none : scan_of s line x ≡ unformed

abbrev pub TurnAt : Sizes → List ℕ → ScanState → Option ScanState → Type 0
TurnAt s line x (Some y) = Turns s line x y
TurnAt s line x None = Fails s line x

-- an expression stands at a place where an operand is due, with what is asked of it; or none
pub record ScanFormed (s : Sizes) (line : List ℕ) (at : ℕ) (g : Summary) (end : ℕ) : Type 0 where
  pub written : Expression
  pub form_is : expression (tokens_from true line at) ≡ formed written (tokens_from false line end)
  pub summary_is : summary_of g ≡ summary s written
  pub onward : at ≤ end
  pub inside : end ≤ length line

pub record NoExpression (line : List ℕ) (at : ℕ) : Type 0 where
  pub none : expression (tokens_from true line at) ≡ unformed

abbrev pub ScanAt : Sizes → List ℕ → ℕ → Option (Summary × ℕ) → Type 0
ScanAt s line at (Some (g, end)) = ScanFormed s line at g end
ScanAt s line at None = NoExpression line at
