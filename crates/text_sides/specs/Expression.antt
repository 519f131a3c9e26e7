-- The expression at a place of a line, with what is asked of it and its codes.
use Rattle.std.specs.Prelude.{ℕ, ◌+◌, ◌≤◌, ◌≡◌, true, false, List, length, Option, Some, None}
use Rattle.register.specs.declared.Sizes.{Sizes}
use Rattle.text_syntax.specs.Form.{formed}
use Rattle.text_syntax.specs.Written.{Expression}
use Rattle.text_syntax.specs.Grammar.{expression}
use Rattle.text_syntax.specs.Parts.{depth}
use Rattle.text_syntax.specs.Flat.{summary}
use Rattle.text_joins.specs.declared.Gathered.{Gathered}
use Rattle.text_places.specs.Place.{tokens_from}
use Rattle.text_codes.specs.Summary.{summary_of}
use Rattle.text_codes.specs.Codes.{written_codes, Wrote, Roomy}
use Rattle.text_expressions.specs.Reading.{Unread}

-- an expression stands at a place, with what is asked of it; if it is at most 8 groups deep, its codes were written; there is room for what
-- follows
pub record ExpressionFormed (s : Sizes) (line : List ℕ) (at : ℕ) (a b : List ℕ) (count : ℕ) (g : Gathered) : Type 0 where
  pub written : Expression
  pub form_is : expression (tokens_from true line at) ≡ formed written (tokens_from false line g.end)
  pub summary_is : summary_of g.seen ≡ summary s written
  pub wrote : depth written ≤ 8 → Wrote a b count g.used (written_codes written)
  pub more_codes : count ≤ g.used
  pub few_codes : g.used + at ≤ count + g.end
  pub inside : g.end ≤ length line
  pub roomy : Roomy b line g.end g.used

abbrev pub ExpressionAt : Sizes → List ℕ → ℕ → List ℕ → List ℕ → ℕ → Option Gathered → Type 0
ExpressionAt s line at a b count (Some g) = ExpressionFormed s line at a b count g
ExpressionAt s line at a b count None = Unread expression line at
