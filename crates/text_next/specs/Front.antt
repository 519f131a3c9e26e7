-- The first line of a text: what stands before its first byte 10, its form, and what is read of it.
use Rattle.std.specs.Prelude.{ℕ, ◌≤◌, cond, List, ltb, length}
use Rattle.std.proofs.Math.Option.{Option, none}
use Rattle.register.specs.declared.Sizes.{Sizes}
use Rattle.text_numerals.specs.Span.{span}
use Rattle.text_syntax.specs.Lexing.{tokens}
use Rattle.text_syntax.specs.Written.{Line}
use Rattle.text_syntax.specs.Grammar.{line_form}
use Rattle.text_rules.specs.Text.{is_within}
use Rattle.text_rules.specs.LineRead.{Reads}
use Rattle.text_lines.specs.Line.{Leaves}
use Rattle.text_lines.specs.declared.line.LineParts.{LineParts}

-- the bytes before the first byte 10
abbrev pub line_bytes : List ℕ → List ℕ
line_bytes t = span is_within t

-- 7: "a last line without byte 10" has none
unfoldable pub first_form : List ℕ → Option Line
first_form t = cond (ltb (length (line_bytes t)) (length t)) (line_form (tokens (line_bytes t))) none

-- room for the codes of a text of n bytes: one for each byte
pub record CodeRoom (n : ℕ) (a : List ℕ) : Type 0 where
  pub room : n ≤ length a
  pub few : length a ≤ 65536

-- what is read of the first line, which ends at `end`, and the codes that it leaves, from `count` on
pub record LineNext (s : Sizes) (form : Option Line) (end : ℕ) (a b : List ℕ) (count : ℕ) (r : LineParts) : Type 0 where
  pub reads : Reads s b form r.line
  pub leaves : Leaves a b count r.used r.line
  pub more_codes : count ≤ r.used
  pub few_codes : r.used ≤ end
