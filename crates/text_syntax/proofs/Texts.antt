-- A line has a form exactly when it spells the tokens of that form, with any free spaces.
use Prim.Native.Nat.{ℕ}
use mathlib.Core.Path.{◌≡◌, ap, ◌∙◌}
use mathlib.Core.Logic.{◌↔◌}
use mathlib.Core.Bool.{false}
use mathlib.Core.List.{List}
use mathlib.Core.Option.{some}
use Rattle.text_syntax.specs.Lexing.{tokens}
use Rattle.text_syntax.specs.Spelling.{Spells}
use Rattle.text_syntax.specs.Written.{Line}
use Rattle.text_syntax.specs.Grammar.{line_form}
use Rattle.text_syntax.specs.Printed.{printed_line, Proper}
use Rattle.text_syntax.proofs.Spellings.{tokens_exactly}
use Rattle.text_syntax.proofs.Lines.{line-spelled, printed-line, line_known}

pub text_exactly : (t : List ℕ) (l : Line) → (line_form (tokens t) ≡ some l) ↔ (Spells false (printed_line l) t × Proper l)
unfolding tokens
text_exactly t l = (
  λ e. let w = line-spelled (tokens t) l e in ((tokens_exactly false (printed_line l) t).0 (w.text, line_known l), w.proper),
  λ w. ap line_form ((tokens_exactly false (printed_line l) t).1 w.0).0 ∙ printed-line l w.1,
)
