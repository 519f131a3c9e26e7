-- What is told of the next line of a text.
use Rattle.std.specs.Prelude.{ℕ, ◌+◌, ◌≡◌, Bool, List, length, drop, Result, Ok, Err}
use Rattle.text_rules.specs.declared.scope.Scope.{Scope}
use Rattle.text_next.specs.Front.{line_bytes, first_form, LineNext}
use Rattle.text_lines.specs.declared.line.LineParts.{LineParts}
use Rattle.text_state.specs.declared.state.State.{State}
use Rattle.text_refusals.specs.Number.{refusal_number}
use Rattle.text_refusals.specs.Refusal.{refusal_of}
use Rattle.text_judge.specs.declared.Next.{Next}
use Rattle.text_judge.specs.declared.RefusedLine.{RefusedLine}

abbrev pub parts_of : Next → LineParts
parts_of r = record { line = r.line; used = r.used }

-- the line of t that begins at `at`: n codes stand in the arrays a before it is read, and b are the arrays behind it; where it ends, its
-- parts, and the number of its refusal, 0 where it passes
pub record LineJudged (scope : Scope) (t : List ℕ) (at : ℕ) (x : State) (full : Bool) (a b : List ℕ) (n end : ℕ) (p : LineParts) (number : ℕ) : Type 0 where
  pub end_is : end ≡ at + length (line_bytes (drop at t))
  pub read : LineNext scope.sizes (first_form (drop at t)) end a b n p
  pub refusal_is : number ≡ refusal_of x full p.line

-- a line that passes, or that is refused
abbrev pub Judged : Scope → List ℕ → ℕ → State → Bool → List ℕ → List ℕ → ℕ → Result Next RefusedLine → Type 0
Judged scope t at x full a b n (Ok r) = LineJudged scope t at x full a b n r.end (parts_of r) 0
Judged scope t at x full a b n (Err e) = LineJudged scope t at x full a b n e.next.end (parts_of e.next) (refusal_number e.refusal)
