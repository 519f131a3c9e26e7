-- What the look leaves at the places of a plan's lines.
use Rattle.std.specs.Prelude.{◌≡◌, List, ℕ, ◌+◌, ◌*◌, ◌≤◌, ◌<◌, ℤ, length}
use Rattle.register.specs.declared.Sizes.{Sizes}
use Rattle.register.specs.declared.cells.Cell.{Cell}
use Rattle.plan_theory.specs.Plan.{Fact, line}
use Rattle.machine_messages.specs.Held.{held_after}
use Rattle.scratch.specs.Places.{Kept}
use Rattle.gather_line.specs.Written.{Stored}

-- The lines l after round t: "Line i, from 0, and origin u have place i × n + u. It holds mark 1 exactly if that letter was sent
-- in rounds 1 to t, and then the value read (Read) or the addressee (Back); otherwise value 0 and mark 0. Places behind the
-- step's last line are not touched."
pub record Shown (s : Sizes) (cells : List Cell) (l : List Fact) (t : ℕ) (values : List ℤ) (marks : List ℕ) (values' : List ℤ) (marks' : List ℕ) : Type 0 where
  pub values_length : length values' ≡ length values
  pub marks_length : length marks' ≡ length marks
  pub held : (i u : ℕ) → i < length l → u < s.records → Stored (held_after s cells t (line l i) u) (i * s.records + u) values' marks'
  pub behind : (j : ℕ) → length l * s.records ≤ j → Kept j values marks values' marks'
