-- What is claimed of a text that passes: its readings have, in the plans of their steps, the least number of rounds (demand 3).
use Rattle.std.specs.Prelude.{ℕ, ◌≡◌}
use mathlib.Core.List.{List, Memᴰ}
use Rattle.laws.specs.Outcome.{done}
use Rattle.program.specs.Program.{Step, Program}
use Rattle.text_rules.specs.Text.{check}
use Rattle.machine_messages.specs.Least.{ReadingsLeast}

-- "Every other derivation of a reading in the text by the three rules of knowing .. has at least as many rounds as that reading has in
-- the plan."
abbrev pub TextLeast : Type 0
TextLeast = (file text : List ℕ) (p : Program) → check file text ≡ done p → (x : Step) → Memᴰ x p → ReadingsLeast x.rules
