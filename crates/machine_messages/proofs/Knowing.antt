-- What a record knows by messages is what following hop by hop reads.
use Prim.Native.Nat.{ℕ, ◌<◌}
use mathlib.Core.Path.{◌≡◌}
use mathlib.Core.List.{List, Memᴰ}
use Rattle.register.specs.Shape.{Valid}
use Rattle.register.specs.declared.Sizes.{Sizes}
use Rattle.register.specs.declared.cells.Cell.{Cell}
use Rattle.chain.specs.Word.{Passes}
use Rattle.plan_theory.specs.Plan.{read}
use Rattle.program.specs.Program.{Rule, readings}
use Rattle.program.specs.Passed.{RulesPass}
use Rattle.machine.specs.Run.{direct}
use Rattle.laws.proofs.Lists.{each_of}
use Rattle.machine.proofs.Readings.{readings_pass}
use Rattle.machine_messages.specs.Counts.{most_rounds, held_in, by_messages}
use Rattle.machine_messages.proofs.Telling.{told, knows_value}
use Rattle.machine_messages.proofs.Rounds.{rounds-most}

-- every reading of rules that pass, at every record
pub knows-direct : {s : Sizes} {rs : List Rule} {cells : List Cell} → RulesPass s rs → Valid s cells → (u : ℕ) → u < s.records
    → (w : List ℕ) → Memᴰ w (readings rs) → by_messages s rs cells u w ≡ direct s rs cells u w
unfolding by_messages held_in direct
knows-direct {s} {rs} k v u h w m =
    knows_value v w (told v (read w)) (each_of (Passes s) (readings_pass s rs k.each) m).follows (most_rounds (readings rs)) u (rounds-most m) h
