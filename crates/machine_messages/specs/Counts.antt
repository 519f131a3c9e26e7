-- The message machine as a reader of the machine's definition, and what a run counts: exchanges and messages (document 01's
-- letters), "summed over the finished steps".
use Rattle.std.specs.Prelude.{None, Some}
use Rattle.std.specs.Prelude.{cond, List, [], ◌∷◌, ℕ, zero, suc, ◌+◌, max, length}
use Rattle.register.specs.declared.Sizes.{Sizes}
use Rattle.register.specs.declared.cells.Cell.{Cell}
use Rattle.chain.specs.Reading.{Reading}
use Rattle.plan_theory.specs.Plan.{Fact, read, round}
use Rattle.program.specs.Program.{Rule, Step, readings, step_plan, has_remote}
use Rattle.machine.specs.Remote.{record_messages}
use Rattle.machine.specs.Run.{Reader}
use Rattle.machine_messages.specs.Held.{Held, knows, held_after}

-- "the most rounds that any of its readings has in the plan, 0 if it has no reading"
unfoldable pub most_rounds : List (List ℕ) → ℕ
most_rounds [] = 0
most_rounds (w ∷ ws) = max (round (read w)) (most_rounds ws)

-- what is held in a step once the lines of all rounds are done
unfoldable pub held_in : Sizes → List Rule → List Cell → Held
held_in s rs cells = held_after s cells (most_rounds (readings rs))

-- the machine by messages: a record reads what it knows then
unfoldable pub by_messages : Sizes → Reader
by_messages s rs cells u w = knows s cells (held_in s rs cells) u w

-- 1 for a message, whomever it goes to: "Letters to oneself count."; 0 for none
abbrev pub is_sent : Reading → ℕ
is_sent None = 0
is_sent (Some z) = 1

-- the messages of one line, to the origins below n, and of all
unfoldable pub line_messages : (ℕ → Reading) → ℕ → ℕ
line_messages held zero = 0
line_messages held (suc n) = line_messages held n + is_sent (held n)

unfoldable pub plan_messages : Held → List Fact → ℕ → ℕ
plan_messages held [] n = 0
plan_messages held (f ∷ l) n = line_messages (held f) n + plan_messages held l n

-- what a step makes: exchanges, "and 1 more if it holds a remote rule" ..
unfoldable pub step_exchanges : List Rule → ℕ
step_exchanges rs = most_rounds (readings rs) + cond (has_remote rs) 1 0

-- .. and messages, of its lines and of its remote writes
unfoldable pub step_messages : Sizes → List Rule → List Cell → ℕ
step_messages s rs cells =
    let n = s.records in
    plan_messages (held_in s rs cells) (step_plan rs) n + length (record_messages (by_messages s rs cells) rs n)

-- "the sum, over the finished steps, each counted as often as it finished"
unfoldable pub trace_exchanges : List (Step × List Cell) → ℕ
trace_exchanges [] = 0
trace_exchanges ((x, cells) ∷ trace) = step_exchanges x.rules + trace_exchanges trace

unfoldable pub trace_messages : Sizes → List (Step × List Cell) → ℕ
trace_messages s [] = 0
trace_messages s ((x, cells) ∷ trace) = step_messages s x.rules cells + trace_messages s trace
