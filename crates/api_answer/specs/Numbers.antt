-- The eight places of the C interface's answer array.
use Rattle.std.specs.Prelude.{ℕ, List, [], ◌∷◌}
use Rattle.op_inspect.specs.declared.InspectAnswer.{InspectAnswer}
use Rattle.run_steps.specs.declared.RunAnswer.{RunAnswer}

-- a run's: line, finished steps, exchanges, letters, and for 21 the record and the column
abbrev pub run_numbers : RunAnswer → List ℕ
run_numbers r = r.line ∷ r.finished ∷ r.counts.exchanges ∷ r.counts.messages ∷ r.row ∷ r.column ∷ 0 ∷ 0 ∷ []

-- a look's: line, and the step's number of plan lines
abbrev pub inspect_numbers : InspectAnswer → List ℕ
inspect_numbers r = r.line ∷ 0 ∷ 0 ∷ 0 ∷ 0 ∷ 0 ∷ r.lines ∷ 0 ∷ []
