-- Document 01's look: which step's lines are shown, or why none are.
use Rattle.std.specs.Prelude.{cond, List, ℕ}
use Rattle.laws.specs.Outcome.{Outcome, done, refused, after}
use Rattle.register.specs.File.{sizes_of}
use Rattle.plan_theory.specs.Plan.{Fact}
use Rattle.program.specs.Program.{Program, most_lines, step_plan}
use Rattle.text_rules.specs.Text.{check, rules_at}
use Rattle.machine.specs.Run.{scratch, is_short}

-- the lines of a step, 17 first: "plan or look asked for a step that is not there"
unfoldable pub step_lines : List ℕ → ℕ → ℕ → ℕ → Program → Outcome (List Fact)
step_lines file step values marks p =
    after (rules_at p step) (λ rs. cond (is_short (scratch (sizes_of file) (most_lines p)) values marks) (refused 19 0) (done (step_plan rs)))

-- "The register is looked at first, then rules or chain, then 16 or 17, then 18 and 19."
unfoldable pub inspection : List ℕ → List ℕ → ℕ → ℕ → ℕ → Outcome (List Fact)
inspection file text step values marks = after (check file text) (step_lines file step values marks)
