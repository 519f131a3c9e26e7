-- What stands over a fuller register: readings, and the messages (document 02's letters) of a step's plan.
use Rattle.std.specs.Prelude.{Some}
use Rattle.std.specs.Prelude.{ℕ, ◌+◌, ◌*◌, ◌≤◌, ◌<◌, ◌≡◌, ℤ, pos, length, get_or}
use mathlib.Core.List.{List, Memᴰ}
use Rattle.laws.specs.Outcome.{done}
use Rattle.register.specs.File.{cells_of_file}
use Rattle.register.specs.declared.Sizes.{Sizes}
use Rattle.register.specs.declared.cells.Cell.{Cell}
use Rattle.chain.specs.Word.{value_at_record}
use Rattle.plan_theory.specs.Plan.{Fact, line}
use Rattle.program.specs.Program.{Rule, Step, Program, step_plan}
use Rattle.text_rules.specs.Text.{check}
use Rattle.machine_messages.specs.Held.{held_after}
use Rattle.machine_messages.specs.Counts.{held_in, line_messages, plan_messages}
use Rattle.op_read.specs.Reading.{reading}
use Rattle.op_inspect.specs.Inspection.{inspection}
use Rattle.op_inspect.specs.Answer.{StepAnswered}
use Rattle.op_inspect.specs.declared.InspectAnswer.{InspectAnswer}
use Rattle.fuller.specs.Fuller.{Retained, Fuller, FullerFile}

module _ (s : Sizes) (cells cells' : List Cell) where
  -- "each reading filled in the first has that value in the second"
  abbrev pub ReadingsRetained : Type 0
  ReadingsRetained = (w : List ℕ) (u : ℕ) → Retained (value_at_record s cells w u) (value_at_record s cells' w u)

  -- "each plan's reading letters in the first are all sent in the second", with the same content: for the lines l of a plan, each
  -- origin, and after every round t; so there are never fewer of them, for a line and for the plan
  pub record MessagesRetained (l : List Fact) : Type 0 where
    pub sent : (t i u : ℕ) → i < length l → u < s.records → Retained (held_after s cells t (line l i) u) (held_after s cells' t (line l i) u)
    pub line_count : (t i : ℕ) → i < length l
        → line_messages (held_after s cells t (line l i)) s.records ≤ line_messages (held_after s cells' t (line l i)) s.records
    pub plan_count : (t : ℕ) → plan_messages (held_after s cells t) l s.records ≤ plan_messages (held_after s cells' t) l s.records

-- two looks at a plan of this many lines over n records: where the first leaves mark 1 so does the second, and the same value
abbrev pub PlacesRetained : ℕ → ℕ → List ℤ → List ℕ → List ℤ → List ℕ → Type 0
PlacesRetained n lines values marks values' marks' =
    (i u : ℕ) → i < lines → u < n → get_or marks (i * n + u) 0 ≡ 1
    → (get_or marks' (i * n + u) 0 ≡ 1) × (get_or values' (i * n + u) (pos 0) ≡ get_or values (i * n + u) (pos 0))

-- what the operations answer over two files of which the second is the fuller one
pub record AnswersRetained (s : Sizes) (file file' : List ℕ) : Type 0 where
  -- a single reading that is filled, for any text of a chain and any record number
  pub reading_retained : (text : List ℕ) (u : ℕ) {z : ℤ} → reading file text u ≡ done (Some z) → reading file' text u ≡ done (Some z)
  -- a text is the same program, or refused alike
  pub check-same : (text : List ℕ) → check file text ≡ check file' text
  -- the messages of the plan of every step of a text that passes
  pub text_retained : (text : List ℕ) {p : Program} → check file text ≡ done p → {x : Step} → Memᴰ x p
      → MessagesRetained s (cells_of_file s file) (cells_of_file s file') (step_plan x.rules)
  -- the same step is looked at, or the look refused alike; a and b are the lengths of the buffers
  pub inspection-same : (text : List ℕ) (step a b : ℕ) → inspection file text step a b ≡ inspection file' text step a b
  -- two looks after round t, whatever their buffers held before
  pub look_retained : {l : List Fact} {t : ℕ} {v w values values' : List ℤ} {m n marks marks' : List ℕ} {r r' : InspectAnswer}
      → StepAnswered l file t v m values marks r → StepAnswered l file' t w n values' marks' r'
      → PlacesRetained s.records (length l) values marks values' marks'

-- M-113: "for two registers of equal sizes where every filled cell of the first is filled with the same value in the second"
pub record FullerClaims : Type 0 where
  -- for readings and the reading letters of any plan, by the cells
  pub readings : (s : Sizes) {cells cells' : List Cell} → Fuller cells cells' → ReadingsRetained s cells cells'
  pub messages : (s : Sizes) {cells cells' : List Cell} → Fuller cells cells' → (l : List Fact) → MessagesRetained s cells cells' l
  -- so of its plan's messages a step counts no fewer
  pub counted : (s : Sizes) {cells cells' : List Cell} → Fuller cells cells' → (rs : List Rule)
      → plan_messages (held_in s rs cells) (step_plan rs) s.records ≤ plan_messages (held_in s rs cells') (step_plan rs) s.records
  -- and for what the operations answer
  pub answers : {s : Sizes} {file file' : List ℕ} → FullerFile s file file' → AnswersRetained s file file'
