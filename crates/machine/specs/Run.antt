-- A run: steps until none is left, the budget (document 01's allowance) is exhausted, or a step stops.
use Rattle.std.specs.Prelude.{None, Some}
use Rattle.std.specs.Prelude.{Bool, true, false, cond, not, ◌&&◌, ◌||◌, List, [], ◌∷◌, ℕ, zero, suc, ◌+◌, ◌*◌, ltb}
use Rattle.std.proofs.Math.Option.{Option, none, some}
use Rattle.integers.specs.Range.{eq_z}
use Rattle.register.specs.File.{width}
use Rattle.register.specs.declared.Sizes.{Sizes}
use Rattle.register.specs.declared.cells.Cell.{Cell}
use Rattle.chain.specs.Reading.{Reading}
use Rattle.chain.specs.Word.{read_cell, value_at_record}
use Rattle.program.specs.declared.setting.Setting.{Setting}
use Rattle.program.specs.declared.setting.Setting.TheVariants.{Single, Looped}
use Rattle.program.specs.Program.{Rule, Step, Program}
use Rattle.machine.specs.Step.{step_cells, Offence, offence}

-- what each record reads in a step, over the cells before it
abbrev pub Reader : Type 0
Reader = List Rule → List Cell → ℕ → List ℕ → Reading

-- the machine that document 01 calls straight: hop by hop
unfoldable pub direct : Sizes → Reader
direct s rs cells u w = value_at_record s cells w u

-- "Loops compare values and whether filled, not 1 against 2" (M-107)
unfoldable pub same_reading : Reading → Reading → Bool
same_reading None None = true
same_reading None (Some b) = false
same_reading (Some a) None = false
same_reading (Some a) (Some b) = eq_z a b

-- whether field f is the same for the records below n
unfoldable pub same_column : Sizes → ℕ → List Cell → List Cell → ℕ → Bool
same_column s f before after zero = true
same_column s f before after (suc n) = same_column s f before after n && same_reading (read_cell s before n f) (read_cell s after n f)

-- The pass of a loop: the steps from its first on, and the cells as it began.
pub record Pass : Type 0 where
  pub steps : List Step
  pub before : List Cell

-- whether a pass begins before a step: the first of its loop
abbrev pub begins : Setting → Bool
begins Single = false
begins (Looped f first last) = first

-- whether a run goes on with the step behind, and not back to the first of the loop: "until field F is the same, values and
-- marks, before and after a pass"
abbrev pub goes_on : Sizes → Setting → List Cell → List Cell → Bool
goes_on s Single before after = true
goes_on s (Looped f first last) before after = not last || same_column s f before after s.records

-- the pass that a step is done in, and the steps to come behind it
unfoldable pub entered : Setting → List Step → List Cell → Pass → Pass
entered g steps cells p = cond (begins g) (record { steps = steps; before = cells }) p

unfoldable pub following : Sizes → Setting → List Step → List Cell → Pass → List Step
following s g rest after p = cond (goes_on s g p.before after) rest p.steps

-- how a run ends: no step is left; 20; 21, at this place
pub data Ending : Type 0 where
  complete exhausted : Ending
  offended : Offence → Ending

-- the cells at the end, the finished steps, each with the cells before it, and how it ends
pub record Run : Type 0 where
  pub cells : List Cell
  pub trace : List (Step × List Cell)
  pub ending : Ending

-- a run that finishes a step first
unfoldable pub behind : Step → List Cell → Run → Run
behind x cells r = record { cells = r.cells; trace = (x, cells) ∷ r.trace; ending = r.ending }

abbrev ended : List Cell → Ending → Run
ended cells e = record { cells = cells; trace = []; ending = e }

-- 21 over these cells where a place offends, else the run that goes on
unfoldable pub unless_offended : Option Offence → List Cell → Run → Run
unless_offended none cells r = r
unless_offended (some x) cells r = ended cells (offended x)

-- no step is left, or the first to come does not stop and the run goes on
unfoldable pub step_first : Sizes → Reader → (List Step → Pass → List Cell → Run) → List Step → Pass → List Cell → Run
step_first s reader goOn [] p cells = ended cells complete
step_first s reader goOn (x ∷ rest) p cells =
    let read = reader x.rules cells in
    let after = step_cells s read x.rules cells in
    let pass = entered x.setting (x ∷ rest) cells p in
    unless_offended (offence s read x.rules cells) cells
    (behind x cells (goOn (following s x.setting rest after pass) pass after))

-- the run of the steps to come, with a budget for this many more: "Before each step, if the finished steps equal the
-- allowance (an unsigned 16-bit number), the run is stopped as spent."
unfoldable pub run_from : Sizes → Reader → ℕ → List Step → Pass → List Cell → Run
run_from s reader zero [] p cells = ended cells complete
run_from s reader zero (x ∷ rest) p cells = ended cells exhausted
run_from s reader (suc budget) steps p cells = step_first s reader (run_from s reader budget) steps p cells

-- the run of a program over the cells of a register
unfoldable pub run : Sizes → Reader → Program → ℕ → List Cell → Run
run s reader program budget cells = run_from s reader budget program (record { steps = []; before = [] }) cells

-- the places that a scratch buffer (document 01's working array) has at least, for plans of this many lines: "n × (L + r + m + 1)"
unfoldable pub scratch : Sizes → ℕ → ℕ
scratch s lines = s.records * (lines + width s + 1)

-- "19 a working array too short", values or marks, each having to have k places
unfoldable pub is_short : ℕ → ℕ → ℕ → Bool
is_short k values marks = ltb values k || ltb marks k
