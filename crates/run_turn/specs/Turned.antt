-- How far a run has come, turn by turn.
use Rattle.std.specs.Prelude.{◌≡◌, Bool, true, false, cond, Ok, Err, List, ℕ, suc, ◌+◌, ◌*◌, ◌≤◌, ◌<◌, ℤ, length}
use Rattle.register.specs.File.{cell_count, cells_of_file}
use Rattle.register.specs.Shape.{Limits}
use Rattle.register.specs.declared.Sizes.{Sizes}
use Rattle.register.specs.declared.cells.Cell.{Cell}
use Rattle.plan_theory.specs.Plan.{Fact}
use Rattle.program.specs.Passed.{SettingPasses}
use Rattle.program.specs.declared.setting.Setting.{Setting}
use Rattle.machine.specs.Run.{begins}
use Rattle.machine_messages.specs.declared.Machine.{Machine}
use Rattle.step_cells.specs.Work.{Room, CanonicalCells}
use Rattle.step_cells.specs.Stop.{Stop}
use Rattle.step_cells.specs.declared.stop.Offence.{Offence}
use Rattle.step_commit.specs.Committed.{Committed}
use Rattle.run_loop.specs.Column.{HasPass, Entered, NextIs}
use Rattle.gather.specs.Counted.{counts_after}
use Rattle.gather.specs.Gathered.{GatheredBy}
use Rattle.run_turn.specs.declared.Progress.{Progress}
use Rattle.run_turn.specs.declared.Begun.{Begun}

-- a run of so many steps before the first: nothing is finished, and no pass is entered
abbrev pub start_of : ℕ → Progress
start_of steps = record { stop = Ok tt; step = 0; first = steps; finished = 0; counts = record { exchanges = 0; messages = 0 } }

-- whether there is a turn: the run has not stopped, the budget is not spent, and a step is left
pub record GoesOn (run : Progress) (steps budget : ℕ) (r : Bool) : Type 0 where
  pub nowhere : r ≡ true → run.stop ≡ Ok tt
  pub allowed : r ≡ true → run.finished ≡ budget → ⊥
  pub left : r ≡ true → run.step < steps
  pub ends : r ≡ false → run.stop ≡ Ok tt → run.step < steps → run.finished ≡ budget

-- the pass is entered, and then the readings are gathered; the answer carries what the end of the step asks for again
pub record TurnBegun (m : Machine) (s : Sizes) (at : ℕ) (g : Setting) (remote : Bool) (cells : List Cell) (l : List Fact) (wanted : List Bool)
    (values : List ℤ) (marks : List ℕ) (values' : List ℤ) (marks' : List ℕ) (run : Progress) (r : Begun) : Type 0 where
  pub values₁ : List ℤ
  pub marks₁ : List ℕ
  pub first_is : r.first ≡ cond (begins g) run.step run.first
  pub entered : Entered s g cells at values marks values₁ marks₁
  pub gathered : GatheredBy m s cells l wanted values₁ marks₁ values' marks' r.gathered
  pub at_is : r.at ≡ at
  pub setting_is : r.setting ≡ g
  pub machine_is : r.machine ≡ m
  pub remote_is : r.remote ≡ remote

-- whether the step sends its remote writes
abbrev pub sends_by : Stop → Bool → Bool
sends_by (Ok done) remote = remote
sends_by (Err o) remote = false

-- a run whose step stops, with the counts of the steps before it
abbrev pub stopped_as : Stop → Progress → Progress
stopped_as stop run = record { stop = stop; step = run.step; first = run.first; finished = run.finished; counts = run.counts }

-- what a step that has not stopped asks for at its end
pub record EndReady (s : Sizes) (at : ℕ) (g : Setting) (begun : Begun) (sent : ℕ) (values : List ℤ) (marks : List ℕ) (file : List ℕ) (run : Progress) : Type 0 where
  pub limits : Limits s
  pub whole : length file ≡ 12 + 5 * cell_count s
  pub setting_passes : SettingPasses s g
  pub has_pass : HasPass s g at values
  pub room : Room (at + s.records) (cell_count s) values marks
  pub proper : CanonicalCells (at + s.records) (cell_count s) values marks
  pub few-steps : run.step < 32
  pub few_finished : run.finished < 65535
  pub counts_small : (run.counts.exchanges ≤ 4611686018427387904) × (run.counts.messages ≤ 4611686018427387904)
      × (begun.gathered.exchanges ≤ 65536) × (begun.gathered.messages ≤ 1048576) × (sent ≤ 1048576)

abbrev pub AtEnd : Stop → Sizes → Begun → ℕ → List ℤ → List ℕ → List ℕ → Progress → Type 0
AtEnd stop s begun sent values marks file run = stop ≡ Ok tt → EndReady s begun.at begun.setting begun sent values marks file run

-- the step is counted, and the next one found
pub record StepCounted (m : Machine) (s : Sizes) (at : ℕ) (g : Setting) (begun : Begun) (remote : Bool) (sent : ℕ)
    (values : List ℤ) (marks : List ℕ) (file : List ℕ) (run r : Progress) : Type 0 where
  pub first_is : r.first ≡ begun.first
  pub finished_is : r.finished ≡ suc run.finished
  pub counts_are : r.counts ≡ counts_after m run.counts begun.gathered remote sent
  pub next : NextIs s g (cells_of_file s file) at values marks run.step begun.first r.step

-- the cells are committed to the file and the step is counted, or a total is out of range
pub record StepEnded (m : Machine) (s : Sizes) (at : ℕ) (fields : List Bool) (g : Setting) (begun : Begun) (remote : Bool) (sent : ℕ)
    (values : List ℤ) (marks : List ℕ) (file file' : List ℕ) (run r : Progress) : Type 0 where
  pub committed : Committed s (at + s.records) fields values marks file file' r.stop
  pub counted : r.stop ≡ Ok tt → StepCounted m s at g begun remote sent values marks file' run r
  pub uncounted : (o : Offence) → r.stop ≡ Err o → r ≡ stopped_as (Err o) run

-- where the step has not stopped before
pub record FinishedBy (stop : Stop) (s : Sizes) (begun : Begun) (fields : List Bool) (sent : ℕ)
    (values : List ℤ) (marks : List ℕ) (file file' : List ℕ) (run r : Progress) : Type 0 where
  pub ended : stop ≡ Ok tt
      → StepEnded begun.machine s begun.at fields begun.setting begun begun.remote sent values marks file file' run r
  pub stays : (o : Offence) → stop ≡ Err o → (file' ≡ file) × (r ≡ stopped_as (Err o) run)
