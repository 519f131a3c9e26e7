-- What a program's arrays hold.
use Rattle.std.specs.Prelude.{ℕ, ◌≤◌, ◌≡◌, false, List, [], ◌∷◌, length, get_or, take, drop}
use Rattle.laws.specs.Lists.{Each}
use Rattle.plan_lines.specs.Held.{facts, HoldsLines}
use Rattle.program.specs.Program.{Rule, Step, Program, step_plan, writes, has_remote, most_lines, some_target}
use Rattle.program.specs.declared.location.Located.{Located}
use Rattle.program.specs.Stored.{rules_in}
use Rattle.program.specs.Location.{LocatedAmong}
use Rattle.program.specs.declared.frame.Frame.{Frame}
use Rattle.program.specs.declared.Program as R

-- the steps of these frames, each with 32 places: rule k of step s stands at 32 × s + k
unfoldable pub steps_in : List ℕ → List Located → List Frame → Program
steps_in codes slots [] = []
steps_in codes slots (f ∷ fs) = record { rules = rules_in codes f.rules (take 32 slots); setting = f.setting } ∷ steps_in codes (drop 32 slots) fs

-- the program that an array holds, with the codes beside its rules
unfoldable pub program_of : List ℕ → R.Program → Program
program_of codes p = steps_in codes p.slots (take p.steps p.frames)

-- what the frame of a step keeps of its rules: at most 32, whether one is remote, which fields they write, and their plan; 64 places tell which lines are read
pub record FrameOf (f : Frame) (rs : List Rule) : Type 0 where
  pub few : f.rules ≤ 32
  pub remote_is : f.remote ≡ has_remote rs
  pub fields_are : (i : ℕ) → get_or f.fields i false ≡ some_target (writes i) rs
  pub holds : HoldsLines f.plan (step_plan rs)
  pub wanted_length : length f.wanted ≡ 64

-- each step has its frame
abbrev pub Framed : List Frame → List Step → Type 0
Framed fs [] = Unit {0}
Framed [] (x ∷ xs) = ⊥
Framed (f ∷ fs) (x ∷ xs) = FrameOf f x.rules × Framed fs xs

-- the readings of each step's rules are located among the lines of its plan
abbrev pub AllLocated : List ℕ → List Located → List Frame → Type 0
AllLocated codes slots [] = Unit {0}
AllLocated codes slots (f ∷ fs) =
    Each (LocatedAmong (facts f.plan) f.wanted codes) (take f.rules (take 32 slots)) × AllLocated codes (drop 32 slots) fs

-- 32 places for each of 32 steps, their readings located; its frames, its number of steps and its most lines are those of the program that its array holds
pub record Complete (codes : List ℕ) (p : R.Program) : Type 0 where
  pub slots_length : length p.slots ≡ 1024
  pub framed : Framed p.frames (program_of codes p)
  pub located : AllLocated codes p.slots (take p.steps p.frames)
  pub steps_are : p.steps ≡ length (program_of codes p)
  pub lines_are : p.lines ≡ most_lines (program_of codes p)
