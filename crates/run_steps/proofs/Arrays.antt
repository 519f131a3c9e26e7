-- The program in its arrays: what a step's places and frame hold of it.
use Prim.Native.Nat.{ℕ, zero, suc, ◌+◌, ◌*◌, ◌<◌}
use mathlib.Core.Path.{◌≡◌, refl, ap, subst, ◌∙◌}
use mathlib.Core.Bool.{false}
use mathlib.Core.List.{List, [], ◌∷◌}
use native.Mathlib.Omega.{arith}
use lib.ListN.{length, get_or, take, drop, set, length-drop}
use lib.Seq.{drop-drop, get_or-take, get_or-drop, length-take-le, take-suc, take-suc-set}
use Rattle.program.specs.declared.location.Located.{Located}
use Rattle.program.specs.declared.setting.Setting.TheVariants.{Single}
use Rattle.program.specs.Program.{Step}
use Rattle.program.specs.Stored.{rules_in}
use Rattle.program.specs.declared.frame.Frame.{Frame}
use Rattle.laws.specs.Lists.{Each}
use Rattle.plan_lines.specs.Held.{facts}
use Rattle.program.specs.Location.{LocatedAmong}
use Rattle.program.specs.Kept.{steps_in, program_of, FrameOf, AllLocated, Complete}
use Rattle.program.specs.declared.Program as R
use Rattle.program.proofs.Frames.{frame_at}

-- what a place behind the last frame would hold
abbrev pub no_frame : Frame
no_frame = record {
  rules = 0;
  remote = false;
  fields = [];
  setting = Single;
  plan = record { keys = []; rounds = []; backs = []; reads = []; count = 0 };
  wanted = [];
}

-- step i has the rules of its 32 places, and its frame's setting
steps-at : (codes : List ℕ) (slots : List Located) (fs : List Frame) (i : ℕ) (d : Step) (e : Frame) → i < length fs
    → get_or (steps_in codes slots fs) i d ≡ record { rules = rules_in codes (get_or fs i e).rules (take 32 (drop (32 * i) slots)); setting = (get_or fs i e).setting }
unfolding steps_in
steps-at codes slots [] i d e h = absurd (omega arith)
steps-at codes slots (f ∷ fs) zero d e h = refl
steps-at codes slots (f ∷ fs) (suc i) d e h =
    let next : 32 + 32 * i ≡ 32 * suc i = omega arith in
    steps-at codes (drop 32 slots) fs i d e (omega arith)
    ∙ ap (λ (l : List Located). record { rules = rules_in codes (get_or fs i e).rules (take 32 l); setting = (get_or fs i e).setting })
    (drop-drop (32 * i) 32 slots ∙ ap (λ (k : ℕ). drop k slots) next)

steps-length : (codes : List ℕ) (slots : List Located) (fs : List Frame) → length (steps_in codes slots fs) ≡ length fs
unfolding steps_in
steps-length codes slots [] = refl
steps-length codes slots (f ∷ fs) = ap suc (steps-length codes (drop 32 slots) fs)

-- the 32 places of step i, of which those of its rules are located
abbrev pub places_of : List Located → ℕ → List Located
places_of slots i = take 32 (drop (32 * i) slots)

abbrev StepLocated : List ℕ → Frame → List Located → Type 0
StepLocated codes f places = Each (LocatedAmong (facts f.plan) f.wanted codes) (take f.rules places)

located-at : (codes : List ℕ) (slots : List Located) (fs : List Frame) (i : ℕ) (e : Frame) → i < length fs → AllLocated codes slots fs → StepLocated codes (get_or fs i e) (places_of slots i)
located-at codes slots [] i e h k = absurd (omega arith)
located-at codes slots (f ∷ fs) zero e h k = k.0
located-at codes slots (f ∷ fs) (suc i) e h k =
    let next : 32 + 32 * i ≡ 32 * suc i = omega arith in
    subst (λ (l : List Located). StepLocated codes (get_or fs i e) (take 32 l)) (drop-drop (32 * i) 32 slots ∙ ap (λ (k : ℕ). drop k slots) next)
    (located-at codes (drop 32 slots) fs i e (omega arith) k.1)

-- step i of a program that is kept in its arrays
pub record StepAt (codes : List ℕ) (p : R.Program) (i : ℕ) (f : Frame) (x : Step) : Type 0 where
  pub frame : FrameOf f x.rules
  pub setting_is : x.setting ≡ f.setting
  pub rules_are : x.rules ≡ rules_in codes f.rules (places_of p.slots i)
  pub located : StepLocated codes f (places_of p.slots i)

pub step-at : (codes : List ℕ) (p : R.Program) (i : ℕ) (d : Step) (e : Frame) → Complete codes p → i < p.steps → StepAt codes p i (get_or p.frames i e) (get_or (program_of codes p) i d)
unfolding program_of
step-at codes p i d e k h =
    let fs = take p.steps p.frames in
    let inside : i < length (program_of codes p) = omega (arith, k.steps_are) in
    let there : i < length fs = omega (arith, steps-length codes p.slots fs, inside) in
    let at = steps-at codes p.slots fs i d e there in
    let same : get_or fs i e ≡ get_or p.frames i e = get_or-take p.steps p.frames i e h in
    record {
      frame = frame_at p.frames (program_of codes p) i d e k.framed inside;
      setting_is = ap (λ (x : Step). x.setting) at ∙ ap (λ (f : Frame). f.setting) same;
      rules_are = ap (λ (x : Step). x.rules) at ∙ ap (λ (f : Frame). rules_in codes f.rules (places_of p.slots i)) same;
      located = subst (λ (f : Frame). StepLocated codes f (places_of p.slots i)) same (located-at codes p.slots fs i e there k.located);
    }

-- the 32 places of step i
abbrev pub slots_at : R.Program → ℕ → List Located
slots_at p i = places_of p.slots i

module _ {codes : List ℕ} (p : R.Program) (i : ℕ) (k : Complete codes p) (h : i < 32) where
  pub slots_length : length (slots_at p i) ≡ 32
  slots_length = length-take-le 32 (drop (32 * i) p.slots) (omega (arith, length-drop (32 * i) p.slots, k.slots_length))

  -- place j of them
  pub slot_at : (j : ℕ) (d : Located) → j < 32 → get_or (slots_at p i) j d ≡ get_or p.slots (32 * i + j) d
  slot_at j d b = get_or-take 32 (drop (32 * i) p.slots) j d b ∙ get_or-drop (32 * i) p.slots j d

-- the rules of a step taken out, one after the other
pub taken_next : (k : ℕ) (slots places : List Located) {r : Located} (x : Located) → k < length slots → k < length places → r ≡ get_or slots k x
    → take k places ≡ take k slots → take (k + 1) (set places k r) ≡ take (k + 1) slots
taken_next k slots places {r} x h p e so_far =
    let next : k + 1 ≡ suc k = omega arith in
    rw (next, take-suc-set places k r p, take-suc slots k x h, e, so_far)
