-- The pass that a step is done in and the step that comes next, by the step's setting.
use Prim.Native.Nat.{ℕ, ◌+◌}
use mathlib.Core.Path.{◌≡◌, refl, sym}
use mathlib.Core.Bool.{Bool, true, false, cond}
use mathlib.Core.List.{List}
use native.Mathlib.Numerals.{add-one}
use lib.IntN.{ℤ}
use Rattle.register.specs.declared.Sizes.{Sizes}
use Rattle.register.specs.declared.cells.Cell.{Cell}
use Rattle.chain.specs.Word.{read_cell}
use Rattle.program.specs.declared.setting.Setting.{Setting}
use Rattle.program.specs.declared.setting.Setting.TheVariants.{Single, Looped}
use Rattle.machine.specs.Run.{begins}
use Rattle.scratch.specs.Places.{StoredFrom}
use Rattle.run_loop.specs.Column.{SameAs, Entered, NextIs}
use Rattle.run_loop.proofs.Standing.{behind-same, behind-stored, column-stored}

module _ {s : Sizes} {g : Setting} {cells : List Cell} {at : ℕ} {values : List ℤ} {marks : List ℕ} (step first : ℕ) where
  -- where no pass begins, the one before goes on
  pub entered_on : begins g ≡ false → (first ≡ cond (begins g) step first) × Entered s g cells at values marks values marks
  entered_on b = rw b (refl, record { in_pass = λ before h. rw b (h b); behind = behind-same })

  -- the first step of a loop keeps the column
  pub entered-first : {f : ℕ} {begin last : Bool} {values' : List ℤ} {marks' : List ℕ} → g ≡ Looped f begin last → begin ≡ true
      → StoredFrom at s.records (λ u. read_cell s cells u f) values marks values' marks'
      → (step ≡ cond (begins g) step first) × Entered s g cells at values marks values' marks'
  entered-first e b k = rw (e, b) (refl, record { in_pass = λ before h. column-stored _ _ _ _ k; behind = behind-stored k })

  -- outside a loop, or before its last step, the step behind is next
  pub next_single : g ≡ Single → NextIs s g cells at values marks step first (step + 1)
  next_single e = rw e (record { next_is = λ before k. add-one step })

  pub next-inside : {f : ℕ} {begin last : Bool} → g ≡ Looped f begin last → last ≡ false → NextIs s g cells at values marks step first (step + 1)
  next-inside e l = rw (e, l) (record { next_is = λ before k. add-one step })

  -- behind the last step the column decides
  module _ {f : ℕ} {begin last r : Bool} (e : g ≡ Looped f begin last) (l : last ≡ true) (q : SameAs s f cells at values marks r) where
    pub next-behind : r ≡ true → NextIs s g cells at values marks step first (step + 1)
    next-behind h = rw (e, l) (record { next_is = λ before k. rw (sym (q.same-is before k), h) (add-one step) })

    pub next-back : r ≡ false → NextIs s g cells at values marks step first first
    next-back h = rw (e, l) (record { next_is = λ before k. rw (sym (q.same-is before k), h) refl })
