-- What is stored of a line that has passed, and the reader's arrays behind it.
use Prim.Native.Nat.{ℕ, ◌+◌, ◌-◌, ◌*◌, ◌≤◌, ◌<◌}
use mathlib.Core.Path.{◌≡◌, refl, sym, ap, ◌∙◌}
use mathlib.Core.List.{List}
use native.Mathlib.Omega.{arith}
use lib.ListN.{length, get_or, set}
use Rattle.register.specs.Shape.{Limits}
use Rattle.program.specs.declared.location.Located.{Located}
use Rattle.program.specs.declared.frame.Frame.{Frame}
use Rattle.text_rules.specs.declared.scope.Scope.{Scope}
use Rattle.text_rules.specs.declared.line.LineRead.{LineRead}
use Rattle.text_rules.specs.declared.line.LineRead.TheVariants as L
use Rattle.text_rules.specs.Text.{advance}
use Rattle.text_lines.specs.declared.line.LineParts.{LineParts}
use Rattle.text_readings.specs.Readings.{NotFull}
use Rattle.text_readings.specs.declared.Open.{Open}
use Rattle.plan_lines.specs.Held.{HoldsLines}
use Rattle.std.specs.Prelude.{Option, Some, None, []}
use Rattle.text_plan.specs.Store.{LineFits, LineLeaves, LinePlanned}
use Rattle.text_plan.specs.declared.store.Store.{Store}
use Rattle.text_plan.specs.declared.store.Store.TheVariants as W
use Rattle.text_state.specs.State.{frame_of, last_frame, advance_of}
use Rattle.text_state.specs.declared.state.State as S
use Rattle.text_reader.proofs.Arms.{Behind}
use Rattle.text_reader.proofs.Reading.{Read, Passes, small, arm_step, arm_loop, arm_none, arm_end-steps, arm_end, arm_done-steps, arm_done}
use Rattle.text_reader.proofs.Reading.{arm_steps, arm_rules, arm_fits, arm_rule}

-- which of the four is stored
abbrev sort_of : Option Store → ℕ
sort_of (Some (W.Rule i y)) = 0
sort_of (Some (W.Close i)) = 1
sort_of (Some (W.Last i)) = 2
sort_of None = 3

other : {A : Type 0} {v w : Option Store} → v ≡ w → (sort_of v ≡ sort_of w → ⊥) → A
other e h = absurd (h (ap sort_of e))

-- the frame of the open step has its marks
marked : (x : S.State) (a : Open) {f : Frame} → f ≡ frame_of x a.plan a.wanted → length f.wanted ≡ 64 → length a.wanted ≡ 64
unfolding frame_of
marked x a is l = rw is at l

-- m is the number of lines of the open step's plan
module _ {scope : Scope} (lim : Limits scope.sizes) {t : List ℕ} {a : Open} {codes : List ℕ} {slots : List Located} {frames : List Frame} {x : S.State} {n at i : ℕ}
    {q : Read scope t a codes slots frames x n at i} {b : List ℕ} {r : LineParts} (p : Passes scope q b r) (m : ℕ) where
  pub fits : length t ≤ 8192 → length b ≡ 8192 → LineFits b x r.line
  fits h l = go r.line refl
    where
      go : (o : LineRead) → r.line ≡ o → LineFits b x o
      go L.Step e = tt
      go L.End e = tt
      go L.Done e = arm_done-steps lim p m e
      go (L.Loop f named) e = tt
      go (L.Rule y c) e = arm_fits lim p m e h l
      go L.NoForm e = tt

  -- the arrays behind the line, where it leaves v
  abbrev Goes : List ℕ → List Located → List Frame → Open → Type 0
  Goes codes' slots' frames' a' = Behind codes' r.used slots' frames' a' (advance_of x m r.line) (advance q.state p.form)

  module _ {a' : Open} {codes' : List ℕ} {v : Option Store} (h : LinePlanned x a b a' codes' r.line v) where
    -- a rule
    pub behind-rule : {j : ℕ} {y : Located} → v ≡ Some (W.Rule j y) → (j < 1024) × Goes codes' (set slots j y) frames a'
    behind-rule {j} {y} is = go r.line refl h.leaves
      where
        go : (o : LineRead) → r.line ≡ o → LineLeaves x a b a' codes' o v → (j < 1024) × Goes codes' (set slots j y) frames a'
        go L.Step e h = other (sym is ∙ h.stores) (λ z. omega arith)
        go L.End e h = other (sym is ∙ h.stores) (λ z. omega arith)
        go L.Done e h = other (sym is ∙ h.stores) (λ z. omega arith)
        go (L.Loop f named) e h = other (sym is ∙ h.stores) (λ z. omega arith)
        go (L.Rule z c) e h =
            let place : j ≡ 32 * x.steps + x.tally.rules = cc (is, h.stores) in
            let rule : y ≡ record { slot = z; at = h.at } = cc (is, h.stores) in
            (omega (arith, place, arm_steps lim p m e, arm_rules lim p m e), rw (place, rule) (arm_rule lim p m e h.at h.walked))
        go L.NoForm e h = other (sym is ∙ h.stores) (λ z. omega arith)

    -- the frame of a step that is closed, ..
    abbrev Closed : ℕ → Type 0
    Closed j =
        (f : Frame) → f ≡ frame_of x a'.plan a'.wanted → length f.wanted ≡ 64 → (o : Open) → HoldsLines o.plan [] → NotFull o
        → Goes codes' slots (set frames j f) o

    pub behind_close : {j : ℕ} → v ≡ Some (W.Close j) → (j < 32) × Closed j
    behind_close {j} is = go r.line refl h.leaves
      where
        go : (o : LineRead) → r.line ≡ o → LineLeaves x a b a' codes' o v → (j < 32) × Closed j
        go L.Step e h = other (sym is ∙ h.stores) (λ z. omega arith)
        go L.End e h =
            let place : j ≡ x.steps = cc (is, h.stores) in (
              omega (arith, place, arm_end-steps lim p m e),
              λ f is l o held empty.
                  let marks : length a'.wanted ≡ 64 = marked x a' is l in
                  rw (is, place, h.same_codes, h.same_lines) (arm_end lim p m e (rw h.same_lines at marks) held empty),
            )
        go L.Done e h = other (sym is ∙ h.stores) (λ z. omega arith)
        go (L.Loop f named) e h = other (sym is ∙ h.stores) (λ z. omega arith)
        go (L.Rule y c) e h = other (sym is ∙ h.stores) (λ z. omega arith)
        go L.NoForm e h = other (sym is ∙ h.stores) (λ z. omega arith)

    -- .. and of the last step of a loop
    pub behind-last : {j : ℕ} → v ≡ Some (W.Last j) → (j < 32) × ((d : Frame) → Goes codes' slots (set frames j (last_frame (get_or frames j d))) a')
    behind-last {j} is = go r.line refl h.leaves
      where
        go : (o : LineRead) → r.line ≡ o → LineLeaves x a b a' codes' o v → (j < 32) × ((d : Frame) → Goes codes' slots (set frames j (last_frame (get_or frames j d))) a')
        go L.Step e h = other (sym is ∙ h.stores) (λ z. omega arith)
        go L.End e h = other (sym is ∙ h.stores) (λ z. omega arith)
        go L.Done e h =
            let place : j ≡ x.steps - 1 = cc (is, h.stores) in
            (omega (arith, place, arm_done-steps lim p m e, (small q).0), λ d. rw (place, h.same_lines, h.same_codes) (arm_done lim p m e d))
        go (L.Loop f named) e h = other (sym is ∙ h.stores) (λ z. omega arith)
        go (L.Rule y c) e h = other (sym is ∙ h.stores) (λ z. omega arith)
        go L.NoForm e h = other (sym is ∙ h.stores) (λ z. omega arith)

    -- nothing
    pub behind-none : v ≡ None → Goes codes' slots frames a'
    behind-none is = go r.line refl h.leaves
      where
        go : (o : LineRead) → r.line ≡ o → LineLeaves x a b a' codes' o v → Goes codes' slots frames a'
        go L.Step e h = rw (h.same_lines, h.same_codes) (arm_step lim p m e)
        go L.End e h = other (sym is ∙ h.stores) (λ z. omega arith)
        go L.Done e h = other (sym is ∙ h.stores) (λ z. omega arith)
        go (L.Loop f named) e h = rw (h.same_lines, h.same_codes) (arm_loop lim p m e)
        go (L.Rule y c) e h = other (sym is ∙ h.stores) (λ z. omega arith)
        go L.NoForm e h = arm_none lim p m e
