-- The reader's arrays, and what a store does to the steps that they hold.
use Prim.Native.Nat.{ℕ, zero, suc, ◌+◌, ◌-◌, ◌*◌, ◌≤◌, ◌<◌}
use mathlib.Core.Path.{◌≡◌, refl, ap, ap₂, subst, subst⁻¹, ◌∙◌}
use mathlib.Core.List.{List, [], ◌∷◌, ◌++◌, map-append}
use native.Mathlib.Omega.{arith}
use native.Mathlib.Numerals.{add-one}
use lib.ListN.{length, get_or, take, drop, set, length-take, length-drop}
use lib.Seq.{take-set-le, drop-set-add, take-set-lt, take-suc-set, drop-drop}
use Rattle.laws.specs.Lists.{Each}
use Rattle.program.specs.declared.location.Located.{Located}
use Rattle.program.specs.Program.{Step}
use Rattle.text_rules.specs.Text.{close_loop}
use Rattle.program.specs.Stored.{rule_in, rules_in}
use Rattle.program.specs.Terms.{SlotPlaced}
use Rattle.program.specs.Kept.{steps_in, FrameOf, Framed}
use Rattle.text_readings.specs.Readings.{PlacedIn}
use Rattle.text_state.specs.State.{last_frame}
use Rattle.program.specs.declared.frame.Frame.{Frame}
use Rattle.text_reader.proofs.Agreeing.{AllPlaced}

-- a rule stored behind the rules of the open step
module _ (slots : List Located) (s k : ℕ) (x : Located) (h : k < 32) (b : 32 * s + 32 ≤ length slots) where
  pub store_place : take (k + 1) (take 32 (drop (32 * s) (set slots (32 * s + k) x))) ≡ take k (take 32 (drop (32 * s) slots)) ++ (x ∷ [])
  store_place =
      let here = take 32 (drop (32 * s) slots) in
      let stored : take 32 (drop (32 * s) (set slots (32 * s + k) x)) ≡ set here k x =
      ap (take 32) (drop-set-add (32 * s) slots k x) ∙ take-set-lt 32 (drop (32 * s) slots) k x h in
      let room : k < length here = simp (length-take, length-drop) (omega arith) in
      rw (stored, add-one k, take-suc-set here k x room)

-- the steps that the arrays hold: a rule stored behind them leaves them as they are
module _ (codes : List ℕ) where
  pub store_steps : (slots : List Located) (fs : List Frame) (k : ℕ) (x : Located)
      → steps_in codes (set slots (32 * length fs + k) x) fs ≡ steps_in codes slots fs
  unfolding steps_in
  store_steps slots [] k x = refl
  store_steps slots (f ∷ fs) k x =
      let at : 32 * length (f ∷ fs) + k ≡ 32 + (32 * length fs + k) = omega arith in
      ap₂ (λ (p : List Located) (xs : List Step). record { rules = rules_in codes f.rules p; setting = f.setting } ∷ xs)
      (take-set-le 32 slots (32 * length (f ∷ fs) + k) x (omega arith))
      (ap (λ (n : ℕ). steps_in codes (drop 32 (set slots n x)) fs) at
      ∙ ap (λ (l : List Located). steps_in codes l fs) (drop-set-add 32 slots (32 * length fs + k) x) ∙ store_steps (drop 32 slots) fs k x)

  -- and stands behind the rules of the open step
  pub store_rule : (slots : List Located) (s k : ℕ) (x : Located) → k < 32 → 32 * s + 32 ≤ length slots
      → rules_in codes (k + 1) (take 32 (drop (32 * s) (set slots (32 * s + k) x)))
      ≡ rules_in codes k (take 32 (drop (32 * s) slots)) ++ (rule_in codes x.slot ∷ [])
  unfolding rules_in
  store_rule slots s k x h b = rw (store_place slots s k x h b, map-append)

  -- one more frame
  pub more_frames : (slots : List Located) (fs : List Frame) (f : Frame)
      → steps_in codes slots (fs ++ (f ∷ [])) ≡ steps_in codes slots fs
      ++ (record { rules = rules_in codes f.rules (take 32 (drop (32 * length fs) slots)); setting = f.setting } ∷ [])
  unfolding steps_in
  more_frames slots [] f = refl
  more_frames slots (g ∷ fs) f =
      ap (λ (xs : List Step). record { rules = rules_in codes g.rules (take 32 slots); setting = g.setting } ∷ xs)
      (let at : 32 + 32 * length fs ≡ 32 * length (g ∷ fs) = omega arith in
      more_frames (drop 32 slots) fs f
      ∙ ap (λ (l : List Located). steps_in codes (drop 32 slots) fs ++ (record { rules = rules_in codes f.rules (take 32 l); setting = f.setting } ∷ []))
      (drop-drop (32 * length fs) 32 slots ∙ ap (λ (n : ℕ). drop n slots) at))

  -- the last frame is the last of its loop
  close_frame : (slots : List Located) (fs : List Frame) (n : ℕ) (d : Frame) → n < length fs
      → steps_in codes slots (take (suc n) (set fs n (last_frame (get_or fs n d)))) ≡ close_loop (steps_in codes slots (take (suc n) fs))
  unfolding steps_in close_loop last_frame
  close_frame slots [] n d h = absurd (omega arith)
  close_frame slots (f ∷ fs) zero d h = refl
  close_frame slots (f ∷ []) (suc n) d h = absurd (omega arith)
  close_frame slots (f ∷ g ∷ fs) (suc n) d h =
      ap (λ (xs : List Step). record { rules = rules_in codes f.rules (take 32 slots); setting = f.setting } ∷ xs)
      (close_frame (drop 32 slots) (g ∷ fs) n d (omega arith))

  -- the same, with the place counted back from the number of steps
  module _ (slots : List Located) (fs : List Frame) (n : ℕ) (d : Frame) (p : 1 ≤ n) where
    pub close_frames : n ≤ length fs
        → steps_in codes slots (take n (set fs (n - 1) (last_frame (get_or fs (n - 1) d)))) ≡ close_loop (steps_in codes slots (take n fs))
    close_frames h =
        let at : n ≡ suc (n - 1) = omega arith in
        subst⁻¹ (λ (m : ℕ). steps_in codes slots (take m (set fs (n - 1) (last_frame (get_or fs (n - 1) d)))) ≡ close_loop (steps_in codes slots (take m fs))) at
        (close_frame slots fs (n - 1) d (omega arith))

-- what is placed of their rules, the same way
module _ (codes : List ℕ) where
  pub store_placed : (slots : List Located) (fs : List Frame) (k : ℕ) (x : Located) → AllPlaced codes slots fs
      → AllPlaced codes (set slots (32 * length fs + k) x) fs
  store_placed slots [] k x h = tt
  store_placed slots (f ∷ fs) k x h =
      let at : 32 * length (f ∷ fs) + k ≡ 32 + (32 * length fs + k) = omega arith in (
        rw (take-set-le 32 slots (32 * length (f ∷ fs) + k) x (omega arith)) h.0,
        rw (at, drop-set-add 32 slots (32 * length fs + k) x) (store_placed (drop 32 slots) fs k x h.1),
      )

  pub more-placed : (slots : List Located) (fs : List Frame) (f : Frame) → AllPlaced codes slots fs
      → Each (SlotPlaced (PlacedIn f.plan f.wanted) codes) (take f.rules (take 32 (drop (32 * length fs) slots)))
      → AllPlaced codes slots (fs ++ (f ∷ []))
  more-placed slots [] f h e = (e, tt)
  more-placed slots (g ∷ fs) f h e =
      let at : 32 * length (g ∷ fs) ≡ 32 + 32 * length fs = omega arith in
      (h.0, more-placed (drop 32 slots) fs f h.1 (rw (drop-drop (32 * length fs) 32 slots) (rw at at e)))

  placed-last : (slots : List Located) (fs : List Frame) (n : ℕ) (d : Frame) → AllPlaced codes slots (take (suc n) fs)
      → AllPlaced codes slots (take (suc n) (set fs n (last_frame (get_or fs n d))))
  unfolding last_frame
  placed-last slots [] n d h = h
  placed-last slots (f ∷ fs) zero d h = h
  placed-last slots (f ∷ fs) (suc n) d h = (h.0, placed-last (drop 32 slots) fs n d h.1)

  module _ (slots : List Located) (fs : List Frame) (n : ℕ) (d : Frame) (p : 1 ≤ n) where
    pub placed_close : AllPlaced codes slots (take n fs) → AllPlaced codes slots (take n (set fs (n - 1) (last_frame (get_or fs (n - 1) d))))
    placed_close h =
        let at : n ≡ suc (n - 1) = omega arith in
        subst⁻¹ (λ (m : ℕ). AllPlaced codes slots (take m (set fs (n - 1) (last_frame (get_or fs (n - 1) d))))) at
        (placed-last slots fs (n - 1) d (subst (λ (m : ℕ). AllPlaced codes slots (take m fs)) at h))

-- their frames
pub framed_more : (fs : List Frame) (xs : List Step) (f : Frame) (x : Step) → Framed fs xs → length xs < length fs → FrameOf f x.rules
    → Framed (set fs (length xs) f) (xs ++ (x ∷ []))
framed_more [] xs f x h b k = absurd (omega arith)
framed_more (g ∷ fs) [] f x h b k = (k, tt)
framed_more (g ∷ fs) (y ∷ xs) f x h b k = (h.0, framed_more fs xs f x h.1 (omega arith) k)

framed_last : (fs : List Frame) (xs : List Step) (n : ℕ) (d : Frame) → Framed fs xs → length xs ≡ suc n
    → Framed (set fs n (last_frame (get_or fs n d))) (close_loop xs)
unfolding close_loop last_frame
framed_last fs [] n d h e = absurd (omega arith)
framed_last [] (x ∷ xs) n d h e = absurd h
framed_last (f ∷ fs) (x ∷ []) zero d h e =
    let k = h.0 in
    (record { few = k.few; remote_is = k.remote_is; fields_are = k.fields_are; holds = k.holds; wanted_length = k.wanted_length }, tt)
framed_last (f ∷ fs) (x ∷ []) (suc n) d h e = absurd (omega arith)
framed_last (f ∷ fs) (x ∷ y ∷ xs) zero d h e = absurd (omega arith)
framed_last (f ∷ fs) (x ∷ y ∷ xs) (suc n) d h e = (h.0, framed_last fs (y ∷ xs) n d h.1 (omega arith))

module _ (fs : List Frame) (n : ℕ) (d : Frame) (p : 1 ≤ n) where
  pub framed_close : (xs : List Step) → Framed fs xs → n ≡ length xs → Framed (set fs (n - 1) (last_frame (get_or fs (n - 1) d))) (close_loop xs)
  framed_close xs h e = framed_last fs xs (n - 1) d h (omega arith)
