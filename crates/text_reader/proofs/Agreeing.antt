-- Codes in which more is written behind those so far: the rules of these codes stay as they are.
use Prim.Native.Nat.{ℕ, ◌≤◌}
use mathlib.Core.Path.{◌≡◌, refl, ap₂}
use mathlib.Core.List.{List, [], ◌∷◌}
use lib.ListN.{length, take, drop}
use Rattle.laws.specs.Lists.{Each}
use Rattle.program.specs.declared.term.Term.{Term}
use Rattle.program.specs.declared.rule.Slot.{Slot}
use Rattle.program.specs.declared.location.Location.{Location}
use Rattle.program.specs.declared.location.Located.{Located}
use Rattle.program.specs.declared.frame.Frame.{Frame}
use Rattle.program.specs.Program as P
use Rattle.program.specs.Code.{SameBelow}
use Rattle.program.specs.Stored.{rules_in}
use Rattle.program.specs.Terms.{SlotTerms, TermInside, TermFormed, SlotPlaced}
use Rattle.program.specs.Kept.{steps_in, AllLocated}
use Rattle.program.proofs.Agreeing.{slot_map, inside-more, alike, formed-same, rule-alike}
use Rattle.text_readings.specs.Readings.{PlacedIn}
use Rattle.text_plan.proofs.Placing.{slot-changed, slot-located}
use Rattle.text_reader.proofs.Lists.{each_both, map_same, each_take, each_drop}

-- a term whose codes, if it has any, stand before n and are those of an expression
abbrev pub TermKept : List ℕ → ℕ → Term → Type 0
TermKept codes n x = TermInside n x × TermFormed codes x

abbrev pub SlotKept : List ℕ → ℕ → Located → Type 0
SlotKept codes n y = SlotTerms (TermKept codes n) y.slot

pub slot-inside : (codes : List ℕ) (n : ℕ) (x : Slot) → SlotTerms (TermKept codes n) x → SlotTerms (TermInside n) x
slot-inside codes n x h = slot_map (λ t p. p.0) x h

-- the rules of each closed step, their readings placed among the lines of its plan
abbrev pub AllPlaced : List ℕ → List Located → List Frame → Type 0
AllPlaced codes slots [] = Unit {0}
AllPlaced codes slots (f ∷ fs) = Each (SlotPlaced (PlacedIn f.plan f.wanted) codes) (take f.rules (take 32 slots)) × AllPlaced codes (drop 32 slots) fs

module _ (codes codes' : List ℕ) {n : ℕ} (same : SameBelow codes codes' n) where
  pub rules-same : (m : ℕ) (ys : List Located) → Each (SlotKept codes n) ys → rules_in codes m ys ≡ rules_in codes' m ys
  unfolding rules_in
  rules-same m ys h =
      map_same (SlotKept codes n) (λ y p. rule-alike codes codes' (alike codes codes' same) y.slot (slot-inside codes n y.slot p)) (take m ys)
      (each_take (SlotKept codes n) m ys h)

  pub steps-same : (slots : List Located) (fs : List Frame) → Each (SlotKept codes n) slots → steps_in codes slots fs ≡ steps_in codes' slots fs
  unfolding steps_in
  steps-same slots [] h = refl
  steps-same slots (f ∷ fs) h =
      ap₂ (λ (rs : List P.Rule) (xs : List P.Step). record { rules = rs; setting = f.setting } ∷ xs)
      (rules-same f.rules (take 32 slots) (each_take (SlotKept codes n) 32 slots h)) (steps-same (drop 32 slots) fs (each_drop (SlotKept codes n) 32 slots h))

  -- their codes are still those of expressions
  pub slot_kept : (y : Located) → SlotKept codes n y → SlotKept codes' n y
  slot_kept y h = slot_map (λ x p. (p.0, formed-same codes codes' same x p.0 p.1)) y.slot h

  -- their readings are where they were
  pub each_placed : (Q : Location → List ℕ → Type 0) (ys : List Located) → Each (SlotKept codes n) ys
      → Each (SlotPlaced Q codes) ys → Each (SlotPlaced Q codes') ys
  each_placed Q ys p h =
      each_both _ _ _ (λ y k. slot-changed {P = Q} {Q = Q} codes codes' n (λ at w q. q) (λ i l q. rw (← same i l) q) y (slot-inside codes n y.slot k)) ys p h

  pub all_placed : (slots : List Located) (fs : List Frame) → Each (SlotKept codes n) slots → AllPlaced codes slots fs → AllPlaced codes' slots fs
  all_placed slots [] p h = tt
  all_placed slots (f ∷ fs) p h = (
    each_placed (PlacedIn f.plan f.wanted) (take f.rules (take 32 slots))
        (each_take (SlotKept codes n) f.rules (take 32 slots) (each_take (SlotKept codes n) 32 slots p)) h.0,
    all_placed (drop 32 slots) fs (each_drop (SlotKept codes n) 32 slots p) h.1,
  )

-- rules that are placed are located
pub all_located : (codes : List ℕ) (n : ℕ) → n ≤ length codes → (slots : List Located) (fs : List Frame)
    → Each (SlotKept codes n) slots → AllPlaced codes slots fs → AllLocated codes slots fs
all_located codes n l slots [] p h = tt
all_located codes n l slots (f ∷ fs) p h = (
  each_both _ _ _ (λ y q. slot-located f.plan f.wanted codes y (slot_map (λ t w. w.1) y.slot q) (slot_map (λ t w. inside-more l t w.0) y.slot q))
      (take f.rules (take 32 slots)) (each_take (SlotKept codes n) f.rules (take 32 slots) (each_take (SlotKept codes n) 32 slots p)) h.0,
  all_located codes n l (drop 32 slots) fs (each_drop (SlotKept codes n) 32 slots p) h.1,
)
