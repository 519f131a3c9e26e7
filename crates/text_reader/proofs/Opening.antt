-- The open step: its plan, the lines of it that are wanted, and its rules so far with their readings placed in it.
use Prim.Native.Nat.{ℕ}
use mathlib.Core.Path.{◌≡◌, sym, ap, subst, ◌∙◌}
use mathlib.Core.List.{List, [], ◌∷◌, ◌++◌, append-nil, append_assoc}
use Rattle.laws.specs.Lists.{Each}
use Rattle.laws.proofs.Lists.{each_append}
use Rattle.plan_theory.specs.Plan.{add_readings, plan}
use Rattle.plan_lines.specs.Held.{HoldsLines}
use Rattle.program.specs.declared.rule.Slot.{Slot}
use Rattle.program.specs.declared.location.Located.{Located}
use Rattle.program.specs.declared.location.Locations.{Locations}
use Rattle.program.specs.Program.{Rule, rule_readings, readings, step_plan}
use Rattle.program.specs.Code.{SameBelow}
use Rattle.program.specs.Stored.{rule_in}
use Rattle.program.specs.Terms.{SlotTerms, TermFormed, SlotPlaced}
use Rattle.text_readings.specs.Readings.{NotFull, WordPlaced, OpenFor}
use Rattle.text_readings.specs.declared.Open.{Open}
use Rattle.text_plan.specs.Walked.{slot_words, SlotWalked}
use Rattle.text_plan.proofs.Words.{slot-words}
use Rattle.text_plan.proofs.Placing.{slot-stays}
use Rattle.text_reader.proofs.Lists.{each_both}
use Rattle.text_reader.proofs.Agreeing.{SlotKept, slot-inside, each_placed}

-- these rules, which stand at these slots; where the plan is full, nothing is said of their places
pub record OpenStep (codes : List ℕ) (rs : List Rule) (slots : List Located) (a : Open) : Type 0 where
  pub planned : OpenFor (step_plan rs) a
  pub placed : NotFull a → Each (SlotPlaced (WordPlaced a) codes) slots

readings-more : (rs : List Rule) (r : Rule) → readings (rs ++ (r ∷ [])) ≡ readings rs ++ rule_readings r
unfolding readings
readings-more [] r = append-nil (rule_readings r)
readings-more (q ∷ rs) r = ap (λ (ws : List (List ℕ)). rule_readings q ++ ws) (readings-more rs r)
    ∙ sym (append_assoc (rule_readings q) (readings rs) (rule_readings r))

-- before the first rule
pub open_none : {codes : List ℕ} {a : Open} → HoldsLines a.plan [] → NotFull a → OpenStep codes [] [] a
unfolding step_plan readings plan add_readings
open_none h f = record {
  planned = record { full_is = f; holds = λ k. h };
  placed = λ k. tt;
}

module _ {codes : List ℕ} {rs : List Rule} {slots : List Located} {a : Open} (o : OpenStep codes rs slots a) where
  pub open_still : rs ≡ [] → OpenStep codes [] [] a
  open_still e = record { planned = subst (λ (rs : List Rule). OpenFor (step_plan rs) a) e o.planned; placed = λ k. tt }

  -- codes that are the same as far as it has any
  pub open_same : (codes' : List ℕ) {n : ℕ} → SameBelow codes codes' n → Each (SlotKept codes n) slots → OpenStep codes' rs slots a
  open_same codes' same s = record {
    planned = o.planned;
    placed = λ f. each_placed codes codes' same (WordPlaced a) slots s (o.placed f);
  }

  -- one rule more, placed in the plan that has its readings
  pub open_rule : {b : Open} {codes' : List ℕ} (x : Slot) (at : Locations) (n : ℕ) → SlotWalked a codes b codes' at x → Each (SlotKept codes n) slots
      → SlotTerms (TermFormed codes) x → OpenStep codes' (rs ++ (rule_in codes x ∷ [])) (slots ++ (record { slot = x; at = at } ∷ [])) b
  unfolding step_plan
  open_rule x at n w s f =
      let words : readings rs ++ slot_words codes x ≡ readings (rs ++ (rule_in codes x ∷ [])) =
      ap (λ (ws : List (List ℕ)). readings rs ++ ws) (slot-words codes x f) ∙ sym (readings-more rs (rule_in codes x)) in
      record {
        planned = rw (← words) (w.grown.extends (readings rs) o.planned);
        placed = λ k.
            each_append _ slots (record { slot = x; at = at } ∷ [])
            (each_both _ _ _ (λ y p. slot-stays w k n y (slot-inside codes n y.slot p)) slots s (o.placed (w.grown.kept k))) (w.found k, tt);
      }
