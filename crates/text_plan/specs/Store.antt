-- What a line that has passed leaves to be stored.
use Rattle.std.specs.Prelude.{ℕ, ◌+◌, ◌-◌, ◌*◌, ◌≤◌, ◌≡◌, List, pos, length, Option, Some, None}
use Rattle.program.specs.declared.term.Term.TheVariants.{Number}
use Rattle.program.specs.declared.rule.Test.TheVariants.{Always}
use Rattle.program.specs.declared.rule.Rule.TheVariants.{Set}
use Rattle.program.specs.declared.rule.Slot.{Slot}
use Rattle.program.specs.declared.location.Locations.{Locations}
use Rattle.program.specs.Terms.{SlotTerms, TermInside}
use Rattle.text_rules.specs.declared.line.LineRead.{LineRead}
use Rattle.text_rules.specs.declared.line.LineRead.TheVariants as L
use Rattle.text_readings.specs.Readings.{Short}
use Rattle.text_readings.specs.declared.Open.{Open}
use Rattle.text_state.specs.declared.state.State.{State}
use Rattle.text_plan.specs.Walked.{slot_words, SlotWalked}
use Rattle.text_plan.specs.declared.store.Store.{Store}
use Rattle.text_plan.specs.declared.store.Store.TheVariants as W

-- a place that holds no rule
abbrev pub empty_slot : Slot
empty_slot = record { test = Always; rule = Set 0 (Number (pos 0)) }

-- what a line has to be for its planning: a rule's readings are short and its codes stand in the array, and a loop has a step
abbrev pub LineFits : List ℕ → State → LineRead → Type 0
LineFits codes x L.Step = Unit {0}
LineFits codes x L.End = Unit {0}
LineFits codes x L.Done = 1 ≤ x.steps
LineFits codes x (L.Loop f named) = Unit {0}
LineFits codes x (L.Rule y c) = Short (slot_words codes y) × SlotTerms (TermInside (length codes)) y
LineFits codes x L.NoForm = Unit {0}

-- the lines of the open step's plan and the codes before a line, and behind it
module _ (x : State) (a : Open) (codes : List ℕ) (b : Open) (codes' : List ℕ) where
  -- a rule goes to the next place of the open step, whose plan grows by it
  pub record RuleStored (y : Slot) (r : Option Store) : Type 0 where
    pub at : Locations
    pub stores : r ≡ Some (W.Rule (32 * x.steps + x.tally.rules) (record { slot = y; at = at }))
    pub walked : SlotWalked a codes b codes' at y

  -- any other line leaves the plan as it is
  pub record PlanSame (s r : Option Store) : Type 0 where
    pub stores : r ≡ s
    pub same_lines : b ≡ a
    pub same_codes : codes' ≡ codes

  -- `end` closes the open step, and `done` marks the last step of its loop
  abbrev pub LineLeaves : LineRead → Option Store → Type 0
  LineLeaves L.Step r = PlanSame None r
  LineLeaves L.End r = PlanSame (Some (W.Close x.steps)) r
  LineLeaves L.Done r = PlanSame (Some (W.Last (x.steps - 1))) r
  LineLeaves (L.Loop f named) r = PlanSame None r
  LineLeaves (L.Rule y c) r = RuleStored y r
  LineLeaves L.NoForm r = PlanSame None r

  pub record LinePlanned (l : LineRead) (r : Option Store) : Type 0 where
    pub leaves : LineLeaves l r
