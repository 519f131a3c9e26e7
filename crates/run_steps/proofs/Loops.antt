-- What the loops within a step keep: rules taken out of the slots, rules done at one record, records done.
use Prim.Native.Nat.{ℕ, suc, ◌-◌, ◌+◌, ◌≤◌, ◌<◌}
use mathlib.Core.Path.{◌≡◌, refl, sym, ◌∙◌}
use mathlib.Core.List.{List}
use mathlib.Core.Option.{some}
use native.Mathlib.Omega.{arith}
use lib.IntN.{ℤ}
use lib.ListN.{length, get_or, take}
use Rattle.register.specs.declared.Sizes.{Sizes}
use Rattle.register.specs.declared.cells.Cell.{Cell}
use Rattle.program.specs.Program.{Rule}
use Rattle.program.specs.declared.location.Located.{Located}
use Rattle.program.specs.Stored.{rules_in}
use Rattle.machine.specs.Step.{sum_offence}
use Rattle.step_cells.specs.Work.{Same}
use Rattle.std.specs.Prelude.{Ok, Err, is_err, true}
use Rattle.laws.proofs.Bools.{true_false}
use Rattle.step_cells.specs.Stop.{Stop}
use Rattle.step_cells.specs.declared.stop.Offence.{Offence}
use Rattle.step_cells.proofs.Working.{same_refl, same_then}
use Rattle.step_rules.specs.Ready.{LocalRule, LocalDone}
use Rattle.step_rules.proofs.Locals.{RecordDone, rule_at, record-start, record-more, record-stops, records-start, records-more, records_all}
use Rattle.run_turn.proofs.Turning.{not-both}
use Rattle.run_steps.proofs.Arrays.{places_of}
use Rattle.run_steps.proofs.Finding.{followed}

-- a loop that counts up to n comes to its end
pub nearer : {i n : ℕ} → i < n → n - (i + 1) < n - i
nearer h = omega arith

-- the first k rules of a step are taken out
pub record Taken (slots : List Located) (step used : ℕ) (rules : List Located) (k : ℕ) : Type 0 where
  pub so_far : take k rules ≡ take k (places_of slots step)
  pub length_is : length rules ≡ 32
  pub k≤ : k ≤ used

-- the first k rules are done at record u, and no sum was out of range
pub record RulesDone (s : Sizes) (cells : List Cell) (base : ℕ) (codes : List ℕ) (rules : List Located) (used u : ℕ)
    (values : List ℤ) (marks : List ℕ) (values' : List ℤ) (marks' : List ℕ) (stop : Stop) (k : ℕ) : Type 0 where
  pub done : RecordDone s (followed s cells) base codes rules u k values marks values' marks'
  pub nowhere : stop ≡ Ok tt
  pub k≤ : k ≤ used

-- all rules are done at the records below u, and no sum was out of range
pub record RecordsDone (s : Sizes) (cells : List Cell) (base : ℕ) (codes : List ℕ) (rules : List Located) (used : ℕ)
    (values : List ℤ) (marks : List ℕ) (values' : List ℤ) (marks' : List ℕ) (stop : Stop) (u : ℕ) : Type 0 where
  pub same : Same base values marks values' marks'
  pub done : LocalDone s (followed s cells) base (rules_in codes used rules) u values marks values' marks'
  pub nowhere : stop ≡ Ok tt
  pub u≤ : u ≤ s.records

module _ {s : Sizes} {cells : List Cell} {base : ℕ} {codes : List ℕ} {rules : List Located} {used : ℕ} {values : List ℤ} {marks : List ℕ} where
  pub rules-first : {u : ℕ} {stop : Stop} → stop ≡ Ok tt → RulesDone s cells base codes rules used u values marks values marks stop 0
  rules-first e = record { done = record-start; nowhere = e; k≤ = omega arith }

  pub records-first : RecordsDone s cells base codes rules used values marks values marks (Ok tt) 0
  records-first = record { same = same_refl; done = records-start; nowhere = refl; u≤ = omega arith }

  module _ {values' values'' : List ℤ} {marks' marks'' : List ℕ} {stop : Stop} {u : ℕ} where
    -- one rule more at record u
    pub rules-next : {k : ℕ} → RulesDone s cells base codes rules used u values marks values' marks' stop k → k < used → used ≤ length rules
        → {stop' : Stop} → stop' ≡ Ok tt → (x : Located) → LocalRule s (followed s cells u) base u (rule_at codes (get_or rules k x)) values' marks' values'' marks'' stop'
        → {k' : ℕ} → k' ≡ suc k → RulesDone s cells base codes rules used u values marks values'' marks'' stop' k'
    rules-next a h fits e x rule q =
        record { done = record-more a.done x (omega arith) (rw e at rule) q; nowhere = e; k≤ = omega arith }

    -- one record more
    pub records-next : RecordsDone s cells base codes rules used values marks values' marks' stop u → u < s.records
        → {stop' : Stop} {k : ℕ} → RulesDone s cells base codes rules used u values' marks' values'' marks'' stop' k → used ≤ k
        → {u' : ℕ} → u' ≡ suc u → RecordsDone s cells base codes rules used values marks values'' marks'' stop' u'
    records-next a h b all q =
        record {
          same = same_then a.same b.done.same;
          done = records-more a.done (omega (arith, b.k≤)) b.done q;
          nowhere = b.nowhere;
          u≤ = omega arith;
        }

-- what a rule left, where two ways have met
pub local_as : (s : Sizes) (cells : List Cell) (base u : ℕ) (r : Rule) (values : List ℤ) (marks : List ℕ)
    {values' values'' : List ℤ} {marks' marks'' : List ℕ} {stop stop' : Stop} → values'' ≡ values' → marks'' ≡ marks' → stop' ≡ stop → LocalRule s (followed s cells u) base u r values marks values' marks' stop
    → LocalRule s (followed s cells u) base u r values marks values'' marks'' stop'
local_as s cells base u r values marks v m t rule = rw (v, m, t) rule

-- a rule whose sum is out of range stops at a place
pub with_offence : {P : Type 0} (stop : Stop) → is_err stop ≡ true → ((o : Offence) → stop ≡ Err o → P) → P
with_offence (Ok done) h f = true_false h refl
with_offence (Err o) h f = f o refl

-- what the loops leave: all records are done, or one rule's sum is out of range
pub record LocalsLeft (s : Sizes) (cells : List Cell) (base : ℕ) (rs : List Rule) (values : List ℤ) (marks : List ℕ)
    (values' : List ℤ) (marks' : List ℕ) (stop : Stop) : Type 0 where
  pub same : Same base values marks values' marks'
  pub all : stop ≡ Ok tt → LocalDone s (followed s cells) base rs s.records values marks values' marks'
  pub stops : (o : Offence) → stop ≡ Err o → sum_offence s (followed s cells) rs ≡ some (record { row = o.row; column = o.column })

module _ {s : Sizes} {cells : List Cell} {base : ℕ} {codes : List ℕ} {rules : List Located} {used : ℕ} {values values' : List ℤ} {marks marks' : List ℕ}
    {stop : Stop} {u : ℕ} (a : RecordsDone s cells base codes rules used values marks values' marks' stop u)
    {valuesₑ : List ℤ} {marksₑ : List ℕ} {stopₑ : Stop} where
  pub left_behind : s.records ≤ u → valuesₑ ≡ values' → marksₑ ≡ marks' → stopₑ ≡ stop
      → LocalsLeft s cells base (rules_in codes used rules) values marks valuesₑ marksₑ stopₑ
  left_behind h v m t =
      rw (v, m) (record {
        same = a.same;
        all = λ e. records_all (omega (arith, a.u≤)) a.done;
        stops = λ o e. not-both (t ∙ a.nowhere) e;
      })

  pub left-within : {values'' values''' : List ℤ} {marks'' marks''' : List ℕ} {stop' stop'' : Stop} {k : ℕ} {there : Offence} → u < s.records
      → RulesDone s cells base codes rules used u values' marks' values'' marks'' stop' k → k < used → used ≤ length rules
      → stop'' ≡ Err there → valuesₑ ≡ values''' → marksₑ ≡ marks''' → stopₑ ≡ stop''
      → (x : Located) → LocalRule s (followed s cells u) base u (rule_at codes (get_or rules k x)) values'' marks'' values''' marks''' stop''
      → LocalsLeft s cells base (rules_in codes used rules) values marks valuesₑ marksₑ stopₑ
  left-within {k = k} row b h fits o vₑ mₑ t x rule =
      let inside : k < length rules = omega arith in
      let stops = rw o at rule in
      rw (vₑ, mₑ) (record {
        same = same_then (same_then a.same b.done.same) stops.0;
        all = λ e. not-both e (t ∙ o);
        stops = λ q e.
            record-stops (followed s cells) codes rules k x inside h row a.done.in_range b.done.in_range (rw (sym t ∙ e) at rule).1;
      })
