-- What every write keeps of a cell, a run keeps of it, by either machine: that it is filled, and where its mark comes from.
use Rattle.std.specs.Prelude.{None, Some}
use Prim.Native.Nat.{ℕ, zero, suc}
use mathlib.Core.Path.{◌≡◌, refl, sym, ap}
use mathlib.Core.Logic.{◌≢◌}
use mathlib.Core.Bool.{true}
use mathlib.Core.List.{List, [], ◌∷◌}
use native.Mathlib.Omega.{arith}
use lib.IntN.{ℤ, ◌+ℤ◌}
use lib.ListN.{get_or}
use Rattle.laws.proofs.Bools.{cond_both, true_false}
use Rattle.register.specs.Cells.{mark_of}
use Rattle.register.specs.declared.Sizes.{Sizes}
use Rattle.register.specs.declared.cells.Cell.{Cell}
use Rattle.register.specs.declared.cells.Cell.TheVariants.{Missing, Measured, WorkedOut}
use Rattle.chain.specs.Reading.{Reading}
use Rattle.program.specs.declared.rule.Sort.{Sort}
use Rattle.program.specs.declared.rule.Sort.TheVariants.{Least, Total}
use Rattle.program.specs.Program.{Target, own, remote, Rule, Step, Program}
use Rattle.machine.specs.declared.message.Message.{Message}
use Rattle.chain.specs.Word.{read_of}
use Rattle.chain.specs.Way.{is_filled}
use Rattle.machine.specs.Filled.{StayFilled}
use Rattle.machine.specs.Marks.{WereMeasured, WereUnfilled}
use Rattle.machine.specs.Value.{value, holds}
use Rattle.machine.specs.Local.{stored_over, assign, local_rule, local_rules, local_records}
use Rattle.machine.specs.Remote.{record_messages, is_lowered, smaller, added, increased, merged, deliver, deliver_all}
use Rattle.machine.specs.Step.{step_cells, offence}
use Rattle.machine.specs.Run.{Reader, Pass, Run, behind, step_first, run_from, run}
use Rattle.machine.proofs.Refers.{change_keeps}
use Rattle.machine.proofs.Stops.{offended_cases}

-- what `:=` and remote writes keep of a cell
record Lasting (P : Cell → Type 0) : Type 0 where
  stored : (x : Reading) (c : Cell) → P c → P (stored_over x c)
  sent : (k : Sort) (c : Cell) (a : ℤ) → P c → P (merged k c a)

module _ {P : Cell → Type 0} (k : Lasting P) (s : Sizes) (j : ℕ) where
  -- it holds of cell j
  abbrev At : List Cell → Type 0
  At cells = P (get_or cells j Missing)

  -- local rules
  assign-keeps : (u : ℕ) (t : Target) (x : Reading) (cells : List Cell) → At cells → At (assign s u t x cells)
  unfolding assign
  assign-keeps u (own f) x cells h = change_keeps P (stored_over x) (k.stored x) cells _ j h
  assign-keeps u (remote l f w) x cells h = h

  rules_keep : (read : List ℕ → Reading) (u : ℕ) (rs : List Rule) (cells : List Cell) → At cells → At (local_rules s read u rs cells)
  unfolding local_rules local_rule
  rules_keep read u [] cells h = h
  rules_keep read u (r ∷ rs) cells h =
      rules_keep read u rs _ (cond_both At (holds read r.test) _ _ (assign-keeps u r.target (value read r.expression) cells h) h)

  records_keep : (read : ℕ → List ℕ → Reading) (rs : List Rule) (n : ℕ) (cells : List Cell) → At cells → At (local_records s read rs n cells)
  unfolding local_records
  records_keep read rs zero cells h = h
  records_keep read rs (suc n) cells h = rules_keep (read n) n rs _ (records_keep read rs n cells h)

  -- remote writes
  delivered_keep : (ms : List Message) (cells : List Cell) → At cells → At (deliver_all s cells ms)
  unfolding deliver_all deliver
  delivered_keep [] cells h = h
  delivered_keep (m ∷ ms) cells h =
      delivered_keep ms _ (change_keeps P (λ c. merged m.sort c m.amount) (λ c. k.sent m.sort c m.amount) cells _ j h)

  -- a step, whatever its records read
  step_keeps : (read : ℕ → List ℕ → Reading) (rs : List Rule) (cells : List Cell) → At cells → At (step_cells s read rs cells)
  unfolding step_cells
  step_keeps read rs cells h = delivered_keep (record_messages read rs s.records) _ (records_keep read rs s.records cells h)

  -- a run, by either machine and however it ends
  run_from-keeps : (reader : Reader) (budget : ℕ) (steps : List Step) (p : Pass) (cells : List Cell) → At cells → At (run_from s reader budget steps p cells).cells
  unfolding run_from step_first behind
  run_from-keeps reader zero [] p cells h = h
  run_from-keeps reader zero (x ∷ rest) p cells h = h
  run_from-keeps reader (suc budget) [] p cells h = h
  run_from-keeps reader (suc budget) (x ∷ rest) p cells h =
      offended_cases (λ (r : Run). At r.cells) (offence s (reader x.rules cells) x.rules cells) cells _ (λ o e. h)
      (λ e. run_from-keeps reader budget _ _ _ (step_keeps (reader x.rules cells) x.rules cells h))

  run-keeps : (reader : Reader) (p : Program) (budget : ℕ) (cells : List Cell) → At cells → At (run s reader p budget cells).cells
  unfolding run
  run-keeps reader p budget cells h = run_from-keeps reader budget p _ cells h

-- M-103: a filled cell stays filled
filled_lasts : Lasting (λ c. is_filled (read_of c) ≡ true)
unfolding stored_over read_of is_filled merged smaller increased added
filled_lasts = record { stored = stored; sent = sent }
  where
    stored : (x : Reading) (c : Cell) → is_filled (read_of c) ≡ true → is_filled (read_of (stored_over x c)) ≡ true
    stored None c h = h
    stored (Some z) c h = refl

    total : (x : Reading) (a : ℤ) → is_filled x ≡ true → is_filled (read_of (added x a)) ≡ true
    total None a h = true_false h refl
    total (Some z) a h = refl

    sent : (k : Sort) (c : Cell) (a : ℤ) → is_filled (read_of c) ≡ true → is_filled (read_of (merged k c a)) ≡ true
    sent Least c a h = cond_both (λ c. is_filled (read_of c) ≡ true) (is_lowered (read_of c) a) _ _ refl h
    sent Total c a h = total (read_of c) a h

module _ (s : Sizes) (reader : Reader) (p : Program) (budget : ℕ) (cells : List Cell) where
  pub run_fills : StayFilled cells (run s reader p budget cells).cells
  run_fills j h = run-keeps filled_lasts s j reader p budget cells h

-- M-107: every write leaves a cell as it is or worked out; so one that is not worked out was there before
others_last : (d : Cell) → mark_of d ≢ 2 → {B : Type 0} → Lasting (λ c. c ≡ d → B)
unfolding stored_over read_of merged smaller increased added mark_of
others_last d other {B} = record { stored = stored; sent = sent }
  where
    worked : (z : ℤ) → WorkedOut z ≡ d → B
    worked z e = absurd (other (sym (ap mark_of e)))

    stored : (x : Reading) (c : Cell) → (c ≡ d → B) → stored_over x c ≡ d → B
    stored None c h = h
    stored (Some z) c h = worked z

    sent : (k : Sort) (c : Cell) (a : ℤ) → (c ≡ d → B) → merged k c a ≡ d → B
    sent Least c a h = cond_both (λ c. c ≡ d → B) (is_lowered (read_of c) a) _ _ (worked a) h
    sent Total Missing a h = h
    sent Total (Measured z) a h = worked (z +ℤ a)
    sent Total (WorkedOut z) a h = worked (z +ℤ a)

module _ (s : Sizes) (reader : Reader) (p : Program) (budget : ℕ) (cells : List Cell) where
  pub run_measured : WereMeasured cells (run s reader p budget cells).cells
  unfolding mark_of
  run_measured j z = run-keeps (others_last (Measured z) (λ e. omega arith)) s j reader p budget cells (λ e. e)

  pub run-unfilled : WereUnfilled cells (run s reader p budget cells).cells
  unfolding mark_of
  run-unfilled j = run-keeps (others_last Missing (λ e. omega arith)) s j reader p budget cells (λ e. e)
