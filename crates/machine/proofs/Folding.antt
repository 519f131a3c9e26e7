-- Lists of rules and of messages: one more at the end, none for a step with no remote rule, and the number of cells kept.
use Prim.Native.Nat.{ℕ, zero, suc}
use mathlib.Core.Path.{◌≡◌, refl, ap₂, ◌∙◌}
use mathlib.Core.Bool.{Bool, true, false, cond}
use mathlib.Core.List.{List, [], ◌∷◌, ◌++◌, append-nil, append_assoc}
use mathlib.Core.Option.{none, some}
use native.Mathlib.Omega.{arith}
use lib.ListN.{length, length-set}
use Rattle.laws.proofs.Bools.{or-neither, true_false, cond_both}
use Rattle.register.specs.declared.Sizes.{Sizes}
use Rattle.register.specs.declared.cells.Cell.{Cell}
use Rattle.chain.specs.Reading.{Reading}
use Rattle.chain.specs.Word.{column}
use Rattle.program.specs.Program.{Target, own, remote, Rule, is_remote, some_target, has_remote, target_field}
use Rattle.machine.specs.declared.message.Message.{Message}
use Rattle.machine.specs.Value.{value, holds}
use Rattle.machine.specs.Local.{assign, local_rule, local_rules, local_records, offends, sum_column}
use Rattle.machine.specs.Remote.{sent_by, rule_messages, messages, record_messages, deliver, deliver_all}
use Rattle.machine.specs.Step.{step_cells}

-- one rule more: what it stores, and what it sends
pub local_rules-more : (s : Sizes) (read : List ℕ → Reading) (u : ℕ) (rs : List Rule) (r : Rule) (cells : List Cell)
    → local_rules s read u (rs ++ (r ∷ [])) cells ≡ local_rule s read u r (local_rules s read u rs cells)
unfolding local_rules
local_rules-more s read u [] r cells = refl
local_rules-more s read u (q ∷ rs) r cells = local_rules-more s read u rs r (local_rule s read u q cells)

pub messages-more : (read : List ℕ → Reading) (rs : List Rule) (r : Rule) → messages read (rs ++ (r ∷ [])) ≡ messages read rs ++ rule_messages read r
unfolding messages
messages-more read [] r = append-nil (rule_messages read r)
messages-more read (q ∷ rs) r = simp (messages-more read rs r, append_assoc)

module _ (s : Sizes) (read : List ℕ → Reading) where
  -- a rule whose sum offends is the earliest where it is the first
  sum_column-first : (r : Rule) (rs : List Rule) → offends read r ≡ true → sum_column s read (r ∷ rs) ≡ some (column s (target_field r.target))
  unfolding sum_column
  sum_column-first r rs h = rw h

  -- and behind others whose sums do not offend
  sum_column-behind : (qs rs : List Rule) → sum_column s read qs ≡ none → sum_column s read (qs ++ rs) ≡ sum_column s read rs
  unfolding sum_column
  sum_column-behind [] rs e = refl
  sum_column-behind (q ∷ qs) rs e = go (offends read q) (sum_column-behind qs rs) e
    where
      go : (t : Bool) → (sum_column s read qs ≡ none → sum_column s read (qs ++ rs) ≡ sum_column s read rs)
          → cond t (some (column s (target_field q.target))) (sum_column s read qs) ≡ none
          → cond t (some (column s (target_field q.target))) (sum_column s read (qs ++ rs)) ≡ sum_column s read rs
      go true r e = absurd (let z : ◌≡◌ {A = ℕ} 0 1 = cc in omega arith)
      go false r e = r e

  pub sum_column_earliest : (qs : List Rule) (r : Rule) (rs : List Rule) → sum_column s read qs ≡ none → offends read r ≡ true
      → sum_column s read (qs ++ r ∷ rs) ≡ some (column s (target_field r.target))
  sum_column_earliest qs r rs e h = sum_column-behind qs (r ∷ rs) e ∙ sum_column-first r rs h

  -- one more whose sum does not offend
  pub sum_column-more : (qs : List Rule) (r : Rule) → sum_column s read qs ≡ none → offends read r ≡ false → sum_column s read (qs ++ (r ∷ [])) ≡ none
  unfolding sum_column
  sum_column-more qs r e h = sum_column-behind qs (r ∷ []) e ∙ rw h

  -- where none offends, none does behind others
  pub sum_column_each : (qs : List Rule) (r : Rule) (rs : List Rule) → sum_column s read (qs ++ r ∷ rs) ≡ none → offends read r ≡ false
  unfolding sum_column
  sum_column_each [] r rs e = go (offends read r) e
    where
      go : (t : Bool) → cond t (some (column s (target_field r.target))) (sum_column s read rs) ≡ none → t ≡ false
      go true e = absurd (let z : ◌≡◌ {A = ℕ} 0 1 = cc in omega arith)
      go false e = refl
  sum_column_each (q ∷ qs) r rs e = go (offends read q) (sum_column_each qs r rs) e
    where
      go : (t : Bool) → (sum_column s read (qs ++ r ∷ rs) ≡ none → offends read r ≡ false)
          → cond t (some (column s (target_field q.target))) (sum_column s read (qs ++ r ∷ rs)) ≡ none → offends read r ≡ false
      go true h e = absurd (let z : ◌≡◌ {A = ℕ} 0 1 = cc in omega arith)
      go false h e = h e

-- messages delivered in two parts
pub deliver_all-append : (s : Sizes) (cells : List Cell) (ms ns : List Message) → deliver_all s cells (ms ++ ns) ≡ deliver_all s (deliver_all s cells ms) ns
unfolding deliver_all
deliver_all-append s cells [] ns = refl
deliver_all-append s cells (m ∷ ms) ns = deliver_all-append s (deliver s cells m) ms ns

-- local rules send nothing
sent_by-local : (read : List ℕ → Reading) (t : Target) (x : Reading) → is_remote t ≡ false → sent_by read t x ≡ []
unfolding is_remote sent_by
sent_by-local read (own f) x e = refl
sent_by-local read (remote k f c) x e = true_false refl e

pub rule_messages-local : (read : List ℕ → Reading) (r : Rule) → is_remote r.target ≡ false → rule_messages read r ≡ []
unfolding rule_messages
rule_messages-local read r e = cond_both (λ ms. ms ≡ []) (holds read r.test) _ _ (sent_by-local read r.target _ e) refl

messages-local : (read : List ℕ → Reading) (rs : List Rule) → has_remote rs ≡ false → messages read rs ≡ []
unfolding messages has_remote some_target
messages-local read [] e = refl
messages-local read (r ∷ rs) e =
    let none = or-neither (is_remote r.target) (has_remote rs) e in
    ap₂ ◌++◌ (rule_messages-local read r none.0) (messages-local read rs none.1)

pub record_messages-local : (read : ℕ → List ℕ → Reading) (rs : List Rule) (n : ℕ) → has_remote rs ≡ false → record_messages read rs n ≡ []
unfolding record_messages
record_messages-local read rs zero e = refl
record_messages-local read rs (suc n) e = ap₂ ◌++◌ (record_messages-local read rs n e) (messages-local (read n) rs e)

-- the number of cells is kept
assign-length : (s : Sizes) (u : ℕ) (t : Target) (x : Reading) (cells : List Cell) → length (assign s u t x cells) ≡ length cells
unfolding assign
assign-length s u (own f) x cells = length-set cells _ _
assign-length s u (remote k f w) x cells = refl

pub local_rule-length : (s : Sizes) (read : List ℕ → Reading) (u : ℕ) (r : Rule) (cells : List Cell) → length (local_rule s read u r cells) ≡ length cells
unfolding local_rule
local_rule-length s read u r cells =
    cond_both (λ (l : List Cell). length l ≡ length cells) (holds read r.test) _ _ (assign-length s u r.target (value read r.expression) cells) refl

pub local_rules-length : (s : Sizes) (read : List ℕ → Reading) (u : ℕ) (rs : List Rule) (cells : List Cell) → length (local_rules s read u rs cells) ≡ length cells
unfolding local_rules
local_rules-length s read u [] cells = refl
local_rules-length s read u (r ∷ rs) cells = local_rules-length s read u rs (local_rule s read u r cells) ∙ local_rule-length s read u r cells

pub local_records-length : (s : Sizes) (read : ℕ → List ℕ → Reading) (rs : List Rule) (n : ℕ) (cells : List Cell)
    → length (local_records s read rs n cells) ≡ length cells
unfolding local_records
local_records-length s read rs zero cells = refl
local_records-length s read rs (suc n) cells = local_rules-length s (read n) n rs (local_records s read rs n cells) ∙ local_records-length s read rs n cells

pub deliver-length : (s : Sizes) (cells : List Cell) (m : Message) → length (deliver s cells m) ≡ length cells
unfolding deliver
deliver-length s cells m = length-set cells _ _

pub deliver_all-length : (s : Sizes) (cells : List Cell) (ms : List Message) → length (deliver_all s cells ms) ≡ length cells
unfolding deliver_all
deliver_all-length s cells [] = refl
deliver_all-length s cells (m ∷ ms) = deliver_all-length s (deliver s cells m) ms ∙ deliver-length s cells m

pub step_cells-length : (s : Sizes) (read : ℕ → List ℕ → Reading) (rs : List Rule) (cells : List Cell) → length (step_cells s read rs cells) ≡ length cells
unfolding step_cells
step_cells-length s read rs cells =
    let n = s.records in
    deliver_all-length s (local_records s read rs n cells) (record_messages read rs n) ∙ local_records-length s read rs n cells
