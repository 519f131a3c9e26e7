-- A step that does not stop keeps a register valid: the values are in range, and the references lead to records.
use Rattle.std.specs.Prelude.{None, Some}
use Prim.Native.Nat.{ℕ, zero, suc, ◌<◌}
use mathlib.Core.Path.{◌≡◌, refl, sym, ◌∙◌}
use mathlib.Core.Bool.{true, false}
use mathlib.Core.List.{List, [], ◌∷◌}
use mathlib.Core.Option.{none}
use native.Mathlib.Omega.{arith}
use lib.IntN.{ℤ}
use mir.Syntax.{w32}
use mir.Val.{SFits}
use lib.Signed.{lt_z}
use Rattle.integers.specs.Range.{in_range}
use Rattle.laws.proofs.Bools.{and_both, true_false, cond_both}
use Rattle.integers.proofs.Complement.{range_fits, fits_range}
use Rattle.register.specs.Cells.{value_of}
use Rattle.register.specs.Shape.{Limits, Valid, refers_within}
use Rattle.register.specs.declared.Sizes.{Sizes}
use Rattle.register.specs.declared.cells.Cell.{Cell}
use Rattle.register.specs.declared.cells.Cell.TheVariants.{WorkedOut}
use Rattle.chain.specs.Reading.{Reading}
use Rattle.chain.specs.Word.{is_reference, Passes, read_of, refers_to, reading_value}
use Rattle.chain.proofs.ReadOf.{read-value}
use Rattle.program.specs.declared.rule.Operator.TheVariants.{Plus, Minus, Smaller}
use Rattle.program.specs.declared.rule.Sort.{Sort}
use Rattle.program.specs.declared.rule.Sort.TheVariants.{Least, Total}
use Rattle.program.specs.Program.{Expression, reading, constant, operation, Target, own, remote, Rule, target_field}
use Rattle.laws.specs.Lists.{Each}
use Rattle.program.specs.Passed.{is_reference_word, takes_references, is_reference_expression, ExpressionPasses, TargetPasses, RulePasses, RulesPass}
use Rattle.laws.proofs.Lists.{each_append}
use Rattle.machine.specs.declared.message.Message.{Message}
use Rattle.machine.specs.Value.{both, operate, combined, value, holds, reading_in_range, cell_in_range}
use Rattle.machine.specs.Local.{stored_over, assign, local_rule, local_rules, local_records}
use Rattle.machine.specs.Remote.{sent_to, sent_by, rule_messages, messages, record_messages, is_lowered, smaller, merged, deliver, deliver_all}
use Rattle.machine.specs.Step.{step_cells, offence}
use Rattle.machine.proofs.Folding.{step_cells-length}
use Rattle.machine.proofs.Stops.{in_range_each}
use Rattle.machine.proofs.Refers.{Refers, Change, change_refers}

-- a cell in range fits, and one that fits is in range
pub in_range-fits : (c : Cell) → cell_in_range c ≡ true → SFits w32 (value_of c)
unfolding cell_in_range reading_in_range reading_value in_range
in_range-fits c e = rw (← read-value c) (go (read_of c) e)
  where
    go : (x : Reading) → reading_in_range x ≡ true → SFits w32 (reading_value x)
    go None e = record { sfits = omega arith }
    go (Some z) e = let bounds = and_both _ _ e in range_fits z bounds.0 bounds.1

pub fits-in_range : (c : Cell) → SFits w32 (value_of c) → cell_in_range c ≡ true
unfolding cell_in_range reading_in_range reading_value
fits-in_range c h = go (read_of c) (rw (read-value c) h)
  where
    go : (x : Reading) → SFits w32 (reading_value x) → reading_in_range x ≡ true
    go None h = refl
    go (Some z) h = fits_range z h

-- a cell that refers does so behind `:=` of a reading that does
stored_over_refers : (n : ℕ) (x : Reading) (c : Cell) → refers_to n x ≡ true → refers_within n c ≡ true → refers_within n (stored_over x c) ≡ true
unfolding stored_over refers_within refers_to
stored_over_refers n None c e h = h
stored_over_refers n (Some z) c e h = e

-- "`<?=` keeps the smaller": one of two references; `+=` is for measures
merged_refers : (n : ℕ) (k : Sort) (c : Cell) (a : ℤ) → (k ≡ Total → ⊥) → refers_within n c ≡ true → refers_within n (WorkedOut a) ≡ true
    → refers_within n (merged k c a) ≡ true
unfolding merged smaller
merged_refers n Least c a h hc ha = cond_both (λ c. refers_within n c ≡ true) (is_lowered (read_of c) a) _ _ ha hc
merged_refers n Total c a h hc ha = absurd (h refl)

-- `<?` of two references is one of them, or missing
smaller_refers : (n : ℕ) (x y : Reading) → refers_to n x ≡ true → refers_to n y ≡ true → refers_to n (combined Smaller x y) ≡ true
unfolding combined both operate refers_to
smaller_refers n None y hx hy = refl
smaller_refers n (Some a) None hx hy = refl
smaller_refers n (Some a) (Some b) hx hy = cond_both (λ z. refers_to n (Some z) ≡ true) (lt_z b a) b a hy hx

-- what a message does to its cell
abbrev Sound : Sizes → Message → Type 0
Sound s m = Change s m.field (λ c. merged m.sort c m.amount)

-- a remote write, if it is sent
sent_sound : (s : Sizes) (k : Sort) (f : ℕ) (c x : Reading) → (k ≡ Total → is_reference f ≡ false) → Change s f (stored_over x)
    → Each (Sound s) (sent_to k f c x)
unfolding sent_to both stored_over
sent_sound s k f None x m w = tt
sent_sound s k f (Some v) None m w = tt
sent_sound s k f (Some v) (Some a) m w =
    (record { field = w.field; refers = λ r d h. merged_refers s.records k d a (λ q. true_false r (m q)) h (w.refers r d h) }, tt)

-- one record, whose reference words lead to records
module _ (s : Sizes) (lim : Limits s) (read : List ℕ → Reading)
    (within : (w : List ℕ) → Passes s w → is_reference_word w ≡ true → refers_to s.records (read w) ≡ true) where
  -- so do its reference expressions: a number or a sum is none, and `<?` is one of its operands
  value_refers : (x : Expression) → ExpressionPasses s x → is_reference_expression x ≡ true → refers_to s.records (value read x) ≡ true
  unfolding takes_references is_reference_expression value
  value_refers (reading w) k e = within w k e
  value_refers (constant z) k e = true_false e refl
  value_refers (operation Plus x y) k e = true_false e refl
  value_refers (operation Minus x y) k e = true_false e refl
  value_refers (operation Smaller x y) k e =
      smaller_refers _ _ _ (value_refers x k.0.0 (k.0.1 ∙ e)) (value_refers y k.1.0 (k.1.1 ∙ e))

  -- and what a rule writes to a reference
  written : (r : Rule) → RulePasses s r → Change s (target_field r.target) (stored_over (value read r.expression))
  written r k = record { field = k.field; refers = λ e c h. stored_over_refers _ _ c (value_refers r.expression k.expression (sym k.alike ∙ e)) h }

  -- what a local rule stores, one rule, and rules in order
  assign_refers : (u : ℕ) (t : Target) (x : Reading) → Change s (target_field t) (stored_over x) → (cells : List Cell) → Refers s cells
      → Refers s (assign s u t x cells)
  unfolding assign target_field
  assign_refers u (own f) x w cells h = change_refers s lim w u cells h
  assign_refers u (remote k f c) x w cells h = h

  local_rule_refers : (u : ℕ) (r : Rule) → RulePasses s r → (cells : List Cell) → Refers s cells → Refers s (local_rule s read u r cells)
  unfolding local_rule
  local_rule_refers u r k cells h = cond_both (Refers s) (holds read r.test) _ _ (assign_refers u r.target _ (written r k) cells h) h

  local_rules_refers : (u : ℕ) (rs : List Rule) → Each (RulePasses s) rs → (cells : List Cell) → Refers s cells → Refers s (local_rules s read u rs cells)
  unfolding local_rules
  local_rules_refers u [] k cells h = h
  local_rules_refers u (r ∷ rs) k cells h = local_rules_refers u rs k.1 _ (local_rule_refers u r k.0 cells h)

  -- the messages to a target, of a rule, and of rules
  sent_by_sound : (t : Target) (x : Reading) → TargetPasses s t → Change s (target_field t) (stored_over x) → Each (Sound s) (sent_by read t x)
  unfolding sent_by target_field
  sent_by_sound (own f) x p w = tt
  sent_by_sound (remote k f c) x p w = sent_sound s k f (read c) x p.measure w

  rule_messages_sound : (r : Rule) → RulePasses s r → Each (Sound s) (rule_messages read r)
  unfolding rule_messages
  rule_messages_sound r k = cond_both (Each (Sound s)) (holds read r.test) _ [] (sent_by_sound r.target _ k.target (written r k)) tt

  messages_sound : (rs : List Rule) → Each (RulePasses s) rs → Each (Sound s) (messages read rs)
  unfolding messages
  messages_sound [] k = tt
  messages_sound (r ∷ rs) k = each_append (Sound s) (rule_messages read r) (messages read rs) (rule_messages_sound r k.0) (messages_sound rs k.1)

-- messages delivered
deliver_all_refers : (s : Sizes) → Limits s → (ms : List Message) → Each (Sound s) ms → (cells : List Cell) → Refers s cells → Refers s (deliver_all s cells ms)
unfolding deliver_all deliver
deliver_all_refers s lim [] k cells h = h
deliver_all_refers s lim (m ∷ ms) k cells h = deliver_all_refers s lim ms k.1 _ (change_refers s lim k.0 m.target cells h)

-- all records: the local rules, then the messages
module _ (s : Sizes) (lim : Limits s) (read : ℕ → List ℕ → Reading) (rs : List Rule) (k : Each (RulePasses s) rs) where
  abbrev Within : ℕ → Type 0
  Within n = (u : ℕ) (w : List ℕ) → u < n → Passes s w → is_reference_word w ≡ true → refers_to s.records (read u w) ≡ true

  local_records_refers : (n : ℕ) → Within n → (cells : List Cell) → Refers s cells → Refers s (local_records s read rs n cells)
  unfolding local_records
  local_records_refers zero w cells h = h
  local_records_refers (suc n) w cells h =
      local_rules_refers s lim (read n) (λ v. w n v (omega arith)) n rs k _ (local_records_refers n (λ u v l. w u v (omega arith)) cells h)

  record_messages_sound : (n : ℕ) → Within n → Each (Sound s) (record_messages read rs n)
  unfolding record_messages
  record_messages_sound zero w = tt
  record_messages_sound (suc n) w =
      each_append (Sound s) (record_messages read rs n) (messages (read n) rs)
      (record_messages_sound n (λ u v l. w u v (omega arith)))
      (messages_sound s lim (read n) (λ v. w n v (omega arith)) rs k)

-- the cells behind a step
pub step_cells-valid : {s : Sizes} {cells : List Cell} → Valid s cells → {rs : List Rule} → RulesPass s rs → (read : ℕ → List ℕ → Reading)
    → ((u : ℕ) (w : List ℕ) → u < s.records → Passes s w → is_reference_word w ≡ true → refers_to s.records (read u w) ≡ true)
    → offence s read rs cells ≡ none → Valid s (step_cells s read rs cells)
unfolding step_cells
step_cells-valid {s} {cells} v {rs} k read within go_on = record {
  limits = v.limits;
  count = step_cells-length s read rs cells ∙ v.count;
  values = λ j. in_range-fits _ (in_range_each s read rs cells go_on v.count j);
  references =
      deliver_all_refers s v.limits _ (record_messages_sound s v.limits read rs k.each s.records within) _
      (local_records_refers s v.limits read rs k.each s.records within cells v.references);
}
