-- Readers that agree on the readings of some rules: each law says that a definition of the machine makes the same of them by both.
use Prim.Native.Nat.{ℕ, zero, suc, ◌<◌}
use mathlib.Core.Path.{◌≡◌, refl, ap, ap₂, ◌∙◌}
use mathlib.Core.Bool.{Bool, cond, ◌&&◌, ◌||◌}
use mathlib.Core.List.Memᴰ
use mathlib.Core.List.{List, [], ◌∷◌, ◌++◌, Memᴰ}
use mathlib.Core.Option.{Option, some}
use native.Mathlib.Omega.{arith}
use Rattle.register.specs.declared.Sizes.{Sizes}
use Rattle.register.specs.declared.cells.Cell.{Cell}
use Rattle.chain.specs.Reading.{Reading}
use Rattle.chain.specs.Word.{column}
use Rattle.program.specs.Program.{Expression, reading, constant, operation, Test, always, when, Target, own, remote, Rule, expression_readings, test_readings, target_readings, rule_readings, readings, target_field}
use Rattle.machine.specs.declared.message.Message.{Message}
use Rattle.machine.specs.Value.{combined, value, overflows, compare_readings, holds}
use Rattle.machine.specs.Local.{assign, local_rule, local_rules, local_records, test_overflows, offends, sum_column}
use Rattle.machine.specs.Remote.{sent_to, sent_by, rule_messages, messages, record_messages, deliver_all}
use Rattle.machine.specs.Step.{step_cells, offence}
use Rattle.machine.proofs.Stops.{sum_offence_agree}

-- they read the same at each of these words
abbrev pub Agree : (List ℕ → Reading) → (List ℕ → Reading) → List (List ℕ) → Type 0
Agree read read' ws = (w : List ℕ) → Memᴰ w ws → read w ≡ read' w

-- one record
module _ (read read' : List ℕ → Reading) where
  -- so they do at each part of them
  agree_parts : (vs ws : List (List ℕ)) → Agree read read' (vs ++ ws) → Agree read read' vs × Agree read read' ws
  agree_parts vs ws h = (λ w m. h w (Memᴰ.append_left ws m), λ w m. h w (Memᴰ.append_right vs m))

  -- an expression: the same value, and a sum of it leaves the range by both or by none
  record ExpressionAgree (x : Expression) : Type 0 where
    values : value read x ≡ value read' x
    sums : overflows read x ≡ overflows read' x

  expression_agree : (x : Expression) → Agree read read' (expression_readings x) → ExpressionAgree x
  unfolding expression_readings value overflows
  expression_agree (reading w) h = record { values = h w (Memᴰ.head refl); sums = refl }
  expression_agree (constant z) h = record { values = refl; sums = refl }
  expression_agree (operation op x y) h =
      let (a, b) = agree_parts (expression_readings x) (expression_readings y) h in
      let left = expression_agree x a in
      let right = expression_agree y b in
      let same = ap₂ (combined op) left.values right.values in
      record { values = same; sums = simp (left.sums, right.sums, same) }

  pub value_agree : (x : Expression) → Agree read read' (expression_readings x) → value read x ≡ value read' x
  value_agree x h = (expression_agree x h).values

  pub overflows_agree : (x : Expression) → Agree read read' (expression_readings x) → overflows read x ≡ overflows read' x
  overflows_agree x h = (expression_agree x h).sums

  -- a test
  pub holds_agree : (t : Test) → Agree read read' (test_readings t) → holds read t ≡ holds read' t
  unfolding test_readings holds
  holds_agree always h = refl
  holds_agree (when x c y) h =
      let (a, b) = agree_parts (expression_readings x) (expression_readings y) h in
      ap₂ (compare_readings c) (value_agree x a) (value_agree y b)

  pub test_overflows_agree : (t : Test) → Agree read read' (test_readings t) → test_overflows read t ≡ test_overflows read' t
  unfolding test_readings test_overflows
  test_overflows_agree always h = refl
  test_overflows_agree (when x c y) h =
      let (a, b) = agree_parts (expression_readings x) (expression_readings y) h in
      ap₂ ◌||◌ (overflows_agree x a) (overflows_agree y b)

  -- what is sent to a target
  sent_by_agree : (t : Target) (x : Reading) → Agree read read' (target_readings t) → sent_by read t x ≡ sent_by read' t x
  unfolding target_readings sent_by
  sent_by_agree (own f) x h = refl
  sent_by_agree (remote k f c) x h = ap (λ (d : Reading). sent_to k f d x) (h c (Memᴰ.head refl))

  -- a rule: its test holds and a sum of it leaves the range by both or by none, and they agree on the readings of its target and of its expression
  record RuleAgree (r : Rule) : Type 0 where
    test : holds read r.test ≡ holds read' r.test
    sums : test_overflows read r.test ≡ test_overflows read' r.test
    target : Agree read read' (target_readings r.target)
    expression : Agree read read' (expression_readings r.expression)

  rule_agree : (r : Rule) → Agree read read' (rule_readings r) → RuleAgree r
  unfolding rule_readings
  rule_agree r h =
      let (a, b) = agree_parts (test_readings r.test) (target_readings r.target ++ expression_readings r.expression) h in
      let (c, d) = agree_parts (target_readings r.target) (expression_readings r.expression) b in
      record { test = holds_agree r.test a; sums = test_overflows_agree r.test a; target = c; expression = d }

  -- whether a sum of it offends, what it stores, and what it sends
  module _ (r : Rule) (h : Agree read read' (rule_readings r)) where
    pub offends_agree : offends read r ≡ offends read' r
    unfolding offends
    offends_agree =
        let k = rule_agree r h in
        ap₂ ◌||◌ k.sums (ap₂ ◌&&◌ k.test (overflows_agree r.expression k.expression))

    pub local_rule_agree : (s : Sizes) (u : ℕ) (cells : List Cell) → local_rule s read u r cells ≡ local_rule s read' u r cells
    unfolding local_rule
    local_rule_agree s u cells =
        let k = rule_agree r h in
        ap₂ (λ (b : Bool) (x : Reading). cond b (assign s u r.target x cells) cells) k.test (value_agree r.expression k.expression)

    pub rule_messages_agree : rule_messages read r ≡ rule_messages read' r
    unfolding rule_messages
    rule_messages_agree =
        let k = rule_agree r h in
        ap₂ (λ (b : Bool) (ms : List Message). cond b ms []) k.test
        (ap (sent_by read r.target) (value_agree r.expression k.expression) ∙ sent_by_agree r.target _ k.target)

  -- rules in order
  pub local_rules_agree : (rs : List Rule) → Agree read read' (readings rs) → (s : Sizes) (u : ℕ) (cells : List Cell)
      → local_rules s read u rs cells ≡ local_rules s read' u rs cells
  unfolding local_rules readings
  local_rules_agree [] h s u cells = refl
  local_rules_agree (r ∷ rs) h s u cells =
      let (a, b) = agree_parts (rule_readings r) (readings rs) h in
      ap (local_rules s read u rs) (local_rule_agree r a s u cells) ∙ local_rules_agree rs b s u _

  pub sum_column_agree : (rs : List Rule) → Agree read read' (readings rs) → (s : Sizes) → sum_column s read rs ≡ sum_column s read' rs
  unfolding sum_column readings
  sum_column_agree [] h s = refl
  sum_column_agree (r ∷ rs) h s =
      let (a, b) = agree_parts (rule_readings r) (readings rs) h in
      ap₂ (λ (t : Bool) (c : Option ℕ). cond t (some (column s (target_field r.target))) c) (offends_agree r a) (sum_column_agree rs b s)

  pub messages_agree : (rs : List Rule) → Agree read read' (readings rs) → messages read rs ≡ messages read' rs
  unfolding messages readings
  messages_agree [] h = refl
  messages_agree (r ∷ rs) h =
      let (a, b) = agree_parts (rule_readings r) (readings rs) h in
      ap₂ ◌++◌ (rule_messages_agree r a) (messages_agree rs b)

-- all records
module _ (read read' : ℕ → List ℕ → Reading) (rs : List Rule) where
  -- those below n read the same
  abbrev pub AgreeBelow : ℕ → Type 0
  AgreeBelow n = (u : ℕ) → u < n → Agree (read u) (read' u) (readings rs)

  -- their local rules and their messages
  pub local_records_agree : (s : Sizes) (n : ℕ) → AgreeBelow n → (cells : List Cell) → local_records s read rs n cells ≡ local_records s read' rs n cells
  unfolding local_records
  local_records_agree s zero h cells = refl
  local_records_agree s (suc n) h cells =
      ap (local_rules s (read n) n rs) (local_records_agree s n (λ u l. h u (omega arith)) cells)
      ∙ local_rules_agree (read n) (read' n) rs (h n (omega arith)) s n _

  pub record_messages_agree : (n : ℕ) → AgreeBelow n → record_messages read rs n ≡ record_messages read' rs n
  unfolding record_messages
  record_messages_agree zero h = refl
  record_messages_agree (suc n) h =
      ap₂ ◌++◌ (record_messages_agree n (λ u l. h u (omega arith))) (messages_agree (read n) (read' n) rs (h n (omega arith)))

  -- a step: its cells, and where it stops
  module _ (s : Sizes) (h : AgreeBelow s.records) (cells : List Cell) where
    pub step_cells_agree : step_cells s read rs cells ≡ step_cells s read' rs cells
    unfolding step_cells
    step_cells_agree = ap₂ (deliver_all s) (local_records_agree s s.records h cells) (record_messages_agree s.records h)

    pub offence_agree : offence s read rs cells ≡ offence s read' rs cells
    unfolding offence
    offence_agree =
        rw (sum_offence_agree s read read' rs (λ u row. sum_column_agree (read u) (read' u) rs (h u row) s), step_cells_agree) refl
