-- The remote writes of a step, record by record and rule by rule: what the working cells hold so far.
use Rattle.std.specs.Prelude.{Option, None, Some}
use Prim.Native.Nat.{ℕ, suc, ◌+◌, ◌≤◌, ◌<◌}
use mathlib.Core.Path.{◌≡◌, sym, ap, ap₂, subst, ◌∙◌}
use mathlib.Core.Bool.{true, false}
use mathlib.Core.List.{List, [], ◌∷◌, ◌++◌}
use native.Mathlib.Omega.{arith}
use lib.Dec.{T}
use lib.IntN.{ℤ, pos, negsuc, nat_abs}
use lib.ListN.{length, get_or, set, take, length-append}
use mir.Syntax.{w32}
use mir.Val.{SFits}
use lib.Signed.{non_neg}
use Rattle.integers.proofs.Complement.{index_is}
use Rattle.register.specs.Cells.{cells_of}
use Rattle.register.specs.File.{cell_count, cell_index, values_part, marks_part, cells_of_file}
use Rattle.register.specs.Shape.{Limits}
use Rattle.register.specs.View.{cells_in}
use Rattle.register.specs.declared.cells.Cells.{Cells}
use Rattle.register.specs.declared.Sizes.{Sizes}
use Rattle.register.specs.declared.cells.Cell.{Cell}
use Rattle.register.proofs.Bounds.{cell_index-below}
use Rattle.chain.specs.Reading.{Reading}
use Rattle.chain.specs.Word.{has_field, column, refers_to}
use Rattle.chain.proofs.Following.{column-below}
use Rattle.program.specs.declared.location.Located.{Located}
use Rattle.program.specs.declared.location.Places.{Places}
use Rattle.program.specs.declared.rule.Rule as D
use Rattle.program.specs.declared.rule.Rule.TheVariants.{Set, Combine, Remote}
use Rattle.program.specs.Program.{Rule, has_remote}
use Rattle.program.specs.Stored.{rules_in}
use Rattle.machine.specs.declared.message.Message.{Message}
use Rattle.machine.specs.Remote.{rule_messages, messages, record_messages, merged, deliver, deliver_all}
use Rattle.machine.proofs.Folding.{record_messages-local, messages-more, deliver_all-append, deliver_all-length}
use Rattle.scratch.specs.Places.{stored_at}
use Rattle.step_terms.specs.Found.{TargetFound, Within, Names}
use Rattle.step_effects.specs.Answers.{messages_in, GoesTo}
use Rattle.step_cells.specs.Work.{Room, HoldsCells, Put, Small}
use Rattle.step_rules.specs.Ready.{RuleAgrees}
use Rattle.step_rules.specs.Delivered.{Addresses, Delivers, Delivered, RuleSends, AllSend}
use Rattle.step_cells.proofs.Working.{same_refl, same_then, same-put, holds-put, held_at, small_put}
use Rattle.step_rules.proofs.Locals.{rule_at, rules-more, all_at, in_range-at}
use Rattle.step_cells.proofs.Merging.{merged-below}

-- the cells of a file that are lent are its cells
pub cells_as : (s : Sizes) (file : List ℕ) (c : Cells) → c.values.now ≡ values_part s file → c.marks.now ≡ marks_part s file → cells_in c ≡ cells_of_file s file
unfolding cells_of_file cells_in
cells_as s file c e q = ap₂ cells_of e q

-- a target within the register names a record
within-names : (n : ℕ) (x : Reading) → Within n x → Names x
unfolding refers_to
within-names n None h = tt
within-names n (Some z) h = go z (index_is n z h).0
  where
    go : (z : ℤ) → z ≡ pos (nat_abs z) → T (non_neg z)
    go (pos k) e = tt
    go (negsuc k) e = absurd (let z : ◌≡◌ {A = ℕ} 0 1 = cc in omega arith)

pub target-names : (n : ℕ) (s : Sizes) (cells : List Cell) (values : List ℤ) (marks : List ℕ) (u : ℕ) (p : Places) (r : D.Rule)
    → TargetFound (Within n) s cells values marks u p r → TargetFound Names s cells values marks u p r
target-names n s cells values marks u p (Set f x) h = tt
target-names n s cells values marks u p (Combine f op x y) h = tt
target-names n s cells values marks u p (Remote sort f c x) h = within-names n _ h

-- a message goes to a cell of the register
pub goes_addresses : (s : Sizes) (f : ℕ) → has_field s f ≡ true → (W : ℕ → Type 0) → W s.records → (x : Option Message) → GoesTo f W x → Addresses s x
goes_addresses s f h W w None e = tt
goes_addresses s f h W w (Some m) e = (e.1 s.records w, ap (has_field s) e.0 ∙ h)

pub message-below : (s : Sizes) (m : Message) → Limits s → Addresses s (Some m) → cell_index s m.target (column s m.field) < cell_count s
message-below s m limits (target, field) = cell_index-below s m.target (column s m.field) target (column-below s limits m.field field)

pub at_most_one : (x : Option Message) → length (messages_in x) ≤ 1
unfolding messages_in
at_most_one None = omega arith
at_most_one (Some m) = omega arith

-- a larger bound
pub small-within : {b b' base k : ℕ} {values : List ℤ} {marks : List ℕ} → b ≤ b' → Small b base k values marks → Small b' base k values marks
small-within l h = record { below = λ j q. omega (arith, h.below j q) }

-- nothing is delivered
pub delivers_none : {s : Sizes} {base n : ℕ} {values : List ℤ} {marks : List ℕ} → Delivers s base [] values marks values marks n n
unfolding deliver_all
delivers_none = record { same = same_refl; holds = λ d l h. h; sent_is = omega arith; small = λ b h. small-within (omega arith) h }

-- one message, to a place of the working cells
pub delivers_one : (s : Sizes) (base : ℕ) {values values' : List ℤ} {marks marks' : List ℕ} {m : Message} {j n : ℕ} {z : ℤ}
    → cell_index s m.target (column s m.field) < cell_count s
    → Room base (cell_count s) values marks → SFits w32 m.amount → j ≡ base + cell_index s m.target (column s m.field) → z ≡ m.amount
    → Put j (merged m.sort (stored_at values marks j) z) values marks values' marks'
    → Delivers s base (m ∷ []) values marks values' marks' n (n + 1)
unfolding deliver_all deliver
delivers_one s base {values} {values'} {marks} {marks'} {m} {j} below room fits at q p =
    let k = cell_index s m.target (column s m.field) in
    let there : ℕ → Cell = λ i. merged m.sort (stored_at values marks i) m.amount in
    let p' : Put (base + k) (there (base + k)) values marks values' marks' =
    subst (λ (i : ℕ). Put i (there i) values marks values' marks') at
    (subst (λ (z : ℤ). Put j (merged m.sort (stored_at values marks j) z) values marks values' marks') q p) in
    record {
      same = same-put base k p';
      holds = λ d l h.
          subst (λ (c : Cell). HoldsCells base (set d k (merged m.sort c m.amount)) values' marks') (held_at h k (omega arith))
          (holds-put base k p' room below l h);
      sent_is = omega arith;
      small = λ b h.
          small_put base k p' room below (merged-below m.sort (stored_at values marks (base + k)) m.amount fits (h.below k below)) (omega arith) h;
    }

-- more behind it
delivers_then : {s : Sizes} {base n n' n'' : ℕ} {ms ns : List Message} {values values' values'' : List ℤ} {marks marks' marks'' : List ℕ}
    → Delivers s base ms values marks values' marks' n n' → Delivers s base ns values' marks' values'' marks'' n' n''
    → Delivers s base (ms ++ ns) values marks values'' marks'' n n''
delivers_then {s} {base} {ms = ms} {ns} {values'' = values''} {marks'' = marks''} a c = record {
  same = same_then a.same c.same;
  holds = λ d l h.
      subst (λ (cs : List Cell). HoldsCells base cs values'' marks'') (sym (deliver_all-append s d ms ns))
      (c.holds (deliver_all s d ms) (deliver_all-length s d ms ∙ l) (a.holds d l h));
  sent_is = omega (arith, a.sent_is, c.sent_is, length-append ms ns);
  small = λ b h. small-within (omega (arith, length-append ms ns)) (c.small _ (a.small b h));
}

-- under the names that a later state has
pub delivered_as : {s : Sizes} {base : ℕ} {Tells : List Message → Type 0} {values values' values'' : List ℤ} {marks marks' marks'' : List ℕ} {n n' n'' : ℕ}
    → Delivered s base Tells values marks values' marks' n n' → values'' ≡ values' → marks'' ≡ marks' → n'' ≡ n' → Delivered s base Tells values marks values'' marks'' n n''
delivered_as d v m q = rw (v, m, q) d

-- at most b messages of rules of a step are delivered, which every reader tells that agrees with the places
module _ (s : Sizes) (cells : List Cell) (base : ℕ) (codes : List ℕ) (count : ℕ) (rules : List Located) where
  abbrev pub SendsBy : ((ℕ → List ℕ → Reading) → List Message) → ℕ → List ℤ → List ℕ → List ℤ → List ℕ → ℕ → ℕ → Type 0
  SendsBy told b values marks values' marks' n n' =
      Delivered s base (λ ms. (length ms ≤ b) × AllSend s cells values marks base codes count rules told ms) values marks values' marks' n n'

  pub sends_none : (told : (ℕ → List ℕ → Reading) → List Message) → ((read : ℕ → List ℕ → Reading) → [] ≡ told read)
      → {b n : ℕ} {values : List ℤ} {marks : List ℕ} → SendsBy told b values marks values marks n n
  sends_none told e = record { messages = []; tells = (omega arith, λ read agrees in_range. e read); delivers = delivers_none }

  module _ {told : (ℕ → List ℕ → Reading) → List Message} {b n n' : ℕ} {values values' : List ℤ} {marks marks' : List ℕ}
      (t : SendsBy told b values marks values' marks' n n') where
    -- more behind it, which may have another name
    pub sends_then : {told' : (ℕ → List ℕ → Reading) → List Message} {c n'' : ℕ} {values'' : List ℤ} {marks'' : List ℕ}
        → SendsBy told' c values' marks' values'' marks'' n' n''
        → (all : (ℕ → List ℕ → Reading) → List Message) → ((read : ℕ → List ℕ → Reading) → told read ++ told' read ≡ all read)
        → {d : ℕ} → b + c ≤ d → SendsBy all d values marks values'' marks'' n n''
    sends_then r all e l =
        let same = t.delivers.same in
        record {
          messages = t.messages ++ r.messages;
          tells = (
            omega (arith, t.tells.0, r.tells.0, length-append t.messages r.messages),
            λ read agrees in_range.
                ap₂ (λ (ms ns : List Message). ms ++ ns) (t.tells.1 read agrees in_range)
                (r.tells.1 read (rw (same.values_same, same.marks_same) agrees) in_range)
                ∙ e read,
          );
          delivers = delivers_then t.delivers r.delivers;
        }

  -- rule k at record u
  pub sends_rule : (k u : ℕ) (x : Located) → k < length rules → k < count → u < s.records
      → {values values' : List ℤ} {marks marks' : List ℕ} {n n' : ℕ}
      → Delivered s base (RuleSends s cells values marks base u codes (get_or rules k x)) values marks values' marks' n n'
      → SendsBy (λ read. rule_messages (read u) (rule_at codes (get_or rules k x))) 1 values marks values' marks' n n'
  sends_rule k u x h l row {values} {marks = marks} d = record {
    messages = d.messages;
    tells = (
      d.tells.0,
      λ read agrees in_range.
          d.tells.1 (read u) (all_at codes rules k x h (RuleAgrees s cells (take base values) (take base marks) codes read) l agrees u row)
          (in_range-at codes rules k x h s (read u) l (in_range u row)),
    );
    delivers = d.delivers;
  }

  pub rules-then : (k u : ℕ) (x : Located) → k < length rules → (read : ℕ → List ℕ → Reading) → {k' : ℕ} → k' ≡ suc k
      → messages (read u) (rules_in codes k rules) ++ rule_messages (read u) (rule_at codes (get_or rules k x)) ≡ messages (read u) (rules_in codes k' rules)
  rules-then k u x h read q = rw (q, rules-more codes rules k x h) (sym (messages-more (read u) (rules_in codes k rules) (rule_at codes (get_or rules k x))))

-- no rule is remote
pub silent_step : (s : Sizes) (read : ℕ → List ℕ → Reading) (rs : List Rule) {base : ℕ} {values : List ℤ} {marks : List ℕ} → has_remote rs ≡ false
    → Delivers s base (record_messages read rs s.records) values marks values marks 0 0
silent_step s read rs {base} {values} {marks} e =
    subst (λ (ms : List Message). Delivers s base ms values marks values marks 0 0) (sym (record_messages-local read rs s.records e)) delivers_none
