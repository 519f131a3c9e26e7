-- A step leaves every column that its rules do not write as it is.
use Rattle.std.specs.Prelude.{None, Some}
use Prim.Native.Nat.{ℕ, zero, suc, ◌<◌}
use mathlib.Core.Path.{◌≡◌, refl, sym, ap, ◌∙◌}
use mathlib.Core.Logic.{◌≢◌}
use mathlib.Core.Bool.{false}
use mathlib.Core.List.{List, [], ◌∷◌}
use borrow.Author.Tests.{eq-eqb}
use lib.Dec.{eqb}
use lib.ListN.{get_or, set as put}
use lib.Seq.{get_or-set_other}
use Rattle.laws.proofs.Bools.{or-neither, true_false, cond_both}
use Rattle.register.specs.File.{width, cell_index}
use Rattle.register.specs.Shape.{Limits}
use Rattle.register.specs.declared.Sizes.{Sizes}
use Rattle.register.specs.declared.cells.Cell.{Cell}
use Rattle.register.specs.declared.cells.Cell.TheVariants.{Missing as Unfilled}
use Rattle.chain.specs.Reading.{Reading}
use Rattle.chain.specs.Word.{column, field_at}
use Rattle.chain.proofs.Following.{column-below, field-column}
use Rattle.program.specs.declared.rule.Sort.{Sort}
use Rattle.program.specs.Program.{Target, own, remote, Rule, target_field, writes, some_target}
use Rattle.laws.specs.Lists.{Each}
use Rattle.program.specs.Passed.{RulePasses}
use Rattle.laws.proofs.Lists.{each_append}
use Rattle.machine.specs.declared.message.Message.{Message}
use Rattle.machine.specs.Value.{both, value, holds}
use Rattle.machine.specs.Local.{assign, local_rule, local_rules, local_records}
use Rattle.machine.specs.Remote.{sent_to, sent_by, rule_messages, messages, record_messages, deliver, deliver_all}
use Rattle.machine.specs.Step.{step_cells}
use Rattle.machine.proofs.Refers.{place-column}

-- a field that stands in another column than c
record Elsewhere (s : Sizes) (c f : ℕ) : Type 0 where
  below : column s f < width s
  other : column s f ≢ c

abbrev AllElsewhere : Sizes → ℕ → List Rule → Type 0
AllElsewhere s c rs = Each (λ (r : Rule). Elsewhere s c (target_field r.target)) rs

abbrev SentElsewhere : Sizes → ℕ → List Message → Type 0
SentElsewhere s c ms = Each (λ (m : Message). Elsewhere s c m.field) ms

-- the messages of such rules go to other columns
module _ (s : Sizes) (c : ℕ) where
  sent_elsewhere : (k : Sort) (f : ℕ) (d x : Reading) → Elsewhere s c f → SentElsewhere s c (sent_to k f d x)
  unfolding sent_to both
  sent_elsewhere k f None x e = tt
  sent_elsewhere k f (Some v) None e = tt
  sent_elsewhere k f (Some v) (Some a) e = (e, tt)

  module _ (read : List ℕ → Reading) where
    target_elsewhere : (t : Target) (x : Reading) → Elsewhere s c (target_field t) → SentElsewhere s c (sent_by read t x)
    unfolding sent_by target_field
    target_elsewhere (own f) x e = tt
    target_elsewhere (remote k f d) x e = sent_elsewhere k f (read d) x e

    messages_elsewhere : (rs : List Rule) → AllElsewhere s c rs → SentElsewhere s c (messages read rs)
    unfolding messages rule_messages
    messages_elsewhere [] e = tt
    messages_elsewhere (r ∷ rs) e =
        each_append (λ (m : Message). Elsewhere s c m.field) (rule_messages read r) (messages read rs)
        (cond_both (SentElsewhere s c) (holds read r.test) _ [] (target_elsewhere r.target (value read r.expression) e.0) tt)
        (messages_elsewhere rs e.1)

  records_elsewhere : (read : ℕ → List ℕ → Reading) (rs : List Rule) (n : ℕ) → AllElsewhere s c rs → SentElsewhere s c (record_messages read rs n)
  unfolding record_messages
  records_elsewhere read rs zero e = tt
  records_elsewhere read rs (suc n) e =
      each_append (λ (m : Message). Elsewhere s c m.field) (record_messages read rs n) (messages (read n) rs)
      (records_elsewhere read rs n e) (messages_elsewhere (read n) rs e)

-- the cell of record u in column c
module _ (s : Sizes) (c : ℕ) (b : c < width s) (u : ℕ) where
  abbrev here : List Cell → Cell
  here cells = get_or cells (cell_index s u c) Unfilled

  put-here : (cells : List Cell) (v f : ℕ) (x : Cell) → Elsewhere s c f → here (put cells (cell_index s v (column s f)) x) ≡ here cells
  put-here cells v f x e =
      get_or-set_other cells (cell_index s v (column s f)) (cell_index s u c) x Unfilled (λ q. e.other (sym (place-column s u v c (column s f) b e.below q)))

  -- stays through the local rules
  assign-here : (v : ℕ) (t : Target) (x : Reading) (cells : List Cell) → Elsewhere s c (target_field t) → here (assign s v t x cells) ≡ here cells
  unfolding assign target_field
  assign-here v (own f) x cells e = put-here cells v f _ e
  assign-here v (remote k f d) x cells e = refl

  local-here : (read : List ℕ → Reading) (v : ℕ) (rs : List Rule) (cells : List Cell) → AllElsewhere s c rs → here (local_rules s read v rs cells) ≡ here cells
  unfolding local_rules local_rule
  local-here read v [] cells e = refl
  local-here read v (r ∷ rs) cells e =
      local-here read v rs (local_rule s read v r cells) e.1
      ∙ cond_both (λ (l : List Cell). here l ≡ here cells) (holds read r.test) _ cells
      (assign-here v r.target (value read r.expression) cells e.0) refl

  records-here : (read : ℕ → List ℕ → Reading) (rs : List Rule) (n : ℕ) (cells : List Cell) → AllElsewhere s c rs
      → here (local_records s read rs n cells) ≡ here cells
  unfolding local_records
  records-here read rs zero cells e = refl
  records-here read rs (suc n) cells e = local-here (read n) n rs (local_records s read rs n cells) e ∙ records-here read rs n cells e

  -- and through the remote writes
  deliver-here : (ms : List Message) (cells : List Cell) → SentElsewhere s c ms → here (deliver_all s cells ms) ≡ here cells
  unfolding deliver_all deliver
  deliver-here [] cells e = refl
  deliver-here (m ∷ ms) cells e = deliver-here ms (deliver s cells m) e.1 ∙ put-here cells m.target m.field _ e.0

  step-here : (read : ℕ → List ℕ → Reading) (rs : List Rule) (cells : List Cell) → AllElsewhere s c rs → here (step_cells s read rs cells) ≡ here cells
  unfolding step_cells
  step-here read rs cells e =
      let n = s.records in
      deliver-here (record_messages read rs n) (local_records s read rs n cells) (records_elsewhere s c read rs n e) ∙ records-here read rs n cells e

-- no rule writes the field of column c
unwritten : (s : Sizes) → Limits s → (c : ℕ) (rs : List Rule) → Each (RulePasses s) rs → some_target (writes (field_at s c)) rs ≡ false → AllElsewhere s c rs
unfolding some_target writes
unwritten s lim c [] k n = tt
unwritten s lim c (r ∷ rs) k n =
    let f = target_field r.target in
    let field = k.0.field in
    let not = or-neither (eqb (field_at s c) f) (some_target (writes (field_at s c)) rs) n in (
      record {
        below = column-below s lim f field;
        other = λ e. true_false {A = ⊥} (eq-eqb (field_at s c) f (ap (field_at s) (sym e) ∙ field-column s lim f field)) not.0;
      },
      unwritten s lim c rs k.1 not.1,
    )

-- so the step leaves it as it is
pub step_untouched : (s : Sizes) → Limits s → (read : ℕ → List ℕ → Reading) (rs : List Rule) (cells : List Cell) → Each (RulePasses s) rs
    → (u c : ℕ) → c < width s
    → some_target (writes (field_at s c)) rs ≡ false → get_or (step_cells s read rs cells) (cell_index s u c) Unfilled ≡ get_or cells (cell_index s u c) Unfilled
step_untouched s lim read rs cells k u c b n = step-here s c b u read rs cells (unwritten s lim c rs k n)
