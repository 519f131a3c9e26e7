-- Messages are retained, exchange by exchange, and so their number never falls.
use Rattle.std.specs.Prelude.{None, Some}
use Prim.Native.Nat.{ℕ, zero, suc, ◌≤◌}
use mathlib.Core.Path.{refl}
use mathlib.Core.Bool.{Bool, true, false, cond}
use mathlib.Core.List.{List, [], ◌∷◌}
use native.Mathlib.Omega.{arith}
use lib.Dec.{ltb, eqb}
use lib.IntN.{nat_abs}
use Rattle.register.specs.declared.Sizes.{Sizes}
use Rattle.register.specs.declared.cells.Cell.{Cell}
use Rattle.chain.specs.Reading.{Reading}
use Rattle.plan_theory.specs.Plan.{Fact, read, hops, back_need, round, line}
use Rattle.program.specs.Program.{Rule, readings, step_plan}
use Rattle.machine_messages.specs.Held.{Held, knows, writer, needed, written, sent, held_after}
use Rattle.machine_messages.specs.Counts.{most_rounds, held_in, is_sent, line_messages, plan_messages}
use Rattle.fuller.specs.Fuller.{Retained, Fuller}
use Rattle.fuller.specs.Claims.{MessagesRetained}
use Rattle.fuller.proofs.Readings.{cell_retained}

-- one of two that are both retained
cond_retained : (b : Bool) (x x' y y' : Reading) → Retained x x' → Retained y y' → Retained (cond b x y) (cond b x' y')
cond_retained true x x' y y' h k = h
cond_retained false x x' y y' h k = k

-- every message that is held, for every fact and origin
abbrev HeldRetained : Held → Held → Type 0
HeldRetained held held' = (f : Fact) (u : ℕ) → Retained (held f u) (held' f u)

module _ (s : Sizes) {cells cells' : List Cell} (fuller : Fuller cells cells') where
  module _ (held held' : Held) (h : HeldRetained held held') where
    -- what a record knows
    knows_retained : (v : ℕ) (w : List ℕ) → Retained (knows s cells held v w) (knows s cells' held' v w)
    unfolding knows
    knows_retained v [] = refl
    knows_retained v (f ∷ []) = cell_retained s fuller v f
    knows_retained v (f ∷ g ∷ w) = h (read (f ∷ g ∷ w)) v

    -- the same writer writes, and the same
    writer_retained : (f : Fact) (u : ℕ) → Retained (writer held f u) (writer held' f u)
    unfolding writer
    writer_retained f u = cond_retained (ltb (hops f) 2) _ _ _ _ refl (h (back_need f) u)

    written_retained : (f : Fact) (x y : Reading) → Retained x y → Retained (written s cells held f x) (written s cells' held' f y)
    unfolding written
    written_retained f None y r = tt
    written_retained f (Some v) y r = rw r (knows_retained (nat_abs v) (needed f))

    sent_retained : HeldRetained (sent s cells held) (sent s cells' held')
    unfolding sent
    sent_retained f u = written_retained f (writer held f u) (writer held' f u) (writer_retained f u)

  -- after every round
  pub held_retained : (t : ℕ) → HeldRetained (held_after s cells t) (held_after s cells' t)
  unfolding held_after
  held_retained zero f u = tt
  held_retained (suc t) f u =
      cond_retained (eqb (round f) (suc t)) _ _ _ _ (sent_retained _ _ (held_retained t) f u) (held_retained t f u)

-- one for one
sent-most : (x y : Reading) → Retained x y → is_sent x ≤ is_sent y
sent-most None y r = omega arith
sent-most (Some z) y r = rw r (omega arith)

line-most : (held held' : ℕ → Reading) → ((u : ℕ) → Retained (held u) (held' u)) → (n : ℕ) → line_messages held n ≤ line_messages held' n
unfolding line_messages
line-most held held' h zero = omega arith
line-most held held' h (suc n) = omega (arith, line-most held held' h n, sent-most (held n) (held' n) (h n))

plan-most : (held held' : Held) → HeldRetained held held' → (l : List Fact) (n : ℕ) → plan_messages held l n ≤ plan_messages held' l n
unfolding plan_messages
plan-most held held' h [] n = omega arith
plan-most held held' h (f ∷ l) n = omega (arith, line-most (held f) (held' f) (h f) n, plan-most held held' h l n)

-- the lines of every plan
pub messages_retained : (s : Sizes) {cells cells' : List Cell} → Fuller cells cells' → (l : List Fact) → MessagesRetained s cells cells' l
messages_retained s fuller l =
    record {
      sent = λ t i u hi hu. held_retained s fuller t (line l i) u;
      line_count = λ t i hi. line-most _ _ (held_retained s fuller t (line l i)) s.records;
      plan_count = λ t. plan-most _ _ (held_retained s fuller t) l s.records;
    }

-- the messages of its plan that a step counts
pub step-most : (s : Sizes) {cells cells' : List Cell} → Fuller cells cells' → (rs : List Rule)
    → plan_messages (held_in s rs cells) (step_plan rs) s.records ≤ plan_messages (held_in s rs cells') (step_plan rs) s.records
unfolding held_in
step-most s fuller rs = (messages_retained s fuller (step_plan rs)).plan_count (most_rounds (readings rs))
