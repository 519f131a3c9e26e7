-- The messages of a line that leads from record to record are records.
use Rattle.std.specs.Prelude.{None, Some}
use Prim.Native.Nat.{ℕ, zero, suc, ◌<◌}
use mathlib.Core.Path.{◌≡◌, refl}
use mathlib.Core.Bool.{Bool, true, false, cond}
use mathlib.Core.List.{List}
use native.Mathlib.Omega.{arith}
use lib.Dec.{eqb}
use lib.IntN.{pos, nat_abs}
use Rattle.integers.proofs.Complement.{index_is}
use Rattle.register.specs.Shape.{Valid}
use Rattle.register.specs.declared.Sizes.{Sizes}
use Rattle.register.specs.declared.cells.Cell.{Cell}
use Rattle.chain.specs.Reading.{Reading}
use Rattle.chain.specs.Word.{hop, read_cell, refers_to}
use Rattle.chain.proofs.Following.{own_refers, hop_refers}
use Rattle.plan_lines.specs.Held.{line_at}
use Rattle.plan_lines.specs.Promised.{fact_at}
use Rattle.plan_lines.specs.declared.Plan.{Plan}
use Rattle.gather_line.specs.Written.{ByLine, known_at, writer_at, written_at, message_at}
use Rattle.gather_line.proofs.Writing.{none-or-line, known_own, known-told, writer_refers}
use Rattle.gather_exchanges.specs.Lines.{field_of, LinesReady, LineStands}
use Rattle.gather_exchanges.specs.Exchanged.{sent_by, held_to}

-- a record's own reference
cell_refers : {s : Sizes} {cells : List Cell} → Valid s cells → (v f : ℕ) → f < s.references → v < s.records
    → refers_to s.records (read_cell s cells v f) ≡ true
unfolding hop
cell_refers valid v f l h = hop_refers valid (Some (pos v)) f l (own_refers _ v h)

module _ {s : Sizes} {cells : List Cell} {p : Plan} (valid : Valid s cells) (lines : LinesReady s p) where
  -- what is held for such lines is missing or a record
  abbrev Refers : ByLine → Type 0
  Refers held = (i u : ℕ) → i < p.count → u < s.records → lines.leads i ≡ true → refers_to s.records (held i u) ≡ true

  -- so is what is sent over it
  module _ (held : ByLine) (refer : Refers held) (i : ℕ) (b : i < p.count) where
    abbrev stands : LineStands s p lines.leads i
    stands = lines.each i b

    pub sender_refers : (u : ℕ) → u < s.records → refers_to s.records (writer_at held (line_at p i).back u) ≡ true
    sender_refers u h =
        writer_refers held _ u s.records (λ e. refer _ u (omega (arith, (stands.back_line e).before)) h (stands.back_leads e)) h

    module _ (leads : lines.leads i ≡ true) where
      known_refers : (v : ℕ) → v < s.records → refers_to s.records (known_at s cells held (line_at p i).read (field_of (fact_at p i)) v) ≡ true
      known_refers v h =
          none-or-line (line_at p i).read
          (λ e. rw (← known_own s cells held _ _ v e) (cell_refers valid v _ (stands.own_leads leads e) h))
          (λ e. rw (← known-told s cells held _ _ v e) (refer _ v (omega (arith, (stands.read_line e).before)) h (stands.read_leads leads e)))

      written_refers : (x : Reading) → refers_to s.records x ≡ true
          → refers_to s.records (written_at s cells held (line_at p i).read (field_of (fact_at p i)) x) ≡ true
      unfolding written_at refers_to
      written_refers None r = refl
      written_refers (Some z) r = known_refers (nat_abs z) (index_is s.records z r).1

      sent_refers : (u : ℕ) → u < s.records → refers_to s.records (sent_by s cells p held i u) ≡ true
      unfolding sent_by message_at
      sent_refers u h = written_refers (writer_at held (line_at p i).back u) (sender_refers u h)

  -- so it is after any number of exchanges
  pub held_refers : (t : ℕ) → Refers (held_to s cells p t)
  unfolding held_to refers_to
  held_refers zero i u b h l = refl
  held_refers (suc t) i u b h l = go (held_refers t) (eqb (line_at p i).round (suc t))
    where
      go : Refers (held_to s cells p t) → (c : Bool) → refers_to s.records (cond c (sent_by s cells p (held_to s cells p t) i u) (held_to s cells p t i u)) ≡ true
      go r true = sent_refers (held_to s cells p t) r i b l u h
      go r false = r i u b h l
