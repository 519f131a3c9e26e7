-- One turn of an exchange: a line of its round, whose needs the places hold and whose messages are sent.
use Prim.Native.Nat.{ℕ, ◌+◌, ◌*◌, ◌≤◌, ◌<◌}
use mathlib.Core.Path.{◌≡◌, sym, ◌∙◌}
use mathlib.Core.List.{List}
use mathlib.Core.Logic.{◌≢◌}
use native.Mathlib.Nat.{mul-le-mul_right}
use native.Mathlib.Omega.{arith}
use lib.IntN.{ℤ}
use Rattle.register.specs.Shape.{Valid}
use Rattle.register.specs.declared.Sizes.{Sizes}
use Rattle.register.specs.declared.cells.Cell.{Cell}
use Rattle.chain.specs.Reading.{Reading}
use Rattle.plan_lines.specs.Held.{line_at}
use Rattle.plan_lines.specs.Promised.{fact_at}
use Rattle.plan_lines.specs.declared.Plan.{Plan}
use Rattle.scratch.specs.Places.{Kept}
use Rattle.scratch.proofs.Placed.{place_at-kept}
use Rattle.gather_line.specs.Written.{ByLine, places_of, message_at, LineHeld, BackHeld, LineReady, LineSent}
use Rattle.gather_line.proofs.Places.{stored-place, stored-fits}
use Rattle.gather_line.proofs.Writing.{none-or-line, writer_refers, message-alike}
use Rattle.gather_exchanges.specs.Lines.{field_of, Asks, LineStands, PlanReady}
use Rattle.gather_exchanges.specs.Exchanged.{sent_by, Agree, ExchangeReady, Exchanged, ExchangedTo}
use Rattle.gather_exchanges.proofs.Exchanging.{lines_this}
use Rattle.gather_exchanges.proofs.Referring.{held_refers}

-- the lines that a line asks have numbers of a byte
pub asked_le : {p : Plan} {i : ℕ} (j : ℕ) → i < 64 → (j ≢ 64 → Asks p i j) → j ≤ 64
asked_le j b asks = none-or-line j (λ e. omega arith) (λ e. omega (arith, (asks e).before))

-- behind the exchanges 1 to t the next one can be made
pub next-ready : {s : Sizes} {cells : List Cell} {p : Plan} {t m : ℕ} {values values' : List ℤ} {marks marks' : List ℕ} → Valid s cells
    → PlanReady s p values marks → ExchangedTo s cells p t values marks values' marks' m → ExchangeReady s p (t + 1) values' marks'
next-ready {t = t} valid r x =
    record {
      plan = record {
        lines = r.lines;
        values_room = omega (arith, r.values_room, x.values_length);
        marks_room = omega (arith, r.marks_room, x.marks_length);
      };
      fits = λ i u h q b. stored-fits (x.held i u h q (omega arith));
      refers = λ i u h q b l. rw (stored-place (x.held i u h q (omega arith))) (held_refers valid r.lines t i u h q l);
    }

module _ {s : Sizes} {cells : List Cell} {p : Plan} {t : ℕ} {values values' : List ℤ} {marks marks' : List ℕ} (ready : ExchangeReady s p t values marks)
    (i : ℕ) (b : i < p.count) (now : (line_at p i).round ≡ t) {m : ℕ} (r : Exchanged s cells p t i values marks values' marks' m) where
  abbrev stands : LineStands s p ready.plan.lines.leads i
  stands = ready.plan.lines.each i b

  -- a line that it asks holds what it held
  asked-kept : {j : ℕ} → Asks p i j → (u : ℕ) → u < s.records → Kept (j * s.records + u) values marks values' marks'
  asked-kept a u h = r.other _ u a.before h (λ e. omega (arith, a.earlier))

  asked-held : {j : ℕ} → Asks p i j → LineHeld s values' marks' j
  asked-held {j} a =
      let l = mul-le-mul_right s.records a.before in
      let k = mul-le-mul_right s.records b in
      record {
        values_room = omega (arith, r.values_length, ready.plan.values_room);
        marks_room = omega (arith, r.marks_length, ready.plan.marks_room);
        fits = λ u h. rw (asked-kept a u h).value-is (ready.fits j u (omega (arith, a.before)) h (omega (arith, a.earlier)));
      }

  back-held : BackHeld s values' marks' (line_at p i).back
  back-held =
      record {
        line = λ e. asked-held (stands.back_line e);
        refers = λ e u h.
            let a = stands.back_line e in
            rw (place_at-kept (asked-kept a u h)) (ready.refers _ u (omega (arith, a.before)) h (omega (arith, a.earlier)) (stands.back_leads e));
      }

  -- all that the line asks for
  pub turn-ready : LineReady s values' marks' i (line_at p i).back (line_at p i).read (field_of (fact_at p i))
  turn-ready =
      let k = mul-le-mul_right s.records b in
      record {
        values_room = omega (arith, r.values_length, ready.plan.values_room);
        marks_room = omega (arith, r.marks_length, ready.plan.marks_room);
        back-held = back-held;
        read_held = record { own = stands.own_field; line = λ e. asked-held (stands.read_line e) };
        back_before = λ e. (stands.back_line e).before;
        read_before = λ e. (stands.read_line e).before;
      }

  -- the messages of the line, by the places of its needs
  abbrev message : ℕ → Reading
  message = message_at s cells (places_of s values' marks') (line_at p i).back (line_at p i).read (field_of (fact_at p i))

  asked_agree : {held : ByLine} → Agree s p t held values marks → {j : ℕ} → Asks p i j → (v : ℕ) → v < s.records → held j v ≡ places_of s values' marks' j v
  asked_agree agree a v l = sym (place_at-kept (asked-kept a v l) ∙ agree _ v (omega (arith, a.before)) l (omega (arith, a.earlier)))

  message-is : (held : ByLine) → Agree s p t held values marks → (u : ℕ) → u < s.records → message u ≡ sent_by s cells p held i u
  unfolding sent_by
  message-is held agree u h =
      sym (message-alike s cells held (places_of s values' marks') _ _ _ u
      (λ e. asked_agree agree (stands.back_line e) u h)
      (λ e. asked_agree agree (stands.read_line e))
      (writer_refers _ _ u s.records (λ e. back-held.refers e u h) h))

  pub turn-sent : {values'' : List ℤ} {marks'' : List ℕ} {q : ℕ} → LineSent s message i s.records values' marks' values'' marks'' q
      → Exchanged s cells p t (i + 1) values marks values'' marks'' (m + q)
  turn-sent g = lines_this i r now g message-is
