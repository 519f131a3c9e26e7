-- For a plan that keeps its promise the exchanges send what the message machine sends, over whatever is held.
use Rattle.std.specs.Prelude.{None, Some}
use Prim.Native.Nat.{ℕ, zero, suc, ◌<◌}
use mathlib.Core.Path.{◌≡◌, refl, sym, ap, ◌∙◌}
use mathlib.Core.List.{List}
use native.Mathlib.Omega.{arith}
use lib.IntN.{nat_abs}
use Rattle.register.specs.Shape.{Valid}
use Rattle.register.specs.declared.Sizes.{Sizes}
use Rattle.register.specs.declared.cells.Cell.{Cell}
use Rattle.chain.specs.Reading.{Reading}
use Rattle.plan_theory.specs.Plan.{Fact, line}
use Rattle.plan_lines.specs.Held.{facts, line_at}
use Rattle.plan_lines.specs.Promised.{fact_at, Serves}
use Rattle.plan_lines.specs.declared.Plan.{Plan}
use Rattle.machine_messages.specs.Held.{Held, knows, writer, needed, written, sent, held_after}
use Rattle.machine_messages.specs.Counts.{plan_messages}
use Rattle.gather_line.specs.Written.{ByLine, known_at, writer_at, written_at, message_at}
use Rattle.gather_line.proofs.Writing.{none-or-line, known_own, known-told, writer_own, writer-told, message-alike}
use Rattle.gather_exchanges.specs.Lines.{field_of, StepPlanned}
use Rattle.gather_exchanges.specs.Exchanged.{sent_by, held_to, SendsAlike, lines_messages}
use Rattle.gather_exchanges.proofs.Held.{knows-told, writer-one, writer-back}
use Rattle.gather_exchanges.proofs.Counting.{lines-plan}
use Rattle.gather_exchanges.proofs.Referring.{held_refers, sender_refers}
use Rattle.gather_exchanges.proofs.Planned.{planned_count, planned-line, planned-round, planned-lines}
use Rattle.gather_exchanges.proofs.Planned.{back_long, back-short, read_long, read-rest, one_field}

module _ {s : Sizes} {p : Plan} (planned : StepPlanned s p) (cells : List Cell) where
  -- what is held for a fact, by its line
  abbrev by_line : Held → ByLine
  by_line held j u = held (line (facts p) j) u

  module _ (held : Held) (i : ℕ) (b : i < p.count) where
    served : {j : ℕ} {g : Fact} → Serves p i j g → (u : ℕ) → by_line held j u ≡ held g u
    served {j} x u = ap (λ g. held g u) (planned-line planned j (omega (arith, x.before)) ∙ x.brings)

    -- what a record knows, who writes, and what
    known_is : (v : ℕ) → known_at s cells (by_line held) (line_at p i).read (field_of (fact_at p i)) v ≡ knows s cells held v (needed (fact_at p i))
    unfolding knows
    known_is v =
        none-or-line (line_at p i).read
        (λ e. sym (known_own s cells (by_line held) _ _ v e) ∙ sym (ap (knows s cells held v) (one_field planned i b e)))
        (λ e.
        let long = read_long planned i b e in
        sym (known-told s cells (by_line held) _ _ v e) ∙ served ((planned.promised.each i b).read_line long) v
        ∙ sym (ap (knows s cells held v) (read-rest planned i b e) ∙ knows-told s cells held v _ long))

    written_is : (x : Reading) → written_at s cells (by_line held) (line_at p i).read (field_of (fact_at p i)) x ≡ written s cells held (fact_at p i) x
    unfolding written_at written
    written_is None = refl
    written_is (Some z) = known_is (nat_abs z)

    writer-is : (u : ℕ) → writer_at (by_line held) (line_at p i).back u ≡ writer held (fact_at p i) u
    writer-is u =
        none-or-line (line_at p i).back
        (λ e. sym (writer_own (by_line held) _ u e) ∙ sym (writer-one held (fact_at p i) u (back-short planned i b e)))
        (λ e.
        let long = back_long planned i b e in
        sym (writer-told (by_line held) _ u e) ∙ served ((planned.promised.each i b).back_line long) u ∙ sym (writer-back held (fact_at p i) u long))

    sent_over : (u : ℕ) → sent_by s cells p (by_line held) i u ≡ sent s cells held (line (facts p) i) u
    unfolding sent_by message_at sent
    sent_over u =
        ap (written_at s cells (by_line held) (line_at p i).read (field_of (fact_at p i))) (writer-is u) ∙ written_is (writer held (fact_at p i) u)
        ∙ sym (ap (λ f. sent s cells held f u) (planned-line planned i b))

  pub sends_alike : SendsAlike s cells p
  sends_alike held i u b = sent_over held i b u

  module _ (valid : Valid s cells) where
    -- so what the exchanges leave is what it holds
    abbrev Same : ℕ → Type 0
    Same t = (i u : ℕ) → i < p.count → u < s.records → held_to s cells p t i u ≡ held_after s cells t (line (facts p) i) u

    sent-same : (t : ℕ) → Same t → (i u : ℕ) → i < p.count → u < s.records
        → sent_by s cells p (held_to s cells p t) i u ≡ sent s cells (held_after s cells t) (line (facts p) i) u
    unfolding sent_by
    sent-same t same i u b h =
        let stands = (planned-lines planned).each i b in
        sym (message-alike s cells (by_line (held_after s cells t)) (held_to s cells p t) _ _ _ u
        (λ e. sym (same _ u (omega (arith, (stands.back_line e).before)) h))
        (λ e v l. sym (same _ v (omega (arith, (stands.read_line e).before)) l))
        (sender_refers valid (planned-lines planned) (held_to s cells p t) (held_refers valid (planned-lines planned) t) i b u h))
        ∙ sends_alike (held_after s cells t) i u b

    pub held_over : (t : ℕ) → Same t
    unfolding held_to held_after
    held_over zero i u b h = refl
    held_over (suc t) i u b h =
        rw (planned-round planned i b, sent-same t (held_over t) i u b h, held_over t i u b h)

    pub messages_over : (t : ℕ) → lines_messages (held_to s cells p t) p.count s.records ≡ plan_messages (held_after s cells t) (facts p) s.records
    messages_over t =
        rw (planned_count planned) at
        (lines-plan (held_to s cells p t) (held_after s cells t) s.records (facts p) (λ i u h q. held_over t i u (rw (planned_count planned) at h) q))
