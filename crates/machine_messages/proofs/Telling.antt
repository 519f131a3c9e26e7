-- A message tells what following the word hop by hop reads.
use Rattle.std.specs.Prelude.{None, Some}
use Prim.Native.Nat.{ℕ, suc, ◌≤◌, ◌<◌, max}
use mathlib.Core.Path.{◌≡◌, refl, sym, ap, ◌∙◌}
use mathlib.Core.Bool.{true}
use mathlib.Core.List.{List, [], ◌∷◌, ◌++◌}
use native.Mathlib.Omega.{arith}
use borrow.Author.Tests.{ltb-true, le-ltb}
use lib.Dec.{ltb}
use lib.IntN.{pos, nat_abs}
use Rattle.laws.proofs.Bools.{and_both}
use Rattle.integers.proofs.Complement.{index_is}
use Rattle.register.specs.Shape.{Valid}
use Rattle.register.specs.declared.Sizes.{Sizes}
use Rattle.register.specs.declared.cells.Cell.{Cell}
use Rattle.chain.specs.Reading.{Reading}
use Rattle.chain.specs.Word.{hop, follow, value_at_record, refers_to}
use Rattle.laws.specs.Lists.{every}
use Rattle.chain.proofs.Following.{follow_missing, own_refers, hop_refers}
use Rattle.plan_theory.specs.Plan.{Fact, back, read, word, hops, front, rest, line_from, back_need, read_need, round}
use Rattle.plan_theory.proofs.Half.{half_pos}
use Rattle.plan_theory.proofs.Facts.{front_rest, front_length, round-one, round-both, fact_ind}
use Rattle.machine.proofs.Readable.{referring, Follows, back_follows, read-follows}
use Rattle.machine_messages.specs.Held.{knows, writer, needed, written, sent, held_after}
use Rattle.machine_messages.proofs.Settling.{held_now, held-settled}

-- a word is followed in two parts
follow-append : (s : Sizes) (cells : List Cell) (x : Reading) (v w : List ℕ) → follow s cells x (v ++ w) ≡ follow s cells (follow s cells x v) w
unfolding follow
follow-append s cells x [] w = refl
follow-append s cells x (f ∷ v) w = follow-append s cells (hop s cells x f) v w

-- once the exchange of its round is done, a fact with a line is held for each record as following its word reads there
abbrev pub Told : Sizes → List Cell → Fact → Type 0
Told s cells f = Follows s f → line_from f ≤ hops f → (t u : ℕ) → round f ≤ t → u < s.records → held_after s cells t f u ≡ value_at_record s cells (word f) u

module _ {s : Sizes} {cells : List Cell} (valid : Valid s cells) where
  -- references lead from record to record
  follow_refers : (x : Reading) (w : List ℕ) → referring s w ≡ true → refers_to s.records x ≡ true → refers_to s.records (follow s cells x w) ≡ true
  unfolding follow every
  follow_refers x [] k h = h
  follow_refers x (f ∷ w) k h =
      let (a, b) = and_both (ltb f s.references) (referring s w) k in
      follow_refers (hop s cells x f) w b (hop_refers valid x f (ltb-true f s.references a) h)

  -- a record knows what following reads ..
  pub knows_value : (w : List ℕ) → Told s cells (read w) → Follows s (read w) → (t u : ℕ) → round (read w) ≤ t → u < s.records
      → knows s cells (held_after s cells t) u w ≡ value_at_record s cells w u
  unfolding knows value_at_record follow hop
  knows_value [] told k t u ht hu = refl
  knows_value (f ∷ []) told k t u ht hu = refl
  knows_value (f ∷ g ∷ w) told k t u ht hu = told k (omega arith) t u ht hu

  -- .. and writes what following on reads
  written-value : (f : Fact) → 2 ≤ hops f → Told s cells (read_need f) → Follows s (read_need f) → (t : ℕ) → round (read_need f) ≤ t
      → (x : Reading) → refers_to s.records x ≡ true → written s cells (held_after s cells t) f x ≡ follow s cells x (rest (word f))
  unfolding written needed refers_to value_at_record
  written-value f h told k t ht None r = sym (follow_missing s cells (rest (word f)))
  written-value f h told k t ht (Some z) r =
      let i = index_is s.records z r in
      rw (le-ltb (hops f) 2 h)
      (knows_value (rest (word f)) told k t (nat_abs z) ht i.1 ∙ ap (λ x. follow s cells x (rest (word f))) (ap Some (sym i.0)))

  -- so from the messages of its needs comes the message of a fact
  sent-value : (f : Fact) → 2 ≤ hops f → Told s cells (back_need f) → Told s cells (read_need f) → Follows s f
      → (t u : ℕ) → round (back_need f) ≤ t → round (read_need f) ≤ t → u < s.records
      → sent s cells (held_after s cells t) f u ≡ value_at_record s cells (word f) u
  unfolding sent writer value_at_record
  sent-value f h b r k t u hb hr hu =
      let came = b (back_follows s f h k) (omega (arith, front_length (word f) h, half_pos (hops f))) t u hb hu in
      rw (le-ltb (hops f) 2 h, came)
      (written-value f h r (read-follows s f k) t hr (follow s cells (Some (pos u)) (front (word f)))
      (follow_refers (Some (pos u)) (front (word f)) (back_follows s f h k) (own_refers s.records u hu))
      ∙ sym (follow-append s cells (Some (pos u)) (front (word f)) (rest (word f)))
      ∙ ap (follow s cells (Some (pos u))) (front_rest (word f)))

  -- and u writes its own number to the record at one hop
  sent-one : (f : Fact) → line_from f ≤ hops f → hops f < 2 → (t u : ℕ) → sent s cells (held_after s cells t) f u ≡ value_at_record s cells (word f) u
  unfolding sent writer written needed knows value_at_record follow hop
  sent-one (back []) l h t u = absurd (omega arith)
  sent-one (back (f ∷ [])) l h t u = refl
  sent-one (back (f ∷ g ∷ w)) l h t u = absurd (omega arith)
  sent-one (read w) l h t u = absurd (omega arith)

  -- what is sent in its round is held from then on
  held-sent : (f : Fact) (k t u : ℕ) {x : Reading} → round f ≡ suc k → suc k ≤ t → sent s cells (held_after s cells k) f u ≡ x → held_after s cells t f u ≡ x
  held-sent f k t u e h q = held-settled s cells (suc k) t f u (omega arith) h ∙ held_now s cells k f u e ∙ q

  -- every fact: messages tell what following reads
  pub told : (f : Fact) → Told s cells f
  told =
      fact_ind (Told s cells)
      (λ f h k l. absurd (omega arith))
      (λ f l h k m t u ht hu. held-sent f 0 t u (round-one f l h) (omega (arith, round-one f l h)) (sent-one f l h 0 u))
      (λ f h b r k l t u ht hu.
      let m = max (round (back_need f)) (round (read_need f)) in
      held-sent f m t u (round-both f h) (omega (arith, round-both f h)) (sent-value f h b r k m u (omega arith) (omega arith) hu))
