-- A fact added to a plan: its needs' lines first, then its own, as long as there is room.
use Prim.Native.Nat.{ℕ, ◌≤◌, ◌<◌}
use mathlib.Core.Path.{◌≡◌, sym, ◌∙◌}
use mathlib.Core.Bool.{true, false}
use mathlib.Core.List.{List, [], ◌∷◌, ◌++◌}
use native.Mathlib.Omega.{arith}
use lib.ListN.{length, length-append}
use borrow.Author.Tests.{lt-ltb, le-ltb, ltb-true, ltb-false}
use Rattle.plan_theory.specs.Plan.{Fact, read, hops, line_from, back_need, read_need, line_index, add, plan}
use Rattle.plan_theory.proofs.Facts.{back_need-shorter, read_need-shorter}
use Rattle.plan_theory.proofs.Lines.{add-one, add-both, grows_length, add_grows, add-next, plan-more}
use Rattle.plan_theory.specs.Promise.{Next}
use Rattle.plan_keys.specs.Keys.{fact_of, NeedsOf}
use Rattle.plan_lines.specs.Held.{facts, settled, HoldsLines, Extended, Added}
use Rattle.plan_lines.specs.declared.Plan.{Plan}
use Rattle.plan_keys.specs.declared.key.Needs.{Needs}
use Rattle.plan_lines.proofs.Appending.{holds_count}
use Rattle.plan_lines.proofs.Settled.{settled_adds, unsettled_line, unsettled_new}

pub holds-facts : {p : Plan} {l : List Fact} → HoldsLines p l → HoldsLines p (facts p)
holds-facts h = rw h.facts_are h

-- an answer that is not full holds the lines; one that is full is full for more lines too
pub extended-holds : {l : List Fact} {r : Added} → Extended l r → r.full ≡ false → HoldsLines r.plan l
extended-holds {l} e n = e.holds (ltb-false 64 (length l) (sym e.full_is ∙ n))

pub extended-more : {l : List Fact} {r s : Added} (m : List Fact) → Extended l r → r.full ≡ true → s.full ≡ true → length l ≤ length m → Extended m s
extended-more {l} m e y z h =
    let b : 64 < length l = ltb-true 64 (length l) (sym e.full_is ∙ y) in
    record { full_is = z ∙ sym (lt-ltb 64 (length m) (omega arith)); holds = λ k. absurd (omega arith) }

-- a plan that already holds the lines
pub extended-same : {p : Plan} {l : List Fact} → HoldsLines p l → Extended l (record { plan = p; full = false })
extended-same {p} {l} h = record { full_is = sym (le-ltb 64 (length l) (omega (arith, holds_count h, h.keyed))); holds = λ k. h }

pub extended-settled : {p : Plan} {l : List Fact} (f : Fact) → HoldsLines p l → settled l f ≡ true → Extended (add l f) (record { plan = p; full = false })
extended-settled {p} {l} f h s = rw (settled_adds l f s) (extended-same h)

add-length : (l : List Fact) (f : Fact) → length l ≤ length (add l f)
add-length l f = grows_length (add_grows l f)

-- the answer for a fact that is another, behind lines that are others
pub extended_as : {l m : List Fact} {f g : Fact} {r : Added} → l ≡ m → f ≡ g → Extended (add l f) r → Extended (add m g) r
extended_as e h x = rw (e, h) at x

-- both needs have fewer hops
pub needs_shorter : (f : Fact) {r : Needs} → 2 ≤ hops f → NeedsOf f r → (hops (fact_of r.back) < hops f) × (hops (fact_of r.read) < hops f)
needs_shorter f two q = (rw q.back_is (back_need-shorter f two), rw q.read_is (read_need-shorter f two))

-- f has a line that is not among l: one that needs nothing ..
pub record NewOne (l : List Fact) (f : Fact) : Type 0 where
  pub has_line : line_from f ≤ hops f
  pub one : hops f < 2
  pub new : length l ≤ line_index l f

-- .. or one with two needs
pub record NewBoth (l : List Fact) (f : Fact) : Type 0 where
  pub two : 2 ≤ hops f
  pub new : length l ≤ line_index l f

pub new-one : {l : List Fact} {f : Fact} → settled l f ≡ false → hops f < 2 → NewOne l f
new-one e h = record { has_line = unsettled_line _ _ e; one = h; new = unsettled_new _ _ e }

pub new-both : {l : List Fact} {f : Fact} → settled l f ≡ false → 2 ≤ hops f → NewBoth l f
new-both e h = record { two = h; new = unsettled_new _ _ e }

pub one-next : {l : List Fact} {f : Fact} → NewOne l f → Next l f
one-next n = record { has_line = n.has_line; new = n.new; needs = λ p. absurd (omega (arith, n.one)) }

pub one-done : {l : List Fact} {f : Fact} {r : Added} → NewOne l f → Extended (l ++ (f ∷ [])) r → Extended (add l f) r
one-done {l} {f} n e = rw (add-one l f n.has_line n.one n.new) e

-- with the answers for Back(a) and then for Read(b)
module _ {l : List Fact} {f : Fact} (n : NewBoth l f) where
  both : add l f ≡ add (add l (back_need f)) (read_need f) ++ (f ∷ [])
  both = add-both l f n.two n.new

  pub back_full : {r s : Added} → Extended (add l (back_need f)) r → r.full ≡ true → s.full ≡ true → Extended (add l f) s
  back_full e y z = extended-more (add l f) e y z (rw both (simp length-append (omega (arith, add-length (add l (back_need f)) (read_need f)))))

  pub read_full : {r s : Added} → Extended (add (add l (back_need f)) (read_need f)) r → r.full ≡ true → s.full ≡ true → Extended (add l f) s
  read_full e y z = extended-more (add l f) e y z (rw both (simp length-append (omega arith)))

  pub both-next : {p : Plan} → HoldsLines p (add (add l (back_need f)) (read_need f)) → Next (facts p) f
  both-next h = rw h.facts_are (add-next l f n.two n.new)

  pub both-done : {p : Plan} {r : Added} → HoldsLines p (add (add l (back_need f)) (read_need f)) → Extended (facts p ++ (f ∷ [])) r → Extended (add l f) r
  both-done h e = rw (both, ← h.facts_are) e

-- one reading more than those that the plan holds
pub extended-plan : {p : Plan} {r : Added} (ws : List (List ℕ)) (w : List ℕ) → HoldsLines p (plan ws) → Extended (add (facts p) (read w)) r → Extended (plan (ws ++ (w ∷ []))) r
extended-plan ws w h e = rw (plan-more ws w, ← h.facts_are) e
