-- Places that are filled: one more line of a plan.
use Prim.Native.Nat.{ℕ, ◌+◌, ◌*◌, ◌≤◌, ◌<◌}
use mathlib.Core.Path.{◌≡◌, refl, ap, ap₂, sym, ◌∙◌}
use mathlib.Core.Bool.{Bool, true, false}
use mathlib.Core.List.{List}
use mathlib.Core.Logic.{⊎_elim}
use native.Mathlib.Nat.{mul-le-mul_right}
use native.Mathlib.Omega.{arith}
use lib.IntN.{ℤ}
use lib.ListN.{length, get_or}
use Rattle.register.specs.declared.Sizes.{Sizes}
use Rattle.register.specs.declared.cells.Cell.{Cell}
use Rattle.chain.specs.Word.{value_at_record}
use Rattle.plan_theory.specs.Plan.{Fact, back, read, word, line}
use Rattle.plan_keys.specs.Keys.{fact_of, kind}
use Rattle.plan_lines.specs.Held.{facts_in}
use Rattle.plan_keys.specs.declared.key.Kind.{Kind}
use Rattle.plan_keys.specs.declared.key.Kind.TheVariants.{Back, Read}
use Rattle.plan_lines.proofs.Search.{facts-line}
use Rattle.laws.proofs.Cases.{lt_or_le}
use Rattle.scratch.specs.Places.{Kept, StoredFrom}
use Rattle.scratch.proofs.Placed.{kept_same, kept_again, place_at-kept}
use Rattle.gather_follow.specs.Filled.{ReadAt, Filled}

-- the fact of a kind and a word
abbrev pub kind_fact : Kind → List ℕ → Fact
kind_fact Back w = back w
kind_fact Read w = read w

fact_by_kind : (f : Fact) → f ≡ kind_fact (kind f) (word f)
fact_by_kind (back w) = refl
fact_by_kind (read w) = refl

-- line i by the kind and the word of its key
pub line_by_key : {k : Kind} {w : List ℕ} (keys : List ℕ) (count i : ℕ) → count ≤ length keys → i < count
    → k ≡ kind (fact_of (get_or keys i 0)) → w ≡ word (fact_of (get_or keys i 0))
    → line (facts_in keys count) i ≡ kind_fact k w
line_by_key keys count i within h e q =
    facts-line keys count within i h ∙ fact_by_kind (fact_of (get_or keys i 0)) ∙ sym (ap₂ kind_fact e q)

-- and by its kind alone
pub kind_by_key : {k : Kind} (keys : List ℕ) (count i : ℕ) → count ≤ length keys → i < count → k ≡ kind (fact_of (get_or keys i 0)) → k ≡ kind (line (facts_in keys count) i)
kind_by_key keys count i within h e = e ∙ sym (ap kind (facts-line keys count within i h))

module _ (s : Sizes) (cells : List Cell) where
  -- a reading stays where its place is kept
  read_kept : {w : List ℕ} {i u : ℕ} {values values' : List ℤ} {marks marks' : List ℕ} → ReadAt s cells w i u values marks
      → Kept (i * s.records + u) values marks values' marks' → ReadAt s cells w i u values' marks'
  read_kept r k = record { place_is = place_at-kept k ∙ r.place_is; fits = rw k.value-is r.fits }

  module _ (l : List Fact) (wanted : List Bool) (values : List ℤ) (marks : List ℕ) where
    pub plan-none : Filled s cells l wanted 0 values marks values marks
    plan-none = record { values_length = refl; marks_length = refl; reads = λ i u w h. absurd (omega arith); behind = λ j h. kept_same }

    module _ {values' : List ℤ} {marks' : List ℕ} (k : ℕ) (f : Filled s cells l wanted k values marks values' marks') where
      -- a line that is left as it is
      plan-left : ((v : List ℕ) → get_or wanted k false ≡ true → line l k ≡ read v → ⊥) → Filled s cells l wanted (k + 1) values marks values' marks'
      plan-left none =
          record {
            values_length = f.values_length;
            marks_length = f.marks_length;
            reads = λ i u v h p a q.
                ⊎_elim
                (λ (b : i < k). f.reads i u v b p a q)
                (λ (b : k ≤ i). let same : i ≡ k = omega arith in absurd (none v (rw same at a) (rw same at q)))
                (lt_or_le i k);
            behind = λ j h. f.behind j (omega arith);
          }

      -- a line that is no Read line has no reading
      pub plan-other : (kind (line l k) ≡ Read → ⊥) → Filled s cells l wanted (k + 1) values marks values' marks'
      plan-other other = plan-left (λ v a q. other (ap kind q))

      pub plan_unwanted : get_or wanted k false ≡ false → Filled s cells l wanted (k + 1) values marks values' marks'
      plan_unwanted e = plan-left (λ v a q. let z : ◌≡◌ {A = ℕ} 0 1 = cc in absurd (omega arith))

      pub plan-read : {w : List ℕ} {values'' : List ℤ} {marks'' : List ℕ} → line l k ≡ read w
          → StoredFrom (k * s.records) s.records (value_at_record s cells w) values' marks' values'' marks''
          → Filled s cells l wanted (k + 1) values marks values'' marks''
      plan-read {w} {values''} {marks''} e g =
          record {
            values_length = g.values_length ∙ f.values_length;
            marks_length = g.marks_length ∙ f.marks_length;
            reads = λ i u v h p a q.
                ⊎_elim
                (λ (b : i < k). read_kept (f.reads i u v b p a q) (g.before (i * s.records + u) (omega (arith, mul-le-mul_right s.records b))))
                (λ (b : k ≤ i).
                let same : i ≡ k = omega arith in
                let word-is : v ≡ w = cc in
                rw (same, word-is) (record { place_is = g.place_is u p; fits = g.fits u p }))
                (lt_or_le i k);
            behind = λ j h. kept_again (f.behind j (omega arith)) (g.behind j (omega arith));
          }
