-- A line appended to a plan: what holds of the arrays then.
use Prim.Native.Nat.{ℕ, suc, ◌+◌, ◌≤◌, ◌<◌, max}
use mathlib.Core.Path.{◌≡◌, refl, sym, ap, ap₂, ◌∙◌}
use mathlib.Core.List.{List, [], ◌∷◌, ◌++◌, map-append}
use mathlib.Core.Logic.{⊎_elim}
use native.Mathlib.Omega.{arith}
use native.Mathlib.Numerals.{add-one}
use mathlib.Core.Bool.{true, false}
use lib.ListN.{length, get_or, set, take, length-append, length-set, get_or-eq_default}
use lib.Seq.{take-suc-set, get_or-set_same, get_or-set_other}
use borrow.Author.Tests.{lt-ltb, le-ltb}
use Rattle.plan_theory.specs.Plan.{Fact, hops, line_from, back_need, read_need, round, line_index, line}
use Rattle.plan_theory.specs.Promise.{Stands, Had, Next, Ordered}
use Rattle.laws.proofs.Cases.{lt_or_le}
use Rattle.plan_theory.proofs.Facts.{round-none, round-one, round-both, round-hops, back_need-shorter, read_need-shorter}
use Rattle.plan_theory.proofs.Places.{place-line, place-append-listed}
use Rattle.plan_theory.proofs.Kept.{ordered-append, lines-append}
use Rattle.plan_keys.specs.Keys.{fact_of}
use Rattle.plan_lines.specs.Held.{facts_in, index, need_index, LineColumn, HoldsLines, LineOf, NeedsReady, Extended}
use Rattle.plan_lines.specs.declared.Plan.{Plan}
use Rattle.plan_lines.specs.declared.Line.{Line}
use Rattle.plan_keys.specs.declared.key.Needs.{Needs}
use Rattle.plan_lines.proofs.Settled.{index-old, index_new, no_line_new, need_index-one, need_index-both}
use Rattle.plan_lines.proofs.Search.{facts-length}

-- the facts after one more key
facts-append : (keys : List ℕ) (n k : ℕ) → n < length keys → facts_in (set keys n k) (n + 1) ≡ facts_in keys n ++ (fact_of k ∷ [])
unfolding facts_in
facts-append keys n k h = rw (add-one, take-suc-set keys n k h) (map-append fact_of (take n keys) (k ∷ []))

-- an array after one more entry; g may change to g' where it is the same for each line before
column-append : {xs : List ℕ} {l : List Fact} {g : Fact → ℕ} (g' : Fact → ℕ) (f : Fact) (v : ℕ) → LineColumn xs l g → length l < 64
    → ((i : ℕ) → i < length l → g' (line l i) ≡ g (line l i)) → v ≡ g' f → LineColumn (set xs (length l) v) (l ++ (f ∷ [])) g'
column-append {xs} {l} g' f v c room same last =
    record {
      places = simp length-set c.places;
      entry = lines-append (λ i f. get_or (set xs (length l) v) i 0 ≡ g' f) l f
          (λ i h. get_or-set_other xs (length l) i v 0 (λ e. omega arith) ∙ c.entry i h ∙ sym (same i h))
          (get_or-set_same xs (length l) v 0 (omega (arith, c.places)) ∙ last);
    }

-- a need that is had keeps its line, and one without a line has none
index-append : (l m : List Fact) (f : Fact) → Ordered l → Ordered (l ++ m) → Had l f → index (l ++ m) f ≡ index l f
index-append l m f o o' had =
    ⊎_elim
    (λ (h : hops f < line_from f). index_new (l ++ m) f (no_line_new (l ++ m) f o' h) ∙ sym (index_new l f (no_line_new l f o h)))
    (λ (h : line_from f ≤ hops f).
    let e = place-append-listed l m f (had h) in
    index-old (l ++ m) f (simp length-append (omega (arith, had h))) ∙ e ∙ sym (index-old l f (had h)))
    (lt_or_le (hops f) (line_from f))

-- so a fact whose need is had keeps its line
need_append : {l : List Fact} (m : List Fact) → Ordered l → Ordered (l ++ m) → (f g : Fact) → (2 ≤ hops f → Had l g) → need_index (l ++ m) f g ≡ need_index l f g
need_append {l} m o o' f g had =
    ⊎_elim
    (λ (p : hops f < 2). need_index-one (l ++ m) f g p ∙ sym (need_index-one l f g p))
    (λ (p : 2 ≤ hops f). need_index-both (l ++ m) f g p ∙ index-append l m g o o' (had p) ∙ sym (need_index-both l f g p))
    (lt_or_le (hops f) 2)

stands_needs : {l : List Fact} {i : ℕ} {f : Fact} → Stands l i f → i < length l → 2 ≤ hops f → Had l (back_need f) × Had l (read_need f)
stands_needs s h p = (λ q. omega (arith, s.back_before p), λ q. omega (arith, s.read_before p q))

-- the plan with a line behind its last
abbrev pub appended : Plan → Line → Plan
appended p x =
    record {
      keys = set p.keys p.count x.key;
      rounds = set p.rounds p.count x.round;
      backs = set p.backs p.count x.back;
      reads = set p.reads p.count x.read;
      count = p.count + 1;
    }

pub holds_count : {p : Plan} {l : List Fact} → HoldsLines p l → length l ≡ p.count
holds_count {p} h = ap length (sym h.facts_are) ∙ facts-length p.keys p.count (omega (arith, h.keyed))

pub holds-append : {p : Plan} {l : List Fact} {x : Line} → HoldsLines p l → LineOf l x → p.count < 64 → HoldsLines (appended p x) (l ++ (fact_of x.key ∷ []))
holds-append {p} {l} {x} h n room =
    let f = fact_of x.key in
    let m = l ++ (f ∷ []) in
    let o = ordered-append h.ordered n.next in
    let k = holds_count h in
    let same = need_append (f ∷ []) h.ordered o in
    record {
      facts_are = facts-append p.keys p.count x.key (omega (arith, h.keyed)) ∙ ap (λ (l : List Fact). l ++ (f ∷ [])) h.facts_are;
      keyed = record { places = simp length-set h.keyed.places; taken≤ = omega arith };
      ordered = o;
      rounds_are = rw (← k) (column-append round f x.round h.rounds_are (omega arith) (λ i b. refl) n.round_is);
      backs_are = rw (← k)
          (column-append (λ f. need_index m f (back_need f)) f x.back h.backs_are (omega arith)
          (λ i b. same (line l i) (back_need (line l i)) (λ q. (stands_needs (h.ordered i b) b q).0))
          (n.back_is ∙ sym (same f (back_need f) (λ q. (n.next.needs q).0))));
      reads_are = rw (← k)
          (column-append (λ f. need_index m f (read_need f)) f x.read h.reads_are (omega arith)
          (λ i b. same (line l i) (read_need (line l i)) (λ q. (stands_needs (h.ordered i b) b q).1))
          (n.read_is ∙ sym (same f (read_need f) (λ q. (n.next.needs q).1))));
    }

-- the round of a need that is had, read from its line; 0 where it has none
pub need_round : {xs : List ℕ} {l : List Fact} (g : Fact) → LineColumn xs l round → Had l g → get_or xs (index l g) 0 ≡ round g
need_round {xs} {l} g h had =
    ⊎_elim
    (λ (b : line_index l g < length l). rw (index-old l g b) (h.entry (line_index l g) b ∙ ap round (place-line l g b)))
    (λ (b : length l ≤ line_index l g).
    rw (index_new l g b)
    (get_or-eq_default xs 0 (omega (arith, h.places))
    ∙ sym (round-none g (⊎_elim (λ q. q) (λ q. absurd (omega (arith, had q))) (lt_or_le (hops g) (line_from g))))))
    (lt_or_le (line_index l g) (length l))

-- the answer for the lines with one more: where all 64 places are taken, whatever the plan then, and where one is left
pub extended_full : {p q : Plan} {l : List Fact} (f : Fact) → HoldsLines p l → p.count ≡ 64 → Extended (l ++ (f ∷ [])) (record { plan = q; full = true })
extended_full {p} {q} {l} f h e =
    let k : length (l ++ (f ∷ [])) ≡ 65 = simp length-append (omega (arith, holds_count h)) in
    record { full_is = sym (lt-ltb 64 (length (l ++ (f ∷ []))) (omega (arith, k))); holds = λ n. absurd (omega (arith, k)) }

pub extended-append : {p : Plan} {l : List Fact} {x : Line} → HoldsLines p l → LineOf l x → p.count < 64
    → Extended (l ++ (fact_of x.key ∷ [])) (record { plan = appended p x; full = false })
extended-append {p} {l} {x} h n room =
    let k : length (l ++ (fact_of x.key ∷ [])) ≡ p.count + 1 = simp length-append (omega (arith, holds_count h)) in
    record { full_is = sym (le-ltb 64 _ (omega (arith, k))); holds = λ b. holds-append h n room }

-- the line of a fact of two or more hops, from the lines that its needs have
module _ {xs : List ℕ} {l : List Fact} {k : ℕ} {needs : Needs} (h : LineColumn xs l round) (q : NeedsReady l k needs) where
  back-round : get_or xs (index l (fact_of needs.back)) 0 ≡ round (back_need (fact_of k))
  back-round = rw q.needs_are.back_is (need_round (back_need (fact_of k)) h (q.next.needs q.two).0)

  read-round : get_or xs (index l (fact_of needs.read)) 0 ≡ round (read_need (fact_of k))
  read-round = rw q.needs_are.read_is (need_round (read_need (fact_of k)) h (q.next.needs q.two).1)

  pub back_round< : get_or xs (index l (fact_of needs.back)) 0 < 255
  back_round< = omega (arith, q.short, back-round, round-hops (back_need (fact_of k)), back_need-shorter (fact_of k) q.two)

  pub read_round< : get_or xs (index l (fact_of needs.read)) 0 < 255
  read_round< = omega (arith, q.short, read-round, round-hops (read_need (fact_of k)), read_need-shorter (fact_of k) q.two)

  pub line-both : {r b d : ℕ} → b ≡ index l (fact_of needs.back) → d ≡ index l (fact_of needs.read)
      → r ≡ suc (max (get_or xs b 0) (get_or xs d 0)) → LineOf l (record { key = k; round = r; back = b; read = d })
  line-both eb ed er =
      let f = fact_of k in
      let at : ℕ → ℕ = λ i. get_or xs i 0 in
      record {
        next = q.next;
        round_is = er ∙ ap suc (ap₂ max (ap at eb ∙ back-round) (ap at ed ∙ read-round)) ∙ sym (round-both f q.two);
        back_is = eb ∙ ap (index l) q.needs_are.back_is ∙ sym (need_index-both l f (back_need f) q.two);
        read_is = ed ∙ ap (index l) q.needs_are.read_is ∙ sym (need_index-both l f (read_need f) q.two);
      }

-- the line of a Back of one hop
pub line-one : {l : List Fact} (k : ℕ) → Next l (fact_of k) → hops (fact_of k) < 2 → LineOf l (record { key = k; round = 1; back = 64; read = 64 })
line-one {l} k n one =
    record {
      next = n;
      round_is = sym (round-one (fact_of k) n.has_line one);
      back_is = sym (need_index-one l (fact_of k) (back_need (fact_of k)) one);
      read_is = sym (need_index-one l (fact_of k) (read_need (fact_of k)) one);
    }
