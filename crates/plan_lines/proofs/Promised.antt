-- A plan of the code that holds the plan of some readings keeps its promise.
use Prim.Native.Nat.{ℕ, ◌≤◌, ◌<◌}
use mathlib.Core.Path.{◌≡◌, sym, ap, ◌∙◌}
use mathlib.Core.List.{List}
use mathlib.Core.Logic.{⊎_elim}
use native.Mathlib.Omega.{arith}
use lib.ListN.{length}
use Rattle.plan_theory.specs.Plan.{Fact, word, hops, back_need, read_need, round, line_index, plan, last_round, line}
use Rattle.plan_theory.specs.Promise.{Stands, Promise}
use Rattle.laws.proofs.Cases.{lt_or_le}
use Rattle.plan_theory.proofs.Facts.{rest-length}
use Rattle.plan_theory.proofs.Places.{place-line}
use Rattle.plan_theory.proofs.Kept.{plan-promise}
use Rattle.plan_lines.specs.Held.{index, need_index, line_at, HoldsLines}
use Rattle.plan_lines.specs.Promised.{fact_at, Serves, LinePromise, HasLine, Promised}
use Rattle.plan_lines.specs.declared.Plan.{Plan}
use Rattle.plan_lines.proofs.Search.{facts-line}
use Rattle.plan_lines.proofs.Settled.{index-old, index_new, no_line_new, need_index-one, need_index-both}
use Rattle.plan_lines.proofs.Appending.{holds_count}

module _ {p : Plan} {l : List Fact} (h : HoldsLines p l) where
  pub holds-line : (i : ℕ) → i < p.count → line l i ≡ fact_at p i
  holds-line i b = ap (λ (m : List Fact). line m i) (sym h.facts_are) ∙ facts-line p.keys p.count (omega (arith, h.keyed)) i b

  pub holds-round : (i : ℕ) → i < p.count → (line_at p i).round ≡ round (fact_at p i)
  holds-round i b = h.rounds_are.entry i (omega (arith, holds_count h)) ∙ ap round (holds-line i b)

  -- a listed fact before line i, in an earlier round, serves it
  serves : (i : ℕ) (g : Fact) (j : ℕ) → i < p.count → line_index l g < i → round g < round (fact_at p i) → j ≡ index l g → Serves p i j g
  serves i g j b s r e =
      let listed : line_index l g < length l = omega (arith, holds_count h) in
      let at : j ≡ line_index l g = e ∙ index-old l g listed in
      let brings : fact_at p (line_index l g) ≡ g = sym (holds-line (line_index l g) (omega arith)) ∙ place-line l g listed in
      rw at
      (record {
        brings = brings;
        before = s;
        earlier = omega (arith, holds-round (line_index l g) (omega arith), ap round brings, holds-round i b);
      })

  module _ (i : ℕ) (b : i < p.count) (s : Stands l i (fact_at p i)) where
    entry : i < length l
    entry = omega (arith, holds_count h)

    back_is : (line_at p i).back ≡ need_index l (fact_at p i) (back_need (fact_at p i))
    back_is = h.backs_are.entry i entry ∙ ap (λ (f : Fact). need_index l f (back_need f)) (holds-line i b)

    read_is : (line_at p i).read ≡ need_index l (fact_at p i) (read_need (fact_at p i))
    read_is = h.reads_are.entry i entry ∙ ap (λ (f : Fact). need_index l f (read_need f)) (holds-line i b)

    read_needs : 2 ≤ hops (read_need (fact_at p i)) → 2 ≤ hops (fact_at p i)
    read_needs q = omega (arith, rest-length (word (fact_at p i)))

    no_read : hops (read_need (fact_at p i)) < 2 → (line_at p i).read ≡ 64
    no_read q =
        let f = fact_at p i in
        read_is
        ∙ ⊎_elim
        (need_index-one l f (read_need f))
        (λ two. need_index-both l f (read_need f) two ∙ index_new l (read_need f) (no_line_new l (read_need f) h.ordered q))
        (lt_or_le (hops f) 2)

    line-promise : LinePromise p i
    line-promise =
        let f = fact_at p i in
        record {
          has_line = s.has_line;
          round_is = holds-round i b;
          back_line = λ two. serves i (back_need f) _ b (s.back_before two) (s.back_earlier two) (back_is ∙ need_index-both l f (back_need f) two);
          read_line = λ q. serves i (read_need f) _ b (s.read_before (read_needs q) q) (s.read_earlier (read_needs q)) (read_is ∙ need_index-both l f (read_need f) (read_needs q));
          no_back_line = λ q. back_is ∙ need_index-one l f (back_need f) q;
          no_read_line = no_read;
        }

  listed-line : (f : Fact) → line_index l f < length l → HasLine p f
  listed-line f q =
      record {
        index = line_index l f;
        index< = omega (arith, holds_count h);
        fact_is = sym (holds-line (line_index l f) (omega (arith, holds_count h))) ∙ place-line l f q;
      }

  holds-promised : {ws : List (List ℕ)} → Promise ws l → Promised ws p
  holds-promised {ws} m =
      let n = holds_count h in
      let stands : (i : ℕ) → i < p.count → Stands l i (fact_at p i) = λ i b. rw (holds-line i b) at (m.stands i (omega arith)) in
      record {
        count≤ = h.keyed.taken≤;
        each = λ i b. line-promise i b (stands i b);
        once = λ i j b c e. sym (stands i b).once ∙ ap (line_index l) e ∙ (stands j c).once;
        has_reading = λ q two. listed-line _ (m.has_reading q two);
        wanted = λ i b. rw (holds-line i b) at (m.wanted i (omega arith));
        short = λ i b. rw (holds-line i b) at (m.short i (omega arith));
        from_one = λ i b. omega (arith, m.from_one i (omega arith), ap round (holds-line i b), holds-round i b);
        to_last = λ i b. omega (arith, m.to_last i (omega arith), ap round (holds-line i b), holds-round i b, ap last_round h.facts_are);
        no_gap = λ t lo hi.
            let r = m.no_gap t lo (omega (arith, ap last_round h.facts_are)) in
            let b : r.index < p.count = omega (arith, r.index<) in
            record { index = r.index; index< = b; round_is = holds-round r.index b ∙ ap round (sym (holds-line r.index b)) ∙ r.round_is };
      }

-- the plan of the readings ws, held in p
pub promised : {p : Plan} {ws : List (List ℕ)} → HoldsLines p (plan ws) → Promised ws p
promised {ws = ws} h = holds-promised h (plan-promise ws)
