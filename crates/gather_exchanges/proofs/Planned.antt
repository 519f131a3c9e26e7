-- A plan that keeps its promise for readings that pass is one that the exchanges take.
use Prim.Native.Nat.{ℕ, ◌≤◌, ◌<◌}
use mathlib.Core.Path.{◌≡◌, refl, sym, ap, subst, ◌∙◌}
use mathlib.Core.Bool.{true}
use mathlib.Core.List.{List, [], ◌∷◌, ◌++◌}
use mathlib.Core.Logic.{◌≢◌, ⊎_elim}
use native.Mathlib.Omega.{arith}
use borrow.Author.Tests.{ltb-true}
use lib.Dec.{ltb}
use lib.ListN.{length, get_or}
use Rattle.register.specs.declared.Sizes.{Sizes}
use Rattle.chain.specs.Word.{readable, Passes}
use Rattle.laws.specs.Lists.{every}
use Rattle.laws.proofs.Bools.{and_both}
use Rattle.laws.proofs.Cases.{lt_or_le}
use Rattle.laws.proofs.Lists.{each_of}
use Rattle.plan_theory.specs.Plan.{Fact, back, read, word, hops, front, rest, line_from, read_need, round, last_round, line}
use Rattle.plan_theory.specs.Promise.{Wanted}
use Rattle.plan_theory.proofs.Facts.{rest-length, front_rest, needed-hops}
use Rattle.plan_lines.specs.Held.{facts, line_at, LineColumn}
use Rattle.plan_lines.specs.Promised.{fact_at, Serves, LinePromise}
use Rattle.plan_lines.specs.declared.Plan.{Plan}
use Rattle.plan_lines.proofs.Search.{facts-length, facts-line}
use Rattle.machine.proofs.Readable.{referring, Follows, referring-readable, back_follows, read-follows, wanted-follows}
use Rattle.machine_messages.specs.Held.{needed}
use Rattle.gather_exchanges.specs.Lines.{field_of, Asks, LineStands, LinesReady, StepPlanned}
use Rattle.gather_exchanges.proofs.Held.{needed-one, needed-rest, needed-some}

-- both parts of a word that leads from record to record do
referring-parts : (s : Sizes) (v w : List ℕ) → referring s (v ++ w) ≡ true → (referring s v ≡ true) × (referring s w ≡ true)
unfolding every
referring-parts s [] w h = (refl, h)
referring-parts s (f ∷ v) w h =
    let (a, b) = and_both (ltb f s.references) (referring s (v ++ w)) h in
    let (c, d) = referring-parts s v w b in
    (rw (a, c), d)

referring-rest : (s : Sizes) (w : List ℕ) → referring s w ≡ true → referring s (rest w) ≡ true
referring-rest s w h = (referring-parts s (front w) (rest w) (rw front_rest h)).1

-- what the writer has to know: all of a word or the rest of it
by_needed : (P : List ℕ → Type 0) (f : Fact) → P (word f) → P (rest (word f)) → P (needed f)
by_needed P f whole part =
    ⊎_elim
    (λ (one : hops f < 2). rw (needed-one f one) whole)
    (λ (two : 2 ≤ hops f). rw (needed-rest f two) part)
    (lt_or_le (hops f) 2)

word-follows : (s : Sizes) (f : Fact) → Follows s f → readable s (word f) ≡ true
word-follows s (back v) h = referring-readable s v h
word-follows s (read v) h = h

-- a word of one hop
one-hop : (w : List ℕ) → 1 ≤ length w → length w < 2 → w ≡ get_or w 0 0 ∷ []
one-hop [] some one = absurd (omega arith)
one-hop (f ∷ []) some one = refl
one-hop (f ∷ g ∷ w) some one = absurd (omega arith)

module _ {s : Sizes} {p : Plan} (planned : StepPlanned s p) where
  pub planned_count : length (facts p) ≡ p.count
  planned_count = facts-length p.keys p.count (omega (arith, planned.keys_length, planned.promised.count≤))

  pub planned-line : (i : ℕ) → i < p.count → line (facts p) i ≡ fact_at p i
  planned-line i b = facts-line p.keys p.count (omega (arith, planned.keys_length, planned.promised.count≤)) i b

  -- what is promised of line i
  module _ (i : ℕ) (b : i < p.count) where
    abbrev promise : LinePromise p i
    promise = planned.promised.each i b

    abbrev fact : Fact
    fact = fact_at p i

    pub planned-round : (line_at p i).round ≡ round (line (facts p) i)
    planned-round = promise.round_is ∙ ap round (sym (planned-line i b))

    wanted : Wanted planned.readings fact
    wanted = planned.promised.wanted i b

    follows : Follows s fact
    follows = wanted-follows s (λ v m. (each_of (Passes s) planned.passes m).follows) wanted

    serves-line : {j : ℕ} {g : Fact} → Serves p i j g → j ≢ 64
    serves-line x e = omega (arith, x.before, planned.promised.count≤)

    -- its needs, by the numbers of their lines
    pub back_long : (line_at p i).back ≢ 64 → 2 ≤ hops fact
    back_long e = ⊎_elim (λ one. absurd (e (promise.no_back_line one))) (λ two. two) (lt_or_le (hops fact) 2)

    pub back-short : (line_at p i).back ≡ 64 → hops fact < 2
    back-short e = ⊎_elim (λ one. one) (λ two. absurd (serves-line (promise.back_line two) e)) (lt_or_le (hops fact) 2)

    pub read_long : (line_at p i).read ≢ 64 → 2 ≤ hops (read_need fact)
    read_long e = ⊎_elim (λ one. absurd (e (promise.no_read_line one))) (λ two. two) (lt_or_le (hops (read_need fact)) 2)

    pub read-rest : (line_at p i).read ≢ 64 → needed fact ≡ rest (word fact)
    read-rest e = needed-rest fact (omega (arith, read_long e, rest-length (word fact)))

    read_short : (line_at p i).read ≡ 64 → length (needed fact) < 2
    read_short e =
        ⊎_elim
        (λ (one : hops fact < 2). rw (needed-one fact one) one)
        (λ (two : 2 ≤ hops fact).
        rw (needed-rest fact two)
        (⊎_elim (λ one. one) (λ long. absurd (serves-line (promise.read_line long) e)) (lt_or_le (hops (read_need fact)) 2)))
        (lt_or_le (hops fact) 2)

    pub one_field : (line_at p i).read ≡ 64 → needed fact ≡ field_of fact ∷ []
    unfolding field_of
    one_field e = one-hop (needed fact) (needed-some fact promise.has_line) (read_short e)

    asks : {j : ℕ} {g : Fact} → Serves p i j g → Asks p i j
    asks x = record { before = x.before; earlier = x.earlier }

    line-stands : LineStands s p (λ j. referring s (word (fact_at p j))) i
    unfolding readable every
    line-stands =
        record {
          has_line = promise.has_line;
          short = omega (arith, needed-hops wanted.needed, (each_of (Passes s) planned.passes wanted.among).short);
          from_one = planned.promised.from_one i b;
          back_line = λ e. asks (promise.back_line (back_long e));
          back_leads = λ e. rw (promise.back_line (back_long e)).brings (back_follows s fact (back_long e) follows);
          read_line = λ e. asks (promise.read_line (read_long e));
          own_field = λ e. rw (one_field e) at (by_needed (λ w. readable s w ≡ true) fact (word-follows s fact follows) (read-follows s fact follows));
          own_leads = λ l e.
              let all = rw (one_field e) at (by_needed (λ w. referring s w ≡ true) fact l (referring-rest s (word fact) l)) in
              ltb-true _ s.references (and_both (ltb (field_of fact) s.references) true all).0;
          read_leads = λ l e. rw (promise.read_line (read_long e)).brings (referring-rest s (word fact) l);
        }

  pub planned-lines : LinesReady s p
  planned-lines = record { count≤ = planned.promised.count≤; leads = λ j. referring s (word (fact_at p j)); each = line-stands }

  -- for the line as a fact
  module _ (i : ℕ) (h : i < length (facts p)) where
    inside : i < p.count
    inside = omega (arith, planned_count)

    pub planned_has_line : line_from (line (facts p) i) ≤ hops (line (facts p) i)
    planned_has_line = rw (planned-line i inside) (planned.promised.each i inside).has_line

    pub planned-follows : Follows s (line (facts p) i)
    planned-follows = subst (Follows s) (sym (planned-line i inside)) (follows i inside)

    -- so the word of a Read line can be followed
    pub planned-readable : {w : List ℕ} → line (facts p) i ≡ read w → readable s w ≡ true
    planned-readable e = subst (Follows s) e planned-follows

    -- no line has a round past the last
    pub planned-last : round (line (facts p) i) ≤ last_round (facts p)
    planned-last = omega (arith, planned-round i inside, planned.promised.to_last i inside)

  pub planned-rounds : LineColumn p.rounds (facts p) round
  planned-rounds = record { places = planned.rounds_length; entry = λ i h. planned-round i (inside i h) }
