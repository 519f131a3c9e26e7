-- The plan of a step and the readings behind those that it has: where they are found, and that what is found stays there.
use Prim.Native.Nat.{ℕ, ◌-◌, ◌≤◌, ◌<◌}
use mathlib.Core.Path.{◌≡◌, refl, sym, ap, ◌∙◌}
use mathlib.Core.Bool.{Bool, true, false}
use mathlib.Core.List.{List, [], ◌∷◌, ◌++◌, append-nil, append_assoc}
use mathlib.Core.Logic.{⊎_elim}
use native.Mathlib.Decide.{ℕ_discrete}
use native.Mathlib.Omega.{arith}
use borrow.Author.Tests.{ltb-true, lt-ltb}
use lib.ListN.{length, get_or, set, length-append, get_or-eq_default}
use lib.Seq.{get_or-set_same, get_or-set_other}
use Rattle.laws.proofs.Bools.{true_false}
use Rattle.laws.proofs.Cases.{lt_or_le}
use Rattle.chain.specs.Word.{unpack}
use Rattle.chain.proofs.Packing.{unpack-none, unpack-last}
use Rattle.plan_theory.specs.Plan.{Fact, read, back_need, read_need, line_index, add, plan}
use Rattle.plan_theory.proofs.Places.{place-append-listed, place-append-last}
use Rattle.plan_theory.proofs.Lines.{add_none, add-listed, add-both, grows_append, grows_length, add_grows, add_had, add-next, plan-more, plan-length}
use Rattle.std.specs.Prelude.{Option, Some}
use Rattle.std.specs.Option.{option_map_or}
use Rattle.plan_lines.specs.Held.{facts, place, HoldsLines, Extended}
use Rattle.plan_lines.proofs.Settled.{place_had}
use Rattle.plan_lines.specs.declared.Plan.{Plan}
use Rattle.plan_lines.proofs.Adding.{extended-holds, extended-more, extended-plan}
use Rattle.plan_lines.proofs.Appending.{holds_count}
use Rattle.program.specs.declared.location.Location.{Location}
use Rattle.program.specs.declared.location.Location.TheVariants.{Own, Cell, Line}
use Rattle.program.specs.Location.{location_of, Wants}
use Rattle.program.proofs.Locations.{location_line}
use Rattle.text_readings.specs.declared.Open.{Open}
use Rattle.text_readings.specs.Readings.{is_listed, WordPlaced, Grown, ReadingAdded}

-- no reading more, and one behind another
pub grown_none : {a : Open} → Grown [] a a
grown_none = record { kept = λ n. n; more = λ n. omega arith; extends = λ ws e. rw (append-nil ws) e; stays = λ n at w p. p }

pub grown_both : {a b c : Open} (vs us : List (List ℕ)) → Grown vs a b → Grown us b c → Grown (vs ++ us) a c
grown_both vs us h k = record {
  kept = λ n. h.kept (k.kept n);
  more = λ n. omega (arith, h.more (k.kept n), k.more n);
  extends = λ ws e. rw (append_assoc ws vs us) at (k.extends (ws ++ vs) (h.extends ws e));
  stays = λ n at w p. k.stays n at w (h.stays (k.kept n) at w p);
}

-- a full plan stays as it is, and so does any where a reading has no line
grown_full : {a : Open} (vs : List (List ℕ)) → a.full ≡ true → Grown vs a a
grown_full vs h = record {
  kept = λ n. n;
  more = λ n. omega arith;
  extends = λ ws e. extended-more (plan (ws ++ vs)) e h h (plan-length ws vs);
  stays = λ n at w p. p;
}

grown_short : {a : Open} (w : List ℕ) → length w < 2 → Grown (w ∷ []) a a
grown_short w h = record {
  kept = λ n. n;
  more = λ n. omega arith;
  extends = λ ws e. rw (plan-more ws w, add_none (plan ws) (read w) h) e;
  stays = λ n at w p. p;
}

-- a reading of no hop, and of one
pub added_own : {a : Open} (n : ℕ) → n ≡ 0 → ReadingAdded (unpack n) a a Own
unfolding is_listed location_of
added_own n h = rw (h, unpack-none) (record {
  grown = grown_short [] (omega arith);
  found = λ f. record { located = record { at_is = refl; wants = tt }; listed = refl };
  numbered = tt;
})

pub added_cell : {a : Open} (n : ℕ) → 1 ≤ n → n ≤ 16 → ReadingAdded (unpack n) a a (Cell (n - 1))
unfolding is_listed location_of
added_cell n p h = rw (unpack-last n p h) (record {
  grown = grown_short ((n - 1) ∷ []) (omega arith);
  found = λ f. record { located = record { at_is = refl; wants = tt }; listed = refl };
  numbered = omega arith;
})

-- of any other, where the plan is full
pub added_full : {a : Open} (w : List ℕ) → a.full ≡ true → ReadingAdded w a a Own
added_full w h = record { grown = grown_full (w ∷ []) h; found = λ f. true_false h f; numbered = tt }

-- lines that are listed are so where there are more, at the same locations
listed_more : {n m : ℕ} → n ≤ m → (x : Location) → is_listed n x ≡ true → is_listed m x ≡ true
unfolding is_listed
listed_more k Own h = refl
listed_more k (Cell f) h = refl
listed_more {n} {m} k (Line i) h = lt-ltb i m (omega (arith, ltb-true i n h))

listed-stays : (l m : List Fact) (w : List ℕ) → is_listed (length l) (location_of l w) ≡ true → location_of (l ++ m) w ≡ location_of l w
unfolding is_listed location_of
listed-stays l m [] h = refl
listed-stays l m (f ∷ []) h = refl
listed-stays l m (f ∷ g ∷ w) h = ap Line (place-append-listed l m (read (f ∷ g ∷ w)) (ltb-true _ (length l) h))

-- a line that is wanted is so where one more is
wants_more : (wanted : List Bool) (i : ℕ) (x : Location) → Wants wanted x → Wants (set wanted i true) x
wants_more wanted i Own h = tt
wants_more wanted i (Cell f) h = tt
wants_more wanted i (Line k) h = go (ℕ_discrete k i)
  where
    inside : k < length wanted
    inside =
        ⊎_elim (λ (b : k < length wanted). b) (λ (b : length wanted ≤ k). true_false h (get_or-eq_default wanted false {n = k} b)) (lt_or_le k (length wanted))

    go : Dec (k ≡ i) → get_or (set wanted i true) k false ≡ true
    go (yes e) = rw (← e) (get_or-set_same wanted k true false inside)
    go (no n) = get_or-set_other wanted i k true false n ∙ h

-- a plan holds its own lines
pub own-lines : {p : Plan} {l : List Fact} → HoldsLines p l → HoldsLines p (facts p)
own-lines h = rw h.facts_are h

-- a reading of several hops whose lines are added
abbrev line_of : Plan → List ℕ → ℕ
line_of q w = line_index (facts q) (read w)

module _ (p q : Plan) (w : List ℕ) (two : 2 ≤ length w) (held : HoldsLines q (add (facts p) (read w))) where
  pub line-below : line_of q w < q.count
  line-below = rw held.facts_are (omega (arith, add_had (facts p) (read w) two, holds_count held))

  pub line_found : place (facts q) (read w) ≡ Some (line_of q w)
  line_found = place_had (facts q) (read w) (omega (arith, line-below, holds_count (own-lines held)))

  -- it is the last, if any was added
  pub line-last : HoldsLines p (facts p) → p.count < q.count → line_of q w ≡ q.count - 1
  line-last own more = rw held.facts_are
      (⊎_elim (λ (b : line_index (facts p) (read w) < length (facts p)).
      absurd (omega (arith, holds_count held, holds_count own, ap length (add-listed (facts p) (read w) b)))) last
      (lt_or_le (line_index (facts p) (read w)) (length (facts p))))
    where
      last : length (facts p) ≤ line_index (facts p) (read w) → line_index (add (facts p) (read w)) (read w) ≡ q.count - 1
      last b =
          let f = read w in
          let l = add (add (facts p) (back_need f)) (read_need f) in
          let both : add (facts p) f ≡ l ++ (f ∷ []) = add-both (facts p) f two b in
          let end : line_index (l ++ (f ∷ [])) f ≡ length l = place-append-last l f (add-next (facts p) f two b).new in
          let size = ap length both ∙ length-append l (f ∷ []) in
          rw both (end ∙ omega (arith, holds_count held, size))

pub some_is : {i j : ℕ} → Some i ≡ Some j → i ≡ j
some_is e = ap (λ (o : Option ℕ). option_map_or (λ i. i) o 0) e

-- there is no room
pub added_over : {a b : Open} (w : List ℕ) → a.full ≡ false → b.full ≡ true → Extended (add (facts a.plan) (read w)) (record { plan = b.plan; full = b.full })
    → ReadingAdded w a b Own
added_over {a} w n full e = record {
  grown = record {
    kept = λ k. true_false full k;
    more = λ k. true_false full k;
    extends = λ ws x. extended-plan ws w (extended-holds x n) e;
    stays = λ k. true_false full k;
  };
  found = λ k. true_false full k;
  numbered = tt;
}

-- or the reading's line is wanted from now on
module _ (a b : Open) (w : List ℕ) (two : 2 ≤ length w) (n : a.full ≡ false) (marks : length a.wanted ≡ 64) (full_is : b.full ≡ false)
    (e : Extended (add (facts a.plan) (read w)) (record { plan = b.plan; full = false }))
    (i : ℕ) (line_is : i ≡ line_index (facts b.plan) (read w)) (wanted_is : b.wanted ≡ set a.wanted i true) where
  abbrev held : HoldsLines b.plan (add (facts a.plan) (read w))
  held = extended-holds e refl

  own_count : length (facts a.plan) ≡ a.plan.count
  own_count = holds_count (a.holds n)

  more-lines : a.plan.count ≤ b.plan.count
  more-lines = omega (arith, holds_count held, own_count, grows_length (add_grows (facts a.plan) (read w)))

  stays : (x : Location) (v : List ℕ) → WordPlaced a x v → WordPlaced b x v
  stays x v h =
      let (m, g) = grows_append (add_grows (facts a.plan) (read w)) in
      let listed : is_listed (length (facts a.plan)) (location_of (facts a.plan) v) ≡ true = rw (own_count, ← h.located.at_is) h.listed in
      record {
        located = record {
          at_is = h.located.at_is ∙ sym (listed-stays (facts a.plan) m v listed) ∙ ap (λ (l : List Fact). location_of l v) (sym (held.facts_are ∙ g));
          wants = rw wanted_is (wants_more a.wanted i x h.located.wants);
        };
        listed = listed_more more-lines x h.listed;
      }

  pub added-line : ReadingAdded w a b (Line i)
  unfolding is_listed
  added-line =
      let below : line_index (facts b.plan) (read w) < b.plan.count = line-below a.plan b.plan w two held in
      record {
        grown = record {
          kept = λ z. n;
          more = λ z. more-lines;
          extends = λ ws x. rw full_is (extended-plan ws w (extended-holds x n) e);
          stays = λ z. stays;
        };
        found = λ z. record {
          located = record {
            at_is = ap Line line_is ∙ sym (location_line (facts b.plan) w two);
            wants = rw wanted_is (get_or-set_same a.wanted i true false (omega (arith, line_is, below, marks, held.keyed)));
          };
          listed = lt-ltb i b.plan.count (omega (arith, line_is, below));
        };
        numbered = omega (arith, line_is, below, held.keyed);
      }
