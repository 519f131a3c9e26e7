-- The laws of adding a fact or readings to lines: an equation for each sort of fact, and a sequence of appended lines, each of which may stand there.
use mathlib.Core.Path.{◌≡◌, refl, ap, ◌∙◌}
use mathlib.Core.Bool.{true, false}
use mathlib.Core.List.{List, [], ◌∷◌, ◌++◌, append_assoc, append-nil, Memᴰ}
use mathlib.Core.Logic.{⊎_elim}
use Prim.Native.Nat.{ℕ, ◌≤◌, ◌<◌}
use native.Mathlib.Omega.{arith}
use lib.ListN.{length, length-append}
use borrow.Author.Tests.{lt-ltb, le-ltb}
use Rattle.plan_theory.specs.Plan.{Fact, read, hops, line_from, back_need, read_need, line_index, listed, with_tree, add, add_readings, plan}
use Rattle.plan_theory.specs.Promise.{Needed, itself, by_back, by_read, Wanted, Had, Next}
use Rattle.laws.proofs.Cases.{lt_or_le}
use Rattle.plan_theory.proofs.Facts.{tree-none, tree-one, tree-both, fact-cases, line-from_le, back_need-shorter, read_need-shorter, fact_ind, needed-hops}
use Rattle.plan_theory.proofs.Places.{place-append-listed, place-append_new, place-append-last, place-past}

pub add_none : (l : List Fact) (f : Fact) → hops f < line_from f → add l f ≡ l
unfolding add with_tree
add_none l f h = rw (tree-none f h)

module _ (l : List Fact) (f : Fact) where
  pub listed-old : line_index l f < length l → listed l f ≡ true
  unfolding listed
  listed-old h = lt-ltb (line_index l f) (length l) h

  pub listed_new : length l ≤ line_index l f → listed l f ≡ false
  unfolding listed
  listed_new h = le-ltb (line_index l f) (length l) h

  -- a fact already listed is not listed again
  pub add-listed : line_index l f < length l → add l f ≡ l
  unfolding add with_tree
  add-listed h =
      fact-cases (add l f ≡ l) f
      (add_none l f)
      (λ p q. rw (tree-one f p q, listed-old h, with_tree))
      (λ p. rw (tree-both f p, listed-old h, with_tree))

  pub add-one : line_from f ≤ hops f → hops f < 2 → length l ≤ line_index l f → add l f ≡ l ++ (f ∷ [])
  unfolding add with_tree
  add-one p q h = rw (tree-one f p q, listed_new h, with_tree)

  -- a needed fact's lines come first: Back(a), Read(b), then itself
  pub add-both : 2 ≤ hops f → length l ≤ line_index l f → add l f ≡ add (add l (back_need f)) (read_need f) ++ (f ∷ [])
  unfolding add with_tree
  add-both p h = rw (tree-both f p, listed_new h, with_tree)

-- m is l with lines appended one by one, each of which may stand there and has the property Q
pub data Grows (Q : Fact → Type 0) (l : List Fact) : List Fact → Type 0 where
  stays : Grows Q l l
  appends : {m : List Fact} {f : Fact} → Grows Q l m → Q f → Next m f → Grows Q l (m ++ (f ∷ []))

module _ {Q R : Fact → Type 0} {l : List Fact} where
  pub grows_map : {m : List Fact} → ((f : Fact) → Q f → R f) → Grows Q l m → Grows R l m
  grows_map t stays = stays
  grows_map t (appends {f = f} s q n) = appends (grows_map t s) (t f q) n

module _ {Q : Fact → Type 0} {l : List Fact} where
  pub grows_trans : {m n : List Fact} → Grows Q l m → Grows Q m n → Grows Q l n
  grows_trans s stays = s
  grows_trans s (appends t q n) = appends (grows_trans s t) q n

  -- lines stay as they are where others are appended
  pub grows_append : {m : List Fact} → Grows Q l m → (r : List Fact) × (m ≡ l ++ r)
  grows_append stays = ([], simp append-nil)
  grows_append (appends {f = f} s q n) = let (r, e) = grows_append s in (r ++ (f ∷ []), ap (λ k. k ++ (f ∷ [])) e ∙ append_assoc l r (f ∷ []))

  pub grows_length : {m : List Fact} → Grows Q l m → length l ≤ length m
  grows_length s = let (r, e) = grows_append s in omega (arith, simp length-append at (ap length e))

  pub grows_had : {m : List Fact} (f : Fact) → Grows Q l m → Had l f → Had m f
  grows_had f s h p =
      let (r, e) = grows_append s in
      rw e (simp length-append (omega (arith, place-append-listed l r f (h p), h p)))

  -- a fact that is none of the appended lines stays unlisted
  pub grows_new : {m : List Fact} (f : Fact) → Grows Q l m → ((g : Fact) → Q g → g ≡ f → ⊥) → length l ≤ line_index l f → length m ≤ line_index m f
  grows_new f stays other h = h
  grows_new f (appends {m = m} {f = g} s q n) other h =
      simp length-append
      (omega (
        arith,
        place-append_new m (g ∷ []) f (grows_new f s other h),
        place-past (g ∷ []) f 0 (omega arith) (omega arith) (other g q),
      ))

needed-other : {f g h : Fact} → hops f < hops h → Needed f g → g ≡ h → ⊥
needed-other s n e = omega (arith, needed-hops n, ap hops e)

-- the lines that adding a fact appends are needed for it, and it is then among them
abbrev Grown : List Fact → Fact → Type 0
Grown l f = Grows (Needed f) l (add l f) × Had (add l f) f

grown_listed : (l : List Fact) (f : Fact) → line_index l f < length l → Grown l f
grown_listed l f h = rw (add-listed l f h) (stays, λ _. h)

grown_next : (l m : List Fact) (f : Fact) → add l f ≡ m ++ (f ∷ []) → Grows (Needed f) l m → Next m f → Grown l f
grown_next l m f e s n = rw e (appends s (itself f) n, λ _. simp length-append (omega (arith, place-append-last m f n.new)))

grown_one : (l : List Fact) (f : Fact) → line_from f ≤ hops f → hops f < 2 → length l ≤ line_index l f → Grown l f
grown_one l f p q h = grown_next l l f (add-one l f p q h) stays (record { has_line = p; new = h; needs = λ r. absurd (omega arith) })

module _ (f : Fact) (p : 2 ≤ hops f) (grown-back : (l : List Fact) → Grown l (back_need f)) (grown-read : (l : List Fact) → Grown l (read_need f)) where
  next_both : (l : List Fact) → length l ≤ line_index l f → Next (add (add l (back_need f)) (read_need f)) f
  next_both l h =
      let s = grown-back l in
      let t = grown-read (add l (back_need f)) in
      record {
        has_line = omega (arith, line-from_le f);
        new = grows_new f t.0 (λ g. needed-other (read_need-shorter f p)) (grows_new f s.0 (λ g. needed-other (back_need-shorter f p)) h);
        needs = λ _. (grows_had (back_need f) t.0 s.1, t.1);
      }

  grown_both : (l : List Fact) → length l ≤ line_index l f → Grown l f
  grown_both l h =
      grown_next l (add (add l (back_need f)) (read_need f)) f (add-both l f p h)
      (grows_trans (grows_map (λ g. by_back p) (grown-back l).0) (grows_map (λ g. by_read p) (grown-read (add l (back_need f))).0))
      (next_both l h)

add_grown : (f : Fact) (l : List Fact) → Grown l f
add_grown =
    fact_ind (λ f. (l : List Fact) → Grown l f)
    (λ f h l. rw (add_none l f h) (stays, λ p. absurd (omega arith)))
    (λ f p q l. ⊎_elim (grown_listed l f) (grown_one l f p q) (lt_or_le (line_index l f) (length l)))
    (λ f p s t l. ⊎_elim (grown_listed l f) (grown_both f p s t l) (lt_or_le (line_index l f) (length l)))

-- adding a fact appends, one by one, lines that are needed for it
pub add_grows : (l : List Fact) (f : Fact) → Grows (Needed f) l (add l f)
add_grows l f = (add_grown f l).0

-- and the fact is then among them
pub add_had : (l : List Fact) (f : Fact) → Had (add l f) f
add_had l f = (add_grown f l).1

-- after its needs a fact that is not listed yet may stand
pub add-next : (l : List Fact) (f : Fact) → 2 ≤ hops f → length l ≤ line_index l f → Next (add (add l (back_need f)) (read_need f)) f
add-next l f p h = next_both f p (add_grown (back_need f)) (add_grown (read_need f)) l h

-- readings may be added one after the other, as a step's rules are walked
pub readings-append : (l : List Fact) (ws vs : List (List ℕ)) → add_readings l (ws ++ vs) ≡ add_readings (add_readings l ws) vs
unfolding add_readings
readings-append l [] vs = refl
readings-append l (w ∷ ws) vs = readings-append (add l (read w)) ws vs

-- adding readings appends, one by one, lines that are needed for one of them
pub readings_grow : (l : List Fact) (ws : List (List ℕ)) → Grows (Wanted ws) l (add_readings l ws)
unfolding add_readings
readings_grow l [] = stays
readings_grow l (w ∷ ws) =
    grows_trans
    (grows_map (λ g n. record { reading = w; among = Memᴰ.head refl; needed = n }) (add_grows l (read w)))
    (grows_map (λ g n. record { reading = n.reading; among = Memᴰ.tail n.among; needed = n.needed }) (readings_grow (add l (read w)) ws))

-- and each reading that has a line is then among them
pub readings_had : {w : List ℕ} (l : List Fact) {ws : List (List ℕ)} → Memᴰ w ws → Had (add_readings l ws) (read w)
unfolding add_readings
readings_had l (Memᴰ.head {x = v} {xs = ws} e) = rw e (grows_had (read v) (readings_grow (add l (read v)) ws) (add_had l (read v)))
readings_had l (Memᴰ.tail {x = v} m) = readings_had (add l (read v)) m

-- the plan of one reading more
pub plan-more : (ws : List (List ℕ)) (w : List ℕ) → plan (ws ++ (w ∷ [])) ≡ add (plan ws) (read w)
unfolding plan add_readings
plan-more ws w = readings-append [] ws (w ∷ [])

-- a plan has no fewer lines than that of fewer readings
pub plan-length : (ws vs : List (List ℕ)) → length (plan ws) ≤ length (plan (ws ++ vs))
unfolding plan
plan-length ws vs = rw (readings-append [] ws vs) (grows_length (readings_grow (add_readings [] ws) vs))
