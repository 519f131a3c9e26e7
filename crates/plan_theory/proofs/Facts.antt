-- The laws of a fact's needs, tree and round, in which no depth shows, and the induction over facts.
use mathlib.Core.Path.{◌≡◌, refl, ap, ◌∙◌}
use mathlib.Core.List.{List, [], ◌++◌, append_assoc, append-nil}
use mathlib.Core.Logic.{⊎_elim}
use Prim.Native.Nat.{ℕ, zero, suc, ◌-◌, ◌≤◌, ◌<◌, max}
use native.Mathlib.Omega.{arith}
use native.Mathlib.Decide.{le_ind}
use lib.ListN.{length, length-take, length-drop, take-append-drop}
use borrow.Author.Tests.{lt-ltb, le-ltb}
use Rattle.plan_theory.specs.Plan.{half, front, rest, Fact, back, read, word, hops, line_from, back_need, read_need, none, one, both, tree_within, tree, rounds, round}
use Rattle.plan_theory.specs.Promise.{Needed, itself, by_back, by_read}
use Rattle.laws.proofs.Cases.{lt_or_le}
use Rattle.plan_theory.proofs.Half.{half-below, half_pos}

pub front_rest : (c : List ℕ) → front c ++ rest c ≡ c
unfolding front rest
front_rest c = take-append-drop (half (length c)) c

pub front_length : (c : List ℕ) → 2 ≤ length c → length (front c) ≡ half (length c)
unfolding front
front_length c h = simp length-take (omega (arith, half-below (length c) h))

pub rest-length : (c : List ℕ) → length (rest c) ≡ length c - half (length c)
unfolding rest
rest-length c = simp length-drop

pub back_need-shorter : (f : Fact) → 2 ≤ hops f → hops (back_need f) < hops f
back_need-shorter f h = omega (arith, front_length (word f) h, half-below (hops f) h)

pub read_need-shorter : (f : Fact) → 2 ≤ hops f → hops (read_need f) < hops f
read_need-shorter f h = omega (arith, rest-length (word f), half_pos (hops f))

pub line-from_le : (f : Fact) → line_from f ≤ 2
line-from_le (back w) = omega arith
line-from_le (read w) = omega arith

pub line-from-pos : (f : Fact) → 1 ≤ line_from f
line-from-pos (back w) = omega arith
line-from-pos (read w) = omega arith

-- a fact has no line, a line without needs, or a line with two needs
pub fact-cases : (P : Type 0) (f : Fact) → (hops f < line_from f → P) → (line_from f ≤ hops f → hops f < 2 → P) → (2 ≤ hops f → P) → P
fact-cases P f none-case one-case both-case =
    ⊎_elim none-case (λ h. ⊎_elim (one-case h) both-case (lt_or_le (hops f) 2)) (lt_or_le (hops f) (line_from f))

-- the tree in each of the three cases, down to a depth
within_none : (n : ℕ) (f : Fact) → hops f < line_from f → tree_within n f ≡ none
unfolding tree_within
within_none zero f h = refl
within_none (suc n) f h = rw (lt-ltb (hops f) (line_from f) h, tree_within)

within-one : (n : ℕ) (f : Fact) → line_from f ≤ hops f → hops f < 2 → tree_within (suc n) f ≡ one f
unfolding tree_within
within-one n f h l = rw (le-ltb (hops f) (line_from f) h, lt-ltb (hops f) 2 l, tree_within)

within_both : (n : ℕ) (f : Fact) → 2 ≤ hops f → tree_within (suc n) f ≡ both f (tree_within n (back_need f)) (tree_within n (read_need f))
unfolding tree_within
within_both n f h = rw (le-ltb (hops f) (line_from f) (omega (arith, line-from_le f)), le-ltb (hops f) 2 h, tree_within)

-- a depth of the fact's hops is enough: one more changes nothing
within_more : (n : ℕ) (f : Fact) → hops f ≤ n → tree_within (suc n) f ≡ tree_within n f
within_more zero f h =
    let l : hops f < line_from f = omega (arith, line-from-pos f) in
    cc (within_none 1 f l, within_none 0 f l)
within_more (suc n) f h =
    fact-cases (tree_within (suc (suc n)) f ≡ tree_within (suc n) f) f
    (λ l. cc (within_none (suc (suc n)) f l, within_none (suc n) f l))
    (λ l u. cc (within-one (suc n) f l u, within-one n f l u))
    (λ l.
    cc (
      within_both (suc n) f l,
      within_both n f l,
      within_more n (back_need f) (omega (arith, back_need-shorter f l)),
      within_more n (read_need f) (omega (arith, read_need-shorter f l)),
    ))

within-enough : (n : ℕ) (f : Fact) → hops f ≤ n → tree_within n f ≡ tree f
unfolding tree
within-enough n f h = le_ind (λ m. tree_within m f ≡ tree_within (hops f) f) refl (λ m l r. within_more m f l ∙ r) n h

pub tree-none : (f : Fact) → hops f < line_from f → tree f ≡ none
unfolding tree
tree-none f h = within_none (hops f) f h

pub tree-one : (f : Fact) → line_from f ≤ hops f → hops f < 2 → tree f ≡ one f
tree-one f h l = cc (within-enough (suc (hops f)) f (omega arith), within-one (hops f) f h l)

pub tree-both : (f : Fact) → 2 ≤ hops f → tree f ≡ both f (tree (back_need f)) (tree (read_need f))
tree-both f h =
    cc (
      within-enough (suc (hops f)) f (omega arith),
      within_both (hops f) f h,
      within-enough (hops f) (back_need f) (omega (arith, back_need-shorter f h)),
      within-enough (hops f) (read_need f) (omega (arith, read_need-shorter f h)),
    )

pub round-none : (f : Fact) → hops f < line_from f → round f ≡ 0
unfolding round rounds
round-none f h = ap rounds (tree-none f h)

pub round-one : (f : Fact) → line_from f ≤ hops f → hops f < 2 → round f ≡ 1
unfolding round rounds
round-one f h l = ap rounds (tree-one f h l)

-- a line's round is one more than the later of its two needs
pub round-both : (f : Fact) → 2 ≤ hops f → round f ≡ suc (max (round (back_need f)) (round (read_need f)))
unfolding round rounds
round-both f h = ap rounds (tree-both f h)

-- Back and Read of a word have the same needs
pub round-back-read : (w : List ℕ) → 2 ≤ length w → round (back w) ≡ round (read w)
round-back-read w h = cc (round-both (back w) h, round-both (read w) h)

-- the facts with a line are those with a round from 1 on ..
pub round-line : (f : Fact) → line_from f ≤ hops f → 1 ≤ round f
round-line f h = fact-cases (1 ≤ round f) f (λ l. omega arith) (λ l u. omega (arith, round-one f l u)) (λ l. omega (arith, round-both f l))

pub line-round : (f : Fact) → 1 ≤ round f → line_from f ≤ hops f
line-round f h = ⊎_elim (λ l. omega (arith, round-none f l)) (λ l. l) (lt_or_le (hops f) (line_from f))

-- .. and those of two or more hops those with a later round
pub later_round : (f : Fact) → 2 ≤ round f → 2 ≤ hops f
later_round f h = fact-cases (2 ≤ hops f) f (λ l. omega (arith, round-none f l)) (λ l u. omega (arith, round-one f l u)) (λ l. l)

-- induction: what holds of each fact whose needs it holds of holds of every fact
module _
    (P : Fact → Type 0)
    (none-case : (f : Fact) → hops f < line_from f → P f)
    (one-case : (f : Fact) → line_from f ≤ hops f → hops f < 2 → P f)
    (both-case : (f : Fact) → 2 ≤ hops f → P (back_need f) → P (read_need f) → P f) where
  fact_ind_within : (n : ℕ) (f : Fact) → hops f ≤ n → P f
  fact_ind_within zero f h = none-case f (omega (arith, line-from-pos f))
  fact_ind_within (suc n) f h =
      fact-cases (P f) f (none-case f) (one-case f)
      (λ l.
      both-case f l (fact_ind_within n (back_need f) (omega (arith, back_need-shorter f l)))
      (fact_ind_within n (read_need f) (omega (arith, read_need-shorter f l))))

  pub fact_ind : (f : Fact) → P f
  fact_ind f = fact_ind_within (hops f) f (omega arith)

-- a fact has no more rounds than hops
pub round-hops : (f : Fact) → round f ≤ hops f
round-hops =
    fact_ind (λ f. round f ≤ hops f)
    (λ f h. omega (arith, round-none f h))
    (λ f h l. omega (arith, round-one f h l, line-from-pos f))
    (λ f h s t. omega (arith, round-both f h, back_need-shorter f h, read_need-shorter f h))

-- what passes from each fact to its needs passes to all that is needed for a fact
pub needed_ind : (Q : Fact → Type 0) → ((f : Fact) → 2 ≤ hops f → Q f → Q (back_need f) × Q (read_need f)) → {f g : Fact} → Needed f g → Q f → Q g
needed_ind Q pass (itself f) q = q
needed_ind Q pass (by_back {f = f} h n) q = needed_ind Q pass n (pass f h q).0
needed_ind Q pass (by_read {f = f} h n) q = needed_ind Q pass n (pass f h q).1

pub needed-hops : {f g : Fact} → Needed f g → hops g ≤ hops f
needed-hops {f} n =
    needed_ind (λ g. hops g ≤ hops f) (λ g h q. (omega (arith, back_need-shorter g h), omega (arith, read_need-shorter g h))) n (omega arith)

-- v is a contiguous part of w
pub record Part (v w : List ℕ) : Type 0 where
  pub before : List ℕ
  pub after : List ℕ
  pub whole : w ≡ before ++ (v ++ after)

part_split : (u v : List ℕ) {w : List ℕ} → Part (u ++ v) w → Part u w × Part v w
part_split u v p = (
  record { before = p.before; after = v ++ p.after; whole = p.whole ∙ simp append_assoc },
  record { before = p.before ++ u; after = p.after; whole = p.whole ∙ simp append_assoc },
)

-- the hops of what is needed are a contiguous part of the fact's
pub needed_part : {f g : Fact} → Needed f g → Part (word g) (word f)
needed_part {f} n =
    needed_ind (λ g. Part (word g) (word f)) (λ g h p. part_split (front (word g)) (rest (word g)) (rw front_rest p)) n
    (record { before = []; after = []; whole = simp append-nil })
