-- The form of a chain of any length, without going inwards: the letters that open, `u`, and as many `]`.
use Prim.Native.Nat.{ℕ, zero, suc, ◌+◌, ◌*◌, ◌<◌}
use mathlib.Core.Path.{◌≡◌, refl, sym, ap, ap₂, ◌∙◌}
use mathlib.Core.Bool.{Bool, true, false, cond, ◌&&◌}
use mathlib.Core.List.{List, [], ◌∷◌, ◌++◌, append_assoc}
use native.Mathlib.Omega.{arith}
use native.Mathlib.Numerals.{add-one}
use native.Mathlib.Decide.{dec_lt}
use borrow.Author.Tests.{eqb-true}
use lib.Dec.{eqb}
use lib.ListN.{length, drop}
use lib.Seq.{drop-drop}
use Rattle.laws.proofs.Bools.{and_both, and-true, true_false}
use Rattle.chain_text.specs.Text.{is_capital, Form, formed, unformed, printed, form}
use Rattle.laws.specs.Lists.{every}
use Rattle.chain_text.specs.Scan.{starts_with, open_letters, closes}
use Rattle.chain_text.proofs.Forms.{spelled, printed-form}

-- the letters, each with `[`, in front of a text; and n times `]`
spread : List ℕ → List ℕ → List ℕ
spread [] t = t
spread (l ∷ ls) t = l ∷ 91 ∷ spread ls t

closers : ℕ → List ℕ → List ℕ
closers zero t = t
closers (suc n) t = 93 ∷ closers n t

closers-more : (n : ℕ) (t : List ℕ) → closers n (93 ∷ t) ≡ 93 ∷ closers n t
unfolding closers
closers-more zero t = refl
closers-more (suc n) t = ap (λ (r : List ℕ). 93 ∷ r) (closers-more n t)

printed_flat : (ls r : List ℕ) → printed ls ++ r ≡ spread ls (117 ∷ closers (length ls) r)
unfolding printed spread closers
printed_flat [] r = refl
printed_flat (l ∷ ls) r =
    ap (λ (t : List ℕ). l ∷ 91 ∷ t)
    (append_assoc (printed ls) (93 ∷ []) r ∙ printed_flat ls (93 ∷ r) ∙ ap (λ (t : List ℕ). spread ls (117 ∷ t)) (closers-more (length ls) r))

next : (n : ℕ) → 2 * suc n ≡ suc (suc (2 * n))
next n = omega arith

-- what the tests see in a printed text
spread-drop : (ls t : List ℕ) → drop (2 * length ls) (spread ls t) ≡ t
unfolding spread
spread-drop [] t = refl
spread-drop (l ∷ ls) t = ap (λ (n : ℕ). drop n (l ∷ 91 ∷ spread ls t)) (next (length ls)) ∙ spread-drop ls t

spread-letters : (ls r : List ℕ) → every is_capital ls ≡ true → open_letters (spread ls (117 ∷ r)) ≡ ls
unfolding spread open_letters every is_capital
spread-letters [] [] h = refl
spread-letters [] (d ∷ r) h = refl
spread-letters (l ∷ ls) r h =
    let both = and_both (is_capital l) (every is_capital ls) h in
    ap (λ (x : Bool). cond (x && true) (l ∷ open_letters (spread ls (117 ∷ r))) []) both.0
    ∙ ap (λ (w : List ℕ). l ∷ w) (spread-letters ls r both.1)

closers-drop : (n k : ℕ) (t : List ℕ) → k < n → starts_with 93 (drop k (closers n t)) ≡ true
unfolding closers starts_with
closers-drop zero k t h = absurd (omega arith)
closers-drop (suc n) zero t h = refl
closers-drop (suc n) (suc k) t h = closers-drop n k t (omega arith)

-- `closes` says that each of the n bytes is `]`
pub closes_each : (n : ℕ) (t : List ℕ) → ((k : ℕ) → k < n → starts_with 93 (drop k t) ≡ true) → closes n t ≡ true
unfolding closes
closes_each zero t h = refl
closes_each (suc n) t h = sym (and-true (starts_with 93 (drop n t)) (closes_each n t (λ k l. h k (omega arith)))) ∙ h n (omega arith)

closes_all : (n k : ℕ) (t : List ℕ) → closes n t ≡ true → k < n → starts_with 93 (drop k t) ≡ true
unfolding closes
closes_all zero k t e h = absurd (omega arith)
closes_all (suc n) k t e h = go (closes_all n k t both.0) (dec_lt k n)
  where
    both : (closes n t ≡ true) × (starts_with 93 (drop n t) ≡ true)
    both = and_both (closes n t) (starts_with 93 (drop n t)) e

    go : (k < n → starts_with 93 (drop k t) ≡ true) → Dec (k < n) → starts_with 93 (drop k t) ≡ true
    go r (yes l) = r l
    go r (no l) = let q : k ≡ n = omega arith in ap (λ (m : ℕ). starts_with 93 (drop m t)) q ∙ both.1

pub closes-not : (n k : ℕ) (t : List ℕ) → k < n → starts_with 93 (drop k t) ≡ false → closes n t ≡ false
closes-not n k t h e = go (closes n t) refl
  where
    go : (x : Bool) → closes n t ≡ x → closes n t ≡ false
    go true q = true_false (closes_all n k t q h) e
    go false q = q

pub closes-more : (n : ℕ) (t : List ℕ) → closes n t ≡ true → starts_with 93 (drop n t) ≡ true → closes (suc n) t ≡ true
unfolding closes
closes-more n t h e = sym (and-true (starts_with 93 (drop n t)) h) ∙ e

-- what the tests say of a text
starts_is : (b : ℕ) (t : List ℕ) → starts_with b t ≡ true → t ≡ b ∷ drop 1 t
unfolding starts_with
starts_is b [] h = true_false h refl
starts_is b (a ∷ t) h = ap (λ (c : ℕ). c ∷ t) (eqb-true a b h)

closes-is : (n : ℕ) (t : List ℕ) → closes n t ≡ true → t ≡ closers n (drop n t)
unfolding closes closers
closes-is zero t h = refl
closes-is (suc n) t h =
    let both = and_both (closes n t) (starts_with 93 (drop n t)) h in
    closes-is n t both.0
    ∙ ap (closers n) (starts_is 93 (drop n t) both.1 ∙ ap (λ (r : List ℕ). 93 ∷ r) (drop-drop 1 n t ∙ ap (λ (k : ℕ). drop k t) (add-one n)))
    ∙ closers-more n (drop (suc n) t)

open_spread : (t : List ℕ) → t ≡ spread (open_letters t) (drop (2 * length (open_letters t)) t)
unfolding spread open_letters
open_spread [] = refl
open_spread (l ∷ []) = refl
open_spread (l ∷ d ∷ t) = go (open_spread t) (is_capital l && eqb d 91) refl
  where
    go : t ≡ spread (open_letters t) (drop (2 * length (open_letters t)) t) → (x : Bool) → is_capital l && eqb d 91 ≡ x
        → l ∷ d ∷ t ≡ spread (cond x (l ∷ open_letters t) []) (drop (2 * length (cond x (l ∷ open_letters t) [])) (l ∷ d ∷ t))
    go ih true h =
        ap₂ (λ (c : ℕ) (r : List ℕ). l ∷ c ∷ r) (eqb-true d 91 (and_both (is_capital l) (eqb d 91) h).1) ih
        ∙ ap (λ (n : ℕ). l ∷ 91 ∷ spread (open_letters t) (drop n (l ∷ d ∷ t))) (sym (next (length (open_letters t))))
    go ih false h = refl

open_capitals : (t : List ℕ) → every is_capital (open_letters t) ≡ true
unfolding open_letters every
open_capitals [] = refl
open_capitals (l ∷ []) = refl
open_capitals (l ∷ d ∷ t) = go (open_capitals t) (is_capital l && eqb d 91) refl
  where
    go : every is_capital (open_letters t) ≡ true → (x : Bool) → is_capital l && eqb d 91 ≡ x → every is_capital (cond x (l ∷ open_letters t) []) ≡ true
    go ih true h = sym (and-true (every is_capital (open_letters t)) (and_both (is_capital l) (eqb d 91) h).0) ∙ ih
    go ih false h = refl

module _ (t : List ℕ) where
  letters : List ℕ
  letters = open_letters t

  -- a text of the form passes both tests
  flat_tests : (ls r : List ℕ) → form t ≡ formed ls r → (starts_with 117 (drop (2 * length letters) t) ≡ true) × (closes (length letters) (drop (2 * length letters + 1) t) ≡ true)
  unfolding letters starts_with
  flat_tests ls r e =
      let w = spelled t ls r e in
      let text : t ≡ spread ls (117 ∷ closers (length ls) r) = w.text ∙ printed_flat ls r in
      let same : open_letters t ≡ ls = ap open_letters text ∙ spread-letters ls (closers (length ls) r) w.capitals in
      let behind : drop (2 * length (open_letters t)) t ≡ 117 ∷ closers (length ls) r =
      ap₂ (λ (n : ℕ) (l : List ℕ). drop (2 * n) l) (ap length same) text ∙ spread-drop ls (117 ∷ closers (length ls) r) in
      let tail : drop (2 * length (open_letters t) + 1) t ≡ closers (length ls) r =
      sym (drop-drop 1 (2 * length (open_letters t)) t) ∙ ap (drop 1) behind in (
        ap (starts_with 117) behind,
        ap₂ (λ (n : ℕ) (l : List ℕ). closes n l) (ap length same) tail ∙ closes_each (length ls) (closers (length ls) r) (λ k h. closers-drop (length ls) k r h),
      )

  unless-formed : ((ls r : List ℕ) → form t ≡ formed ls r → form t ≡ unformed) → form t ≡ unformed
  unless-formed f = go (form t) refl
    where
      go : (x : Form) → form t ≡ x → form t ≡ unformed
      go (formed ls r) e = f ls r e
      go unformed e = e

  pub flat_no_u : starts_with 117 (drop (2 * length (open_letters t)) t) ≡ false → form t ≡ unformed
  unfolding letters
  flat_no_u h = unless-formed (λ ls r e. true_false (flat_tests ls r e).0 h)

  pub flat_no_close : closes (length (open_letters t)) (drop (2 * length (open_letters t) + 1) t) ≡ false → form t ≡ unformed
  unfolding letters
  flat_no_close h = unless-formed (λ ls r e. true_false (flat_tests ls r e).1 h)

  pub flat_formed : starts_with 117 (drop (2 * length (open_letters t)) t) ≡ true → closes (length (open_letters t)) (drop (2 * length (open_letters t) + 1) t) ≡ true
      → form t ≡ formed (open_letters t) (drop (3 * length (open_letters t) + 1) t)
  flat_formed u c =
      let ls : List ℕ = open_letters t in
      let n : ℕ = length ls in
      let rest : List ℕ = drop n (drop (2 * n + 1) t) in
      let inner : drop (2 * n) t ≡ 117 ∷ closers n rest =
      starts_is 117 (drop (2 * n) t) u ∙ ap (λ (r : List ℕ). 117 ∷ r) (drop-drop 1 (2 * n) t ∙ closes-is n (drop (2 * n + 1) t) c) in
      let text : t ≡ printed ls ++ rest = open_spread t ∙ ap (spread ls) inner ∙ sym (printed_flat ls rest) in
      let place : 2 * n + 1 + n ≡ 3 * n + 1 = omega arith in
      ap form text ∙ printed-form ls rest (open_capitals t) ∙ ap (formed ls) (drop-drop n (2 * n + 1) t ∙ ap (λ (k : ℕ). drop k t) place)
