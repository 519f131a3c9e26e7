-- The chain reader's answers, for what it finds at a place of the text.
use Prim.Native.Nat.{ℕ, suc, ◌+◌, ◌-◌, ◌*◌, ◌^◌, ◌≤◌, ◌<◌}
use mathlib.Core.Path.{◌≡◌, refl, sym, ap, ap₂, ◌∙◌}
use mathlib.Core.Logic.{◌≢◌}
use mathlib.Core.Bool.{Bool, true, false, cond}
use Rattle.std.specs.Prelude.{Some, None}
use mathlib.Core.List.{List, [], ◌∷◌}
use native.Mathlib.Omega.{arith}
use native.Mathlib.Nat.{add-zero}
use native.Mathlib.Numerals.{add-one}
use native.Mathlib.Decide.{dec_lt}
use borrow.Author.Tests.{ne_eqb}
use lib.ListN.{length, get_or, drop}
use lib.Seq.{drop-drop, get_or-drop}
use Rattle.register.specs.declared.Sizes.{Sizes}
use Rattle.laws.proofs.Bools.{and_both, true_false}
use Rattle.chain_text.specs.Text.{is_capital, letter_field, Form, formed, unformed, closed, form}
use Rattle.chain_text.specs.Scan.{starts_with, opens, step, steps, chain_end, scanned_from, Scanned, scanned, open_letters, closes}
use Rattle.chain_text.specs.declared.letters.Letters.{Letters}
use Rattle.chain_text.proofs.Forms
use Rattle.chain_text.proofs.Flat
use Rattle.chain_text.proofs.Steps.{start, steps-summary, capital-field}
use Rattle.chain.proofs.Packing.{push-small}

-- a test that holds stands inside the text
module _ (t : List ℕ) (at : ℕ) where
  pub starts-inside : (b : ℕ) → starts_with b (drop at t) ≡ true → at < length t
  starts-inside b h = go (dec_lt at (length t))
    where
      go : Dec (at < length t) → at < length t
      go (yes l) = l
      go (no l) = true_false h (Forms.starts-past t at b (omega arith))

  pub opens-inside : opens (drop at t) ≡ true → at + 1 < length t
  opens-inside h = go (dec_lt (at + 1) (length t))
    where
      go : Dec (at + 1 < length t) → at + 1 < length t
      go (yes l) = l
      go (no l) = true_false h (Forms.opens-past t at (omega arith))

  pub opens-capital : opens (drop at t) ≡ true → is_capital (get_or t at 0) ≡ true
  opens-capital h = (and_both _ _ (sym (Forms.opens-within t at (opens-inside h)) ∙ h)).0

-- the letters that open
pub open_more : (t : List ℕ) → opens t ≡ true → open_letters t ≡ get_or t 0 0 ∷ open_letters (drop 2 t)
unfolding opens open_letters
open_more [] h = true_false h refl
open_more (l ∷ []) h = true_false h refl
open_more (l ∷ d ∷ t) h = simp h

pub open_none : (t : List ℕ) → opens t ≡ false → open_letters t ≡ []
unfolding opens open_letters
open_none [] h = refl
open_none (l ∷ []) h = refl
open_none (l ∷ d ∷ t) h = simp h

pub first-at : (t : List ℕ) (at : ℕ) → get_or (drop at t) 0 0 ≡ get_or t at 0
first-at t at = get_or-drop at t 0 0 ∙ ap (λ (n : ℕ). get_or t n 0) (add-zero at)

-- the loop over them: what is left at place i comes to the same as the whole
pub record Passed (s : Sizes) (x₀ : Letters) (at : ℕ) (t : List ℕ) (x : Letters) (i : ℕ) : Type 0 where
  pub inside : i ≤ length t
  pub letters : steps s 0 x (open_letters (drop i t)) ≡ steps s 0 x₀ (open_letters (drop at t))
  pub place : i + 2 * length (open_letters (drop i t)) ≡ at + 2 * length (open_letters (drop at t))
  pub packed : x.packed ≡ x₀.packed

pub passed-more : {s : Sizes} {x₀ : Letters} {at : ℕ} {t : List ℕ} {x y : Letters} {i : ℕ} → Passed s x₀ at t x i → opens (drop i t) ≡ true
    → y ≡ step s 0 x (get_or t i 0) → Passed s x₀ at t y (i + 2)
unfolding steps step
passed-more {s} {x₀} {at} {t} {x} {y} {i} p h e =
    let more : open_letters (drop i t) ≡ get_or t i 0 ∷ open_letters (drop (i + 2) t) =
    open_more (drop i t) h ∙ ap₂ (λ (l : ℕ) (r : List ℕ). l ∷ open_letters r) (first-at t i) (drop-drop 2 i t) in
    record {
      inside = omega (arith, opens-inside t i h);
      letters = ap (λ (z : Letters). steps s 0 z (open_letters (drop (i + 2) t))) e ∙ sym (ap (steps s 0 x) more) ∙ p.letters;
      place = omega (arith, p.place, ap length more);
      packed = ap (λ (z : Letters). z.packed) e ∙ p.packed;
    }

-- the end of the loop: nothing opens any more
pub passed-end : {s : Sizes} {x₀ : Letters} {at : ℕ} {t : List ℕ} {x : Letters} {i : ℕ} → Passed s x₀ at t x i → opens (drop i t) ≡ false
    → (x ≡ steps s 0 x₀ (open_letters (drop at t))) × (i ≡ at + 2 * length (open_letters (drop at t)))
unfolding steps
passed-end {s} {x = x} {i = i} p h =
    let none : open_letters (drop i _) ≡ [] = open_none _ h in
    (sym (ap (steps s 0 x) none) ∙ p.letters, omega (arith, p.place, ap length none))

-- one more bracket
pub closes-next : (t : List ℕ) (at n : ℕ) → closes n (drop at t) ≡ true → starts_with 93 (drop (at + n) t) ≡ true → closes (n + 1) (drop at t) ≡ true
closes-next t at n h e = rw add-one (Flat.closes-more n (drop at t) h (ap (starts_with 93) (drop-drop n at t) ∙ e))

pub closes_fails : (t : List ℕ) (at n k : ℕ) → k < n → starts_with 93 (drop (at + k) t) ≡ false → closes n (drop at t) ≡ false
closes_fails t at n k h e = Flat.closes-not n k (drop at t) h (ap (starts_with 93) (drop-drop k at t) ∙ e)

-- the answers for a chain of any length, by the tests at its parts: n letters open, and `end` is behind them
module _ (s : Sizes) (x : Letters) (t : List ℕ) (at end n : ℕ) (is : n ≡ length (open_letters (drop at t))) (there : end ≡ at + 2 * length (open_letters (drop at t))) where
  u-place : starts_with 117 (drop (2 * length (open_letters (drop at t))) (drop at t)) ≡ starts_with 117 (drop end t)
  u-place = ap (starts_with 117) (drop-drop _ at t ∙ ap (λ (k : ℕ). drop k t) (sym there))

  closes-place : closes (length (open_letters (drop at t))) (drop (2 * length (open_letters (drop at t)) + 1) (drop at t)) ≡ closes n (drop (end + 1) t)
  closes-place =
      let place : at + (2 * n + 1) ≡ end + 1 = omega arith in
      ap (λ (k : ℕ). closes k (drop (2 * k + 1) (drop at t))) (sym is) ∙ ap (closes n) (drop-drop (2 * n + 1) at t ∙ ap (λ (k : ℕ). drop k t) place)

  pub long_no_u : false ≡ starts_with 117 (drop end t) → None ≡ scanned_from s 0 x at (form (drop at t))
  unfolding scanned_from
  long_no_u h = sym (ap (scanned_from s 0 x at) (Flat.flat_no_u (drop at t) (u-place ∙ sym h)))

  pub long_no_close : false ≡ closes n (drop (end + 1) t) → None ≡ scanned_from s 0 x at (form (drop at t))
  unfolding scanned_from
  long_no_close h = sym (ap (scanned_from s 0 x at) (Flat.flat_no_close (drop at t) (closes-place ∙ sym h)))

  pub long_chain : (y : Letters) → y ≡ steps s 0 x (open_letters (drop at t)) → true ≡ starts_with 117 (drop end t) → true ≡ closes n (drop (end + 1) t)
      → Some (y, end + 1 + n) ≡ scanned_from s 0 x at (form (drop at t))
  unfolding scanned_from chain_end
  long_chain y e u c =
      let last : end + 1 + n ≡ at + (3 * length (open_letters (drop at t)) + 1) = omega arith in
      ap₂ (λ (z : Letters) (k : ℕ). Some (z, k)) e last
      ∙ sym (ap (scanned_from s 0 x at) (Flat.flat_formed (drop at t) (u-place ∙ sym u) (closes-place ∙ sym c)))

-- the answers by what stands first
module _ (s : Sizes) (k : ℕ) (x : Letters) (at : ℕ) (t : List ℕ) where
  pub first-u : starts_with 117 t ≡ true → scanned_from s k x at (form t) ≡ Some (x, at + 1)
  unfolding scanned_from steps chain_end
  first-u h = ap (scanned_from s k x at) (Forms.form-u t h)

  pub first-none : starts_with 117 t ≡ false → opens t ≡ false → scanned_from s k x at (form t) ≡ None
  unfolding scanned_from
  first-none no-u h = ap (scanned_from s k x at) (Forms.form-none t no-u h)

-- the packed number stays small
pub step_small : (s : Sizes) (k : ℕ) (x : Letters) (l : ℕ) → is_capital l ≡ true → k ≢ 0 → k ≤ 16
    → x.packed + 5 ≤ 5 * 8 ^ (16 - k) → (step s k x l).packed + 5 ≤ 5 * 8 ^ (16 - (k - 1))
unfolding step
step_small s k x l cap h hk small =
    let e : suc (16 - k) ≡ 16 - (k - 1) = omega arith in
    rw (ne_eqb k 0 h, ← e) (push-small x.packed (letter_field l) (16 - k) small (capital-field l cap))

-- an inner chain, read from a text t, with `]` behind it
unfoldable pub closed_by : List ℕ → Scanned → Scanned
closed_by t None = None
closed_by t (Some (x, end)) = cond (starts_with 93 (drop end t)) (Some (x, end + 1)) None

-- a chain in brackets is its inner chain, closed
pub scan-inner : (s : Sizes) (k : ℕ) (x : Letters) (t : List ℕ) (at : ℕ) → opens (drop at t) ≡ true
    → scanned_from s k x at (form (drop at t)) ≡ closed_by t (scanned_from s (k - 1) (step s k x (get_or (drop at t) 0 0)) (at + 2) (form (drop (at + 2) t)))
unfolding scanned_from closed_by steps chain_end
scan-inner s k x t at h =
    ap (scanned_from s k x at) (Forms.form-opens (drop at t) h ∙ ap (λ (r : List ℕ). closed l (form r)) (drop-drop 2 at t)) ∙ go (form (drop (at + 2) t)) refl
  where
    l : ℕ
    l = get_or (drop at t) 0 0

    go : (f : Form) → form (drop (at + 2) t) ≡ f → scanned_from s k x at (closed l f) ≡ closed_by t (scanned_from s (k - 1) (step s k x l) (at + 2) f)
    go unformed e = ap (scanned_from s k x at) (Forms.closed_none l)
    go (formed ls r) e = bracket (starts_with 93 r) refl
      where
        behind : r ≡ drop (at + 2 + (3 * length ls + 1)) t
        behind = Forms.form-rest (drop (at + 2) t) ls r e ∙ drop-drop (3 * length ls + 1) (at + 2) t

        end : at + (3 * suc (length ls) + 1) ≡ at + 2 + (3 * length ls + 1) + 1
        end = omega arith

        y : Letters
        y = steps s (k - 1) (step s k x l) ls

        test : {b : Bool} → starts_with 93 r ≡ b
            → cond {A = Scanned} b (Some (y, at + 2 + (3 * length ls + 1) + 1)) None ≡ cond {A = Scanned} (starts_with 93 (drop (at + 2 + (3 * length ls + 1)) t)) (Some (y, at + 2 + (3 * length ls + 1) + 1)) None
        test q = ap (λ (b : Bool). cond {A = Scanned} b (Some (y, at + 2 + (3 * length ls + 1) + 1)) None) (sym q ∙ ap (starts_with 93) behind)

        bracket : (b : Bool) → starts_with 93 r ≡ b
            → scanned_from s k x at (closed l (formed ls r)) ≡ cond {A = Scanned} (starts_with 93 (drop (at + 2 + (3 * length ls + 1)) t)) (Some (y, at + 2 + (3 * length ls + 1) + 1)) None
        bracket true q = ap (scanned_from s k x at) (Forms.closed_yes l ls r q) ∙ ap (λ (k : ℕ). Some (y, k)) end ∙ test q
        bracket false q = ap (scanned_from s k x at) (Forms.closed_no l ls r q) ∙ test q

-- the same, by what the code finds of the inner chain
module _ (s : Sizes) (k : ℕ) (x : Letters) (t : List ℕ) (at : ℕ) (h : opens (drop at t) ≡ true) {y : Letters} (is : y ≡ step s k x (get_or t at 0)) where
  inner : {r : Scanned} → r ≡ scanned_from s (k - 1) y (at + 2) (form (drop (at + 2) t)) → closed_by t r ≡ scanned_from s k x at (form (drop at t))
  inner e =
      ap (closed_by t) (e ∙ ap (λ (z : Letters). scanned_from s (k - 1) z (at + 2) (form (drop (at + 2) t))) (is ∙ ap (step s k x) (sym (first-at t at))))
      ∙ sym (scan-inner s k x t at h)

  pub inner_none : None ≡ scanned_from s (k - 1) y (at + 2) (form (drop (at + 2) t)) → None ≡ scanned_from s k x at (form (drop at t))
  unfolding closed_by
  inner_none e = inner e

  pub inner_some : (z : Letters) (end : ℕ) → Some (z, end) ≡ scanned_from s (k - 1) y (at + 2) (form (drop (at + 2) t)) → (b : Bool) → b ≡ starts_with 93 (drop end t)
      → cond {A = Scanned} b (Some (z, end + 1)) None ≡ scanned_from s k x at (form (drop at t))
  unfolding closed_by
  inner_some z end e b q = ap (λ (c : Bool). cond {A = Scanned} c (Some (z, end + 1)) None) q ∙ inner e

-- the whole chain, read from the start
pub scan-start : (s : Sizes) (at : ℕ) (f : Form) → scanned_from s 16 start at f ≡ scanned s at f
unfolding scanned_from scanned
scan-start s at unformed = refl
scan-start s at (formed ls r) = ap (λ (x : Letters). Some (x, chain_end at ls)) (steps-summary s ls)
