-- Packed words taken apart: their number of hops, and two parts.
use Prim.Native.Nat.{ℕ, zero, suc, ◌+◌, ◌-◌, ◌*◌, ◌/◌, ◌^◌, ◌≤◌, ◌<◌, max}
use mathlib.Core.Path.{◌≡◌, refl, sym, ap, subst, ◌∙◌}
use mathlib.Core.Logic.{◌≢◌}
use mathlib.Core.List.{List, ◌∷◌}
use native.Mathlib.Omega.{arith}
use native.Mathlib.Nat.{pow-succ', one-le-pow}
use lib.ListN.{length, take, drop, length-drop}
use lib.Seq.{drop-drop}
use Rattle.std.specs.Int.{IsPowerOfTwo}
use Rattle.plan_theory.specs.Plan.{half}
use Rattle.plan_theory.proofs.Half.{half_unique}
use Rattle.chain.specs.Word.{push, pack, unpack, FirstHop}
use Rattle.chain.proofs.Packing.{unpack-none, unpack-last, unpack-more, unpack_ind, taken_apart, Kinded, none, last, more, unpack-pack, pack-unpack, unpack-kinded}

-- the cases of the number of hops
pub hops-none : length (unpack 0) ≡ 0
hops-none = ap length unpack-none

pub hops-one : (n : ℕ) → 1 ≤ n → n ≤ 16 → length (unpack n) ≡ 1
hops-one n lo hi = ap length (unpack-last n lo hi)

pub hops-more : (n : ℕ) → 16 < n → length (unpack n) ≡ suc (length (unpack ((n - 9) / 8)))
hops-more n h = ap length (unpack-more n h)

pub hops-pos : (n : ℕ) → n ≢ 0 → 1 ≤ length (unpack n)
hops-pos = unpack_ind (λ n. n ≢ 0 → 1 ≤ length (unpack n)) (λ e. absurd (e refl)) (λ n lo hi e. omega (arith, hops-one n lo hi)) (λ n h r e. omega (arith, hops-more n h))

pub hops-two : (n : ℕ) → 16 < n → 2 ≤ length (unpack n)
hops-two n h = omega (arith, hops-more n h, hops-pos ((n - 9) / 8) (λ e. omega arith))

pub hops_le : (n : ℕ) → length (unpack n) ≤ n
hops_le = unpack_ind (λ n. length (unpack n) ≤ n) (omega (arith, hops-none)) (λ n lo hi. omega (arith, hops-one n lo hi)) (λ n h r. omega (arith, hops-more n h))

-- a word of k hops is packed into a number below 5 × 8 ^ k
pub packed_small : (n k : ℕ) → length (unpack n) ≤ k → n + 5 ≤ 5 * 8 ^ k
packed_small = unpack_ind (λ n. (k : ℕ) → length (unpack n) ≤ k → n + 5 ≤ 5 * 8 ^ k) (λ k l. omega (arith, one-le-pow k 8 (omega arith))) one-hop hop
  where
    one-hop : (n : ℕ) → 1 ≤ n → n ≤ 16 → (k : ℕ) → length (unpack n) ≤ k → n + 5 ≤ 5 * 8 ^ k
    one-hop n lo hi zero l = absurd (omega (arith, hops-one n lo hi))
    one-hop n lo hi (suc k) l = omega (arith, pow-succ' 8 k, one-le-pow k 8 (omega arith))

    hop : (n : ℕ) → 16 < n → ((k : ℕ) → length (unpack ((n - 9) / 8)) ≤ k → (n - 9) / 8 + 5 ≤ 5 * 8 ^ k) → (k : ℕ) → length (unpack n) ≤ k → n + 5 ≤ 5 * 8 ^ k
    hop n h r zero l = absurd (omega (arith, hops-more n h))
    hop n h r (suc k) l = omega (arith, pow-succ' 8 k, r k (omega (arith, hops-more n h)))

-- the hops behind the first
pub hops-tail : (m n : ℕ) → unpack m ≡ drop 1 (unpack n) → n ≢ 0 → length (unpack n) ≡ suc (length (unpack m))
hops-tail m n e h = omega (arith, ap length e, length-drop 1 (unpack n), hops-pos n h)

pub tail-rest : (m n c i : ℕ) → unpack m ≡ drop 1 (unpack n) → unpack n ≡ drop i (unpack c) → unpack m ≡ drop (i + 1) (unpack c)
tail-rest m n c i e r = e ∙ ap (drop 1) r ∙ drop-drop 1 i (unpack c)

kinded-take : (h : ℕ) {w : List ℕ} → Kinded w → Kinded (take h w)
kinded-take zero k = none
kinded-take (suc h) none = none
kinded-take (suc zero) (last l) = last l
kinded-take (suc (suc h)) (last l) = last l
kinded-take (suc zero) (more {f} l k) = last {f = f} (omega arith)
kinded-take (suc (suc h)) (more l k) = more l (kinded-take (suc h) k)

-- a hop in front of the two parts of what is behind it
module _ (n r : ℕ) {f : ℕ} (first : FirstHop f (unpack n)) (e : unpack r ≡ drop 1 (unpack n)) (h : ℕ) where
  pub front-more : (b : ℕ) → unpack b ≡ take h (unpack r) → unpack (push b f) ≡ take (suc h) (unpack n)
  unfolding pack
  front-more b i =
      let apart : unpack n ≡ f ∷ unpack r = taken_apart first e in
      let behind : b ≡ pack (take h (unpack r)) = sym (pack-unpack b) ∙ ap pack i in
      let kinded : Kinded (f ∷ take h (unpack r)) = subst (λ (w : List ℕ). Kinded (take (suc h) w)) apart (kinded-take (suc h) (unpack-kinded n)) in
      ap (λ (m : ℕ). unpack (push m f)) behind ∙ unpack-pack kinded ∙ ap (take (suc h)) (sym apart)

  pub rest_more : (b : ℕ) → unpack b ≡ drop h (unpack r) → unpack b ≡ drop (suc h) (unpack n)
  rest_more b i = let one : 1 + h ≡ suc h = omega arith in i ∙ ap (drop h) e ∙ drop-drop h 1 (unpack n) ∙ ap (λ (k : ℕ). drop k (unpack n)) one

-- the half of the next power of two is the largest below
pub half_is : (n p : ℕ) → 2 ≤ n → IsPowerOfTwo p → n ≤ p → p / 2 < max 1 n → p / 2 ≡ half n
half_is n p two (zero, e) lo hi = absurd (omega arith)
half_is n p two (suc s, e) lo hi =
    let d : p / 2 ≡ 2 ^ s = omega (arith, pow-succ' 2 s) in
    d ∙ sym (half_unique n s (omega arith) (omega (arith, pow-succ' 2 s)))
