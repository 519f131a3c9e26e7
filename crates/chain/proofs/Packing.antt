-- A packed number and its hop word: packing loses nothing.
use Prim.Native.Nat.{ℕ, zero, suc, ◌+◌, ◌-◌, ◌*◌, ◌/◌, ◌%◌, ◌^◌, ◌≤◌, ◌<◌}
use mathlib.Core.Path.{◌≡◌, refl, sym, ap, ap₂, subst, ◌∙◌}
use mathlib.Core.Logic.{◌≢◌}
use mathlib.Core.List.{List, [], ◌∷◌}
use native.Mathlib.Omega.{arith}
use native.Mathlib.Nat.{pow-suc, mod-lt}
use native.Mathlib.Decide.{dec_lt, ℕ_discrete}
use borrow.Author.Tests.{ne_eqb, le-leb, lt-leb}
use lib.ListN.{length, drop}
use Rattle.chain.specs.Word.{push, pack, unpack_within, unpack, FirstHop}

-- the cases of `push`
pub push-first : (f : ℕ) → push 0 f ≡ f + 1
unfolding push
push-first f = refl

pub push-more : (n f : ℕ) → n ≢ 0 → push n f ≡ f + 8 * n + 9
unfolding push
push-more n f h = simp (ne_eqb n 0 h)

pub push_positive : (n f : ℕ) → 1 ≤ push n f
push_positive zero f = omega (arith, push-first f)
push_positive (suc n) f = omega (arith, push-more (suc n) f (λ e. omega arith))

-- the cases of `unpack`, whatever the bound on the length
last_within : (k n : ℕ) → 1 ≤ n → n ≤ 16 → unpack_within (suc k) n ≡ (n - 1) ∷ []
unfolding unpack_within
last_within k n lo hi = simp (ne_eqb n 0 (λ e. omega arith), le-leb n 16 hi)

more_within : (k n : ℕ) → 16 < n → unpack_within (suc k) n ≡ (n - 9) % 8 ∷ unpack_within k ((n - 9) / 8)
unfolding unpack_within
more_within k n h = simp (ne_eqb n 0 (λ e. omega arith), lt-leb n 16 h)

none_within : (k : ℕ) → unpack_within k 0 ≡ []
unfolding unpack_within
none_within zero = refl
none_within (suc k) = refl

enough : (k l n : ℕ) → n ≤ k → n ≤ l → unpack_within k n ≡ unpack_within l n
enough zero l n h i = let e : n ≡ 0 = omega arith in rw e (none_within 0 ∙ sym (none_within l))
enough (suc k) zero n h i = let e : n ≡ 0 = omega arith in rw e (none_within (suc k) ∙ sym (none_within 0))
enough (suc k) (suc l) n h i = go (enough k l ((n - 9) / 8)) (ℕ_discrete n 0) (dec_lt 16 n)
  where
    go : ((n - 9) / 8 ≤ k → (n - 9) / 8 ≤ l → unpack_within k ((n - 9) / 8) ≡ unpack_within l ((n - 9) / 8)) → Dec (n ≡ 0) → Dec (16 < n)
        → unpack_within (suc k) n ≡ unpack_within (suc l) n
    go r (yes e) d = rw e (none_within (suc k) ∙ sym (none_within (suc l)))
    go r (no e) (yes m) = more_within k n m ∙ ap (λ (w : List ℕ). (n - 9) % 8 ∷ w) (r (omega arith) (omega arith)) ∙ sym (more_within l n m)
    go r (no e) (no m) = last_within k n (omega arith) (omega arith) ∙ sym (last_within l n (omega arith) (omega arith))

pub unpack-none : unpack 0 ≡ []
unfolding unpack
unpack-none = none_within 0

-- a packed word that has a hop is not 0
pub packed_some : (n : ℕ) → 1 ≤ length (unpack n) → 1 ≤ n
packed_some zero h = absurd (omega (arith, ap length unpack-none))
packed_some (suc n) h = omega arith

pub unpack-last : (n : ℕ) → 1 ≤ n → n ≤ 16 → unpack n ≡ (n - 1) ∷ []
unfolding unpack
unpack-last n lo hi = enough n (suc n) n (omega arith) (omega arith) ∙ last_within n n lo hi

pub unpack-more : (n : ℕ) → 16 < n → unpack n ≡ (n - 9) % 8 ∷ unpack ((n - 9) / 8)
unfolding unpack
unpack-more n h =
    enough n (suc n) n (omega arith) (omega arith) ∙ more_within n n h
    ∙ ap (λ (w : List ℕ). (n - 9) % 8 ∷ w) (enough n ((n - 9) / 8) ((n - 9) / 8) (omega arith) (omega arith))

-- the first hop of a packed word, and the hops behind it
pub first-last : (n : ℕ) → 1 ≤ n → n ≤ 16 → FirstHop (n - 1) (unpack n)
first-last n lo hi = rw (unpack-last n lo hi) (record { splits = refl; below = omega arith })

pub first_more : (n : ℕ) → 16 < n → FirstHop ((n - 9) % 8) (unpack n)
first_more n h = rw (unpack-more n h) (record { splits = refl; below = omega arith })

pub first_some_lem : {f : ℕ} {w : List ℕ} → FirstHop f w → w ≢ []
first_some_lem h e = let z : ◌≡◌ {A = ℕ} 0 1 = cc h.splits in omega arith

pub rest-last : (n : ℕ) → n ≤ 16 → unpack 0 ≡ drop 1 (unpack n)
rest-last zero h = rw unpack-none
rest-last (suc n) h = rw (unpack-none, unpack-last (suc n) (omega arith) h)

pub rest_more : (n : ℕ) → 16 < n → unpack ((n - 9) / 8) ≡ drop 1 (unpack n)
rest_more n h = sym (ap (drop 1) (unpack-more n h))

pub taken_apart : {f : ℕ} {w r : List ℕ} → FirstHop f w → r ≡ drop 1 w → w ≡ f ∷ r
taken_apart {f} h e = h.splits ∙ ap (λ (w : List ℕ). f ∷ w) (sym e)

-- a hop in front of a packed word
pub unpack-push : (n f : ℕ) → (n ≡ 0 → f < 16) → (n ≢ 0 → f < 8) → unpack (push n f) ≡ f ∷ unpack n
unpack-push zero f last more =
    ap unpack (push-first f) ∙ unpack-last (f + 1) (omega arith) (omega (arith, last refl)) ∙ ap₂ ◌∷◌ (back f) (sym unpack-none)
  where
    back : (f : ℕ) → f + 1 - 1 ≡ f
    back f = omega arith
unpack-push (suc n) f last more =
    let h : f < 8 = more (λ e. omega arith) in
    let low : (f + 8 * suc n + 9 - 9) % 8 ≡ f = omega arith in
    let high : (f + 8 * suc n + 9 - 9) / 8 ≡ suc n = omega arith in
    ap unpack (push-more (suc n) f (λ e. omega arith))
    ∙ unpack-more (f + 8 * suc n + 9) (omega arith)
    ∙ ap₂ (λ (a b : ℕ). a ∷ unpack b) low high

-- every field but the outermost, the last of the word, is a reference
pub data Kinded : List ℕ → Type 0 where
  none : Kinded []
  last : {f : ℕ} → f < 16 → Kinded (f ∷ [])
  more : {f g : ℕ} {w : List ℕ} → f < 8 → Kinded (g ∷ w) → Kinded (f ∷ g ∷ w)

pub unpack-pack : {w : List ℕ} → Kinded w → unpack (pack w) ≡ w
unfolding pack
unpack-pack none = unpack-none
unpack-pack (last {f} h) = unpack-push 0 f (λ e. h) (λ e. absurd (e refl)) ∙ ap (λ (w : List ℕ). f ∷ w) unpack-none
unpack-pack (more {f} {g} {w} h k) =
    unpack-push (pack (g ∷ w)) f (λ e. absurd (omega (arith, push_positive (pack w) g))) (λ e. h)
    ∙ ap (λ (v : List ℕ). f ∷ v) (unpack-pack k)

-- the number stays small: k hops take less than 5 × 8 ^ k
pub push-small : (n f k : ℕ) → n + 5 ≤ 5 * 8 ^ k → f ≤ 21 → push n f + 5 ≤ 5 * 8 ^ suc k
push-small zero f k h l = omega (arith, push-first f, pow-suc 8 k)
push-small (suc n) f k h l = omega (arith, push-more (suc n) f (λ e. omega arith), pow-suc 8 k)

-- the tail of a packed word is a smaller number, so what holds of no hop and is handed on by a hop holds of every number
pub unpack_ind : (P : ℕ → Type 0) → P 0 → ((n : ℕ) → 1 ≤ n → n ≤ 16 → P n) → ((n : ℕ) → 16 < n → P ((n - 9) / 8) → P n) → (n : ℕ) → P n
unpack_ind P p0 p1 p2 n = go n n (omega arith)
  where
    go : (k n : ℕ) → n ≤ k → P n
    go zero n h = let e : 0 ≡ n = omega arith in subst P e p0
    go (suc k) n h = cases (go k ((n - 9) / 8)) (ℕ_discrete n 0) (dec_lt 16 n)
      where
        cases : ((n - 9) / 8 ≤ k → P ((n - 9) / 8)) → Dec (n ≡ 0) → Dec (16 < n) → P n
        cases r (yes e) d = subst P (sym e) p0
        cases r (no e) (yes m) = p2 n m (r (omega arith))
        cases r (no e) (no m) = p1 n (omega arith) (omega arith)

-- every number is the packing of its word
pub pack-unpack : (n : ℕ) → pack (unpack n) ≡ n
unfolding pack
pack-unpack = unpack_ind (λ n. pack (unpack n) ≡ n) (ap pack unpack-none) one-hop hop
  where
    one-hop : (n : ℕ) → 1 ≤ n → n ≤ 16 → pack (unpack n) ≡ n
    one-hop n lo hi = ap pack (unpack-last n lo hi) ∙ push-first (n - 1) ∙ (let e : n - 1 + 1 ≡ n = omega arith in e)

    hop : (n : ℕ) → 16 < n → pack (unpack ((n - 9) / 8)) ≡ (n - 9) / 8 → pack (unpack n) ≡ n
    hop n h r =
        let tail : ℕ = (n - 9) / 8 in
        let e : (n - 9) % 8 + 8 * tail + 9 ≡ n = omega arith in
        ap pack (unpack-more n h) ∙ ap (λ (m : ℕ). push m ((n - 9) % 8)) r ∙ push-more tail ((n - 9) % 8) (λ z. omega arith) ∙ e

-- and its word is kinded
kinded-more : {f : ℕ} {w : List ℕ} → f < 8 → Kinded w → w ≢ [] → Kinded (f ∷ w)
kinded-more h none e = absurd (e refl)
kinded-more h (last l) e = more h (last l)
kinded-more h (more l k) e = more h (more l k)

pack-none : {w : List ℕ} {n : ℕ} → pack w ≡ n → 1 ≤ n → w ≢ []
unfolding pack
pack-none {w} {n} e h z = let q : 0 ≡ n = ap pack (sym z) ∙ e in omega arith

-- more than one hop: something is left after the first
tail-some : (n : ℕ) → 16 < n → unpack ((n - 9) / 8) ≢ []
tail-some n h = pack-none (pack-unpack ((n - 9) / 8)) (omega arith)

pub unpack-kinded : (n : ℕ) → Kinded (unpack n)
unpack-kinded = unpack_ind (λ n. Kinded (unpack n)) (rw unpack-none none) one-hop hop
  where
    one-hop : (n : ℕ) → 1 ≤ n → n ≤ 16 → Kinded (unpack n)
    one-hop n lo hi = rw (unpack-last n lo hi) (last {f = n - 1} (omega arith))

    hop : (n : ℕ) → 16 < n → Kinded (unpack ((n - 9) / 8)) → Kinded (unpack n)
    hop n h r = rw (unpack-more n h) (kinded-more (mod-lt (n - 9) (omega arith)) r (tail-some n h))
