-- Codes that are written behind each other.
use Rattle.std.specs.Prelude.{Some}
use Prim.Native.Nat.{ℕ, zero, suc, ◌+◌, ◌-◌, ◌≤◌, ◌<◌}
use mathlib.Core.Path.{◌≡◌, refl, sym, ap, ap₂, ◌∙◌}
use mathlib.Core.List.{List, [], ◌∷◌, ◌++◌}
use native.Mathlib.Omega.{arith}
use lib.ListN.{length, set, length-set, length-append}
use lib.Seq.{get_or-set_same, get_or-set_other}
use Rattle.program.specs.Code.{Code, code_of, code_at, codes_from, codes_in}
use Rattle.program.proofs.Codes.{codes-first, codes-none, codes_agree}
use Rattle.text_codes.specs.Codes.{sign_codes, Wrote}

-- codes in two parts
codes-split : (a : List ℕ) (i m n : ℕ) → codes_from a i (m + n) ≡ codes_from a i m ++ codes_from a (i + m) n
unfolding codes_from
codes-split a i zero n =
    let first : 0 + n ≡ n = omega arith in
    let second : i + 0 ≡ i = omega arith in
    rw (first, second)
codes-split a i (suc m) n =
    let first : suc m + n ≡ suc (m + n) = omega arith in
    let second : suc i + m ≡ i + suc m = omega arith in
    ap (codes_from a i) first
    ∙ ap (λ (l : List Code). code_at a i ∷ l) (codes-split a (suc i) m n)
    ∙ ap (λ (k : ℕ). code_at a i ∷ (codes_from a (suc i) m ++ codes_from a k n)) second

codes_join : (a : List ℕ) (i j k : ℕ) → i ≤ j → j ≤ k → codes_in a i k ≡ codes_in a i j ++ codes_in a j k
codes_join a i j k p q =
    let all : k - i ≡ (j - i) + (k - j) = omega arith in
    let mid : i + (j - i) ≡ j = omega arith in
    ap (codes_from a i) all
    ∙ codes-split a i (j - i) (k - j)
    ∙ ap (λ (m : ℕ). codes_in a i j ++ codes_from a m (k - j)) mid

-- codes behind codes
pub wrote_none : (a : List ℕ) (n : ℕ) → Wrote a a n n []
wrote_none a n = record { codes_are = codes-none a n n (omega arith); kept = λ i h. refl; size = omega arith; same_length = refl }

pub wrote_then : {a b d : List ℕ} {i j k : ℕ} {cs ds : List Code} → Wrote a b i j cs → Wrote b d j k ds → Wrote a d i k (cs ++ ds)
unfolding code_at
wrote_then {a} {b} {d} {i} {j} {k} {cs} {ds} v w = record {
  codes_are =
      codes_join d i j k (omega (arith, v.size)) (omega (arith, w.size))
      ∙ ap₂ (λ (l m : List Code). l ++ m)
      (codes_agree d b i (j - i) (λ m p q. ap code_of (sym (w.kept m (omega (arith, q, v.size))))) ∙ v.codes_are)
      w.codes_are;
  kept = λ m h. v.kept m h ∙ w.kept m (omega (arith, h, v.size));
  size = omega (arith, v.size, w.size, length-append cs ds);
  same_length = w.same_length ∙ v.same_length;
}

-- one code
pub wrote_code : (a : List ℕ) (n c : ℕ) → n < length a → Wrote a (set a n c) n (n + 1) (code_of c ∷ [])
unfolding code_at
wrote_code a n c h = record {
  codes_are =
      codes-first (set a n c) n (n + 1) (omega arith)
      ∙ ap₂ (λ (x : ℕ) (l : List Code). code_of x ∷ l) (get_or-set_same a n c 0 h) (codes-none (set a n c) (suc n) (n + 1) (omega arith));
  kept = λ i l. rw (get_or-set_other a n i c 0 (λ q. omega (arith, q, l)));
  size = omega arith;
  same_length = length-set a n c;
}

-- the code of an operator, if there is one
pub wrote_sign : (a : List ℕ) (n c : ℕ) → n < length a → Wrote a (set a n c) n (n + 1) (sign_codes (Some c))
unfolding sign_codes
wrote_sign a n c h = wrote_code a n c h
