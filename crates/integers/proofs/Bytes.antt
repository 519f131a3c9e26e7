-- Numbers and values, and their four bytes: reading back what was written, and writing back what was read.
use Prim.Native.Nat.{ℕ, ◌+◌, ◌*◌, ◌/◌, ◌%◌, ◌≤◌, ◌<◌}
use mathlib.Core.Path.{◌≡◌, refl, sym, ap, ◌∙◌}
use mathlib.Core.List.{List, [], ◌∷◌, ◌++◌}
use native.Mathlib.Omega.{arith}
use native.Mathlib.Nat.{div-div-eq-div-mul, mod-eq_of_lt, add_assoc}
use lib.IntN.{ℤ}
use lib.Seq.{get_or-drop}
use lib.ListN.{length, get_or, drop}
use mir.Syntax.{w32}
use mir.Val.{to_z, of_z, SFits, Fits}
use mir.Facts.{to_z-of_z, of_z-to_z, sfits_to_z, Fits-of_z}
use Rattle.integers.specs.Bytes.{four_bytes, word_at, word_bytes, value_at, value_bytes}

pub word_bytes-length : (n : ℕ) → length (word_bytes n) ≡ 4
unfolding word_bytes
word_bytes-length n = refl

pub value_bytes-length : (z : ℤ) → length (value_bytes z) ≡ 4
unfolding value_bytes
value_bytes-length z = word_bytes-length (of_z w32 z)

-- the bytes of a number, one after the other
div_div : (n k : ℕ) → n / (k * 256) ≡ n / k / 256
div_div n k = sym (div-div-eq-div-mul n k 256)

low : (a k : ℕ) → a < 256 → (a + 256 * k) % 256 ≡ a
low a k h = omega arith

high : (a k : ℕ) → a < 256 → (a + 256 * k) / 256 ≡ k
high a k h = omega arith

split : (n : ℕ) → n % 256 + 256 * (n / 256) ≡ n
split n = omega arith

joined : (a b c d : ℕ) {n p q r : ℕ} → a + 256 * p ≡ n → b + 256 * q ≡ p → c + 256 * r ≡ q → d ≡ r → a + 256 * (b + 256 * (c + 256 * d)) ≡ n
joined a b c d e₁ e₂ e₃ e₄ = omega arith

-- a number is read back from its bytes, whatever stands behind them
pub word_read_lem : (n : ℕ) (rest : List ℕ) → n < 4294967296 → word_at (word_bytes n ++ rest) 0 ≡ n
unfolding four_bytes word_at word_bytes
word_read_lem n rest h =
    joined (n % 256) (n / 256 % 256) (n / 65536 % 256) (n / 16777216 % 256)
    (split n)
    (ap (λ (k : ℕ). n / 256 % 256 + 256 * k) (div_div n 256) ∙ split (n / 256))
    (ap (λ (k : ℕ). n / 65536 % 256 + 256 * k) (div_div n 65536) ∙ split (n / 65536))
    (mod-eq_of_lt (omega arith))

pub value_read : (z : ℤ) (rest : List ℕ) → SFits w32 z → value_at (value_bytes z ++ rest) 0 ≡ z
unfolding value_at value_bytes
value_read z rest h = ap (to_z w32) (word_read_lem (of_z w32 z) rest (Fits-of_z h).fits) ∙ to_z-of_z h

-- reading behind the first k bytes
pub word-behind : (k at : ℕ) (s : List ℕ) → word_at (drop k s) at ≡ word_at s (k + at)
unfolding word_at
word-behind k at s = simp (get_or-drop, add_assoc)

pub value-behind : (k at : ℕ) (s : List ℕ) → value_at (drop k s) at ≡ value_at s (k + at)
unfolding value_at
value-behind k at s = ap (to_z w32) (word-behind k at s)

-- four bytes are written back from the number that they are
word-written : (a b c d : ℕ) → a < 256 → b < 256 → c < 256 → d < 256 → word_bytes (four_bytes a b c d) ≡ a ∷ b ∷ c ∷ d ∷ []
unfolding four_bytes word_bytes
word-written a b c d ha hb hc hd =
    let w : ℕ = c + 256 * d in
    let v : ℕ = b + 256 * w in
    let n : ℕ = a + 256 * v in
    let q₁ : n / 256 ≡ v = high a v ha in
    let q₂ : n / 65536 ≡ w = div_div n 256 ∙ ap (λ (k : ℕ). k / 256) q₁ ∙ high b w hb in
    let q₃ : n / 16777216 ≡ d = div_div n 65536 ∙ ap (λ (k : ℕ). k / 256) q₂ ∙ high c d hc in
    simp (q₁, q₂, q₃, low a v ha, low b w hb, low c d hc) (ap (λ (k : ℕ). a ∷ b ∷ c ∷ k ∷ []) (mod-eq_of_lt hd))

module _ (s : List ℕ) (bytes : (i : ℕ) → get_or s i 0 < 256) where
  pub word_fits : (at : ℕ) → Fits w32 (word_at s at)
  unfolding four_bytes word_at
  word_fits at = record { fits = omega (arith, bytes at, bytes (at + 1), bytes (at + 2), bytes (at + 3)) }

  pub value-fits : (at : ℕ) → SFits w32 (value_at s at)
  unfolding value_at
  value-fits at = sfits_to_z (word_fits at)

pub word-again : (s : List ℕ) → ((i : ℕ) → get_or s i 0 < 256) → 4 ≤ length s → word_bytes (word_at s 0) ++ drop 4 s ≡ s
unfolding word_at
word-again [] bytes h = absurd (omega arith)
word-again (a ∷ []) bytes h = absurd (omega arith)
word-again (a ∷ b ∷ []) bytes h = absurd (omega arith)
word-again (a ∷ b ∷ c ∷ []) bytes h = absurd (omega arith)
word-again (a ∷ b ∷ c ∷ d ∷ rest) bytes h = ap (λ (l : List ℕ). l ++ rest) (word-written a b c d (bytes 0) (bytes 1) (bytes 2) (bytes 3))

pub value-again : (s : List ℕ) → ((i : ℕ) → get_or s i 0 < 256) → 4 ≤ length s → value_bytes (value_at s 0) ++ drop 4 s ≡ s
unfolding value_at value_bytes
value-again s bytes h = ap (λ (n : ℕ). word_bytes n ++ drop 4 s) (of_z-to_z (word_fits s bytes 0)) ∙ word-again s bytes h
