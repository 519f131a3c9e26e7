-- How far apart the chains of a knower and of what it knows can lie after k rounds, for every derivation.
use mathlib.Core.Path.{◌≡◌, refl, sym, ap, ◌∙◌}
use mathlib.Core.List.{List, [], ◌∷◌, ◌++◌, append_assoc, append-nil}
use mathlib.Core.Logic.{◌⊎◌, inl, inr, ⊎_elim}
use Prim.Native.Nat.{ℕ, ◌+◌, ◌*◌, ◌^◌, ◌≤◌, max}
use native.Mathlib.Omega.{arith}
use native.Mathlib.Nat.{le-max_left, le-max_right, pow-suc}
use lib.ListN.{length, length-append}
use lib.Pow.{pow_mono}
use Rattle.plan_theory.specs.Knows.{Knows, own_number, own_cell, told}

-- q goes on from p by a middle part, by which x goes on before y
record Longer (p x q y : List ℕ) : Type 0 where
  mid : List ℕ
  q_is : q ≡ p ++ mid
  x_is : x ≡ mid ++ y

-- two prefixes of one word are comparable
prefixes : (p x q y : List ℕ) → p ++ x ≡ q ++ y → Longer p x q y ⊎ Longer q y p x
prefixes [] x q y e = inl (record { mid = q; q_is = refl; x_is = e })
prefixes (a ∷ p) x [] y e = inr (record { mid = a ∷ p; q_is = refl; x_is = sym e })
prefixes (a ∷ p) x (b ∷ q) y e =
    ⊎_elim
    (λ l. inl (record { mid = l.mid; q_is = let h = l.q_is in cc; x_is = l.x_is }))
    (λ l. inr (record { mid = l.mid; q_is = let h = l.q_is in cc; x_is = l.x_is }))
    (prefixes p x q y (cc))

-- v and e part after a common stem, v going on for at most n / 2 hops and e for at most (n + 1) / 2
pub record Apart (v e : List ℕ) (n : ℕ) : Type 0 where
  pub stem : List ℕ
  pub left : List ℕ
  pub right : List ℕ
  pub v_is : v ≡ stem ++ left
  pub e_is : e ≡ stem ++ right
  pub left≤ : 2 * length left ≤ n
  pub right≤ : 2 * length right ≤ n + 1

-- the third rule: v and e part where the nearer of the two stems ends
joined : {w v e : List ℕ} {a b : ℕ} (n : ℕ) → a ≤ n → b ≤ n → Apart w e a → Apart w v b → Apart v e (n * 2)
joined n ha hb s t =
    ⊎_elim
    (λ l. record {
      stem = s.stem;
      left = l.mid ++ t.right;
      right = s.right;
      v_is = t.e_is ∙ simp (l.q_is, append_assoc);
      e_is = s.e_is;
      left≤ = simp length-append (omega (arith, s.left≤, t.right≤, simp length-append at (ap length l.x_is)));
      right≤ = omega (arith, s.right≤);
    })
    (λ l. record {
      stem = t.stem;
      left = t.right;
      right = l.mid ++ s.right;
      v_is = t.e_is;
      e_is = s.e_is ∙ simp (l.q_is, append_assoc);
      left≤ = omega (arith, t.right≤);
      right≤ = simp length-append (omega (arith, t.left≤, s.right≤, simp length-append at (ap length l.x_is)));
    })
    (prefixes s.stem s.left t.stem t.left (sym s.v_is ∙ t.v_is))

pub knows-apart : {v e : List ℕ} {k : ℕ} → Knows v e k → Apart v e (2 ^ k)
knows-apart (own_number v) = record { stem = v; left = []; right = []; v_is = simp append-nil; e_is = simp append-nil; left≤ = omega arith; right≤ = omega arith }
knows-apart (own_cell v f) = record { stem = v; left = []; right = f ∷ []; v_is = simp append-nil; e_is = refl; left≤ = omega arith; right≤ = omega arith }
knows-apart (told w {i = i} {j = j} p q) =
    rw pow-suc (joined (2 ^ max i j) (pow_mono (le-max_left i j)) (pow_mono (le-max_right i j)) (knows-apart p) (knows-apart q))

-- a reading that some derivation has in k rounds has at most (2 ^ k + 1) / 2 hops: 1, 1, 2, 4, 8, 16 for k from 0 to 5
pub reading-bound : {c : List ℕ} {k : ℕ} → Knows [] c k → 2 * length c ≤ 2 ^ k + 1
reading-bound d =
    let s = knows-apart d in
    omega (arith, s.right≤, simp length-append at (ap length s.e_is), simp length-append at (ap length s.v_is))
