-- Operations on values as the code holds them, and on answers.
use Rattle.std.specs.Prelude.{None, Some, Ok, Err}
use Prim.Native.Nat.{ℕ, zero, suc, ◌≤◌, ◌<◌}
use mathlib.Core.Path.{◌≡◌, refl, sym, ap, ap₂, ◌∙◌}
use mathlib.Core.Bool.{Bool, true, false, cond, not, ◌||◌}
use mathlib.Core.List.{List}
use native.Mathlib.Omega.{arith}
use borrow.Author.Tests.{lt-ltb}
use lib.IntN.{ℤ, pos, negsuc, neg_ℤ}
use lib.Signed.{mag, lt_z}
use mir.Syntax.{w32, w64}
use mir.Val.{to_z, of_z, SFits}
use mir.Facts.{to_z-of_z}
use Rattle.laws.proofs.Bools.{and_both}
use Rattle.integers.specs.Range.{in_range, sum_of}
use Rattle.std.specs.Prelude.{Option, ℤ}
use Rattle.integers.proofs.Complement.{kept, mag_sum, range_fits, fits_range}
use Rattle.chain.specs.Reading.{Reading}
use Rattle.program.specs.declared.rule.Operator.{Operator}
use Rattle.program.specs.declared.rule.Operator.TheVariants.{Plus, Minus, Smaller}
use Rattle.program.specs.Program.{Expression, operation}
use Rattle.machine.specs.Value.{both, operate, combined, value, reading_in_range, overflows}
use Rattle.step_operations.specs.Evaluated.{Evaluated, out_of_range, of_sum, answer_of, evaluated, joined}

-- how far an operation on two values can reach
negated : (z : ℤ) → mag (neg_ℤ z) ≤ suc (mag z)
negated (pos zero) = omega arith
negated (pos (suc n)) = omega arith
negated (negsuc n) = omega arith

module _ {a b : ℤ} (ha : SFits w32 a) (hb : SFits w32 b) where
  reaches : (op : Operator) → mag (operate op a b) ≤ 4294967296
  unfolding operate
  reaches Plus = omega (arith, mag_sum a b, ha.sfits, hb.sfits)
  reaches Minus = omega (arith, mag_sum a (neg_ℤ b), negated b, ha.sfits, hb.sfits)
  reaches Smaller = go (lt_z b a)
    where
      go : (t : Bool) → mag (cond t b a) ≤ 4294967296
      go true = omega (arith, hb.sfits)
      go false = omega (arith, ha.sfits)

-- a number of 64 bits is read back from its bits
pub summed : {z : ℤ} → SFits w64 z → {s t : Option ℤ} → s ≡ sum_of (to_z w64 (of_z w64 z)) → s ≡ t → sum_of z ≡ t
summed h e k = ap sum_of (sym (to_z-of_z h)) ∙ sym e ∙ k

pub read_back : (z : ℤ) → mag z < 9223372036854775808 → answer_of (to_z w64 (of_z w64 z)) ≡ answer_of z
read_back z h = ap answer_of (to_z-of_z {w = w64} (record { sfits = h }))

-- the answer of a number
filled : (z : ℤ) → mag z ≤ 4294967296 → lt_z z (pos 8589934592) ≡ true
filled (pos n) h = lt-ltb n 8589934592 (omega arith)
filled (negsuc n) h = refl

small-answer : (z : ℤ) → mag z ≤ 4294967296 → answer_of z ≡ of_sum (sum_of z)
unfolding answer_of
small-answer z h = simp (filled z h)

pub value-answer : (z : ℤ) → mag z < 2147483648 → answer_of z ≡ Ok (Some z)
unfolding sum_of of_sum
value-answer z h = small-answer z (omega arith) ∙ simp (fits_range z (record { sfits = h }))

module _ (z : ℤ) where
  in_range-is : {a : ℤ} → sum_of z ≡ Some a → (in_range z ≡ true) × (z ≡ a)
  unfolding sum_of
  in_range-is {a} = go (in_range z)
    where
      go : (t : Bool) → cond t (Some z) None ≡ Some a → (t ≡ true) × (z ≡ a)
      go true e = (refl, cc)
      go false e = cc

  in_range-fits : in_range z ≡ true → SFits w32 z
  unfolding in_range
  in_range-fits e = let (low, high) = and_both _ _ e in range_fits z low high

  pub in_range-answer : {a : ℤ} → sum_of z ≡ Some a → answer_of z ≡ Ok (Some a)
  in_range-answer e = let (t, q) = in_range-is e in value-answer z (in_range-fits t).sfits ∙ ap (λ (y : ℤ). Ok (Some y)) q

-- two answers joined that have values
module _ (op : Operator) where
  pub values_joined : {x y : Evaluated} {a b : ℤ} {s : Option ℤ} → x ≡ Ok (Some a) → y ≡ Ok (Some b) → mag a < 2147483648 → mag b < 2147483648
      → s ≡ sum_of (operate op (to_z w32 (of_z w32 a)) (to_z w32 (of_z w32 b))) → of_sum s ≡ joined op x y
  unfolding joined both
  values_joined {a} {b} p q ha hb e = ap of_sum (e ∙ ap sum_of (ap₂ (operate op) (kept a ha) (kept b hb))) ∙ sym (ap₂ (joined op) p q)

  pub numbers_joined : {x y : Evaluated} {a b : ℤ} (z : ℤ) → x ≡ Ok (Some a) → y ≡ Ok (Some b) → mag a < 2147483648 → mag b < 2147483648
      → z ≡ operate op (to_z w32 (of_z w32 a)) (to_z w32 (of_z w32 b)) → answer_of z ≡ joined op x y
  numbers_joined {a} {b} z p q ha hb e =
      let small : mag z ≤ 4294967296 =
      rw (e ∙ ap₂ (operate op) (kept a ha) (kept b hb)) (reaches (record { sfits = ha }) (record { sfits = hb }) op) in
      small-answer z small ∙ values_joined p q ha hb (ap sum_of e)

-- the answer of an operation is that of its operands joined
module _ (op : Operator) where
  sum-answer : (z : ℤ) → cond (not (in_range z)) (Err out_of_range) (Ok (Some z)) ≡ of_sum (sum_of z)
  unfolding sum_of of_sum
  sum-answer z = go (in_range z)
    where
      go : (t : Bool) → cond (not t) (Err out_of_range) (Ok (Some z)) ≡ of_sum (cond t (Some z) None)
      go true = refl
      go false = refl

  answers_joined : (o p : Bool) (x y : Reading)
      → cond (o || p || not (reading_in_range (combined op x y))) (Err out_of_range) (Ok (combined op x y))
      ≡ joined op (cond o (Err out_of_range) (Ok x)) (cond p (Err out_of_range) (Ok y))
  unfolding combined both reading_in_range joined
  answers_joined true p x y = refl
  answers_joined false true x y = refl
  answers_joined false false None y = refl
  answers_joined false false (Some a) None = refl
  answers_joined false false (Some a) (Some b) = sum-answer (operate op a b)

  pub operation_joined : (read : List ℕ → Reading) (x y : Expression) → evaluated read (operation op x y) ≡ joined op (evaluated read x) (evaluated read y)
  unfolding evaluated value overflows
  operation_joined read x y = answers_joined (overflows read x) (overflows read y) (value read x) (value read y)
