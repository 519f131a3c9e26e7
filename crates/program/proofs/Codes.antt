-- Codes: an expression is found again from its codes, a code and a location from their numbers; codes in arrays.
use Prim.Native.Nat.{ℕ, zero, suc, ◌+◌, ◌-◌, ◌*◌, ◌/◌, ◌%◌, ◌≤◌, ◌<◌}
use mathlib.Core.Path.{◌≡◌, refl, sym, ap, ap₂, subst, ◌∙◌}
use mathlib.Core.Logic.{⊎_elim, ◌≢◌}
use mathlib.Core.List.Memᴰ
use mathlib.Core.List.{List, [], ◌∷◌, ◌++◌, append-nil, append_assoc, Memᴰ}
use native.Mathlib.Omega.{arith}
use lib.IntN.{ℤ}
use mir.Syntax.{w32}
use mir.Val.{SFits, of_z}
use lib.ListN.{get_or}
use borrow.Author.Tests.{lt-ltb, le-ltb, eq-eqb, ne_eqb}
use Rattle.laws.proofs.Cases.{lt_or_le}
use Rattle.chain.specs.Word.{unpack}
use mir.ValLaws.{of_z_fits}
use Rattle.integers.proofs.Complement.{kept}
use Rattle.program.specs.declared.rule.Operator.{Operator}
use Rattle.program.specs.declared.rule.Operator.TheVariants.{Plus, Minus, Smaller}
use Rattle.program.specs.declared.location.Location.{Location}
use Rattle.program.specs.declared.location.Location.TheVariants.{Own, Cell, Line}
use Rattle.program.specs.Program.{Expression, reading, constant, operation, expression_readings}
use Rattle.program.specs.Code.{Code, chain, number, operator, unknown, postfix, applied, pushed, stacked, last_of, decoded, Formed, code_readings}
use Rattle.program.specs.Code.{location_at, location_number, Numbered, kind_in, location_in, chain_in, number_in, kind_of, of_kind, code_of, chain_code, number_code, with_location}
use Rattle.program.specs.Code.{code_at, codes_from, codes_in}

-- the codes of an expression leave it
pub stacked-postfix : (e : Expression) (cs : List Code) (xs : List Expression) → stacked (postfix e ++ cs) xs ≡ stacked cs (e ∷ xs)
unfolding postfix stacked pushed applied
stacked-postfix (reading w) cs xs = refl
stacked-postfix (constant z) cs xs = refl
stacked-postfix (operation op x y) cs xs =
    ap (λ (l : List Code). stacked l xs) (append_assoc (postfix x) (postfix y ++ (operator op ∷ [])) cs)
    ∙ stacked-postfix x ((postfix y ++ (operator op ∷ [])) ++ cs) xs
    ∙ ap (λ (l : List Code). stacked l (x ∷ xs)) (append_assoc (postfix y) (operator op ∷ []) cs)
    ∙ stacked-postfix y (operator op ∷ cs) (x ∷ xs)

pub decoded-postfix : (e : Expression) → decoded (postfix e) ≡ e
unfolding decoded stacked last_of
decoded-postfix e = ap (λ (l : List Code). last_of (stacked l [])) (sym (append-nil (postfix e))) ∙ ap last_of (stacked-postfix e [] [])

pub postfix-formed : (e : Expression) → Formed (postfix e)
postfix-formed e = sym (ap postfix (decoded-postfix e))

-- the words of an expression's codes are its readings, in their order
pub readings-append : (cs ds : List Code) → code_readings (cs ++ ds) ≡ code_readings cs ++ code_readings ds
unfolding code_readings
readings-append [] ds = refl
readings-append (chain w ∷ cs) ds = ap (λ (l : List (List ℕ)). w ∷ l) (readings-append cs ds)
readings-append (number z ∷ cs) ds = readings-append cs ds
readings-append (operator op ∷ cs) ds = readings-append cs ds
readings-append (unknown ∷ cs) ds = readings-append cs ds

pub postfix-readings : (e : Expression) → code_readings (postfix e) ≡ expression_readings e
unfolding postfix code_readings expression_readings
postfix-readings (reading w) = refl
postfix-readings (constant z) = refl
postfix-readings (operation op x y) =
    readings-append (postfix x) (postfix y ++ (operator op ∷ []))
    ∙ ap₂ (λ (l m : List (List ℕ)). l ++ m) (postfix-readings x) (readings-append (postfix y) (operator op ∷ []) ∙ append-nil _ ∙ postfix-readings y)

-- a code is found again from its number
pub chain_coded : (packed : ℕ) → code_of (chain_code packed) ≡ chain (unpack packed)
unfolding code_of chain_code kind_in chain_in
chain_coded packed =
    let k : 2048 * packed % 8 ≡ 0 = omega arith in
    let c : 2048 * packed / 2048 ≡ packed = omega arith in
    simp (eq-eqb (2048 * packed % 8) 0 k, c)

pub number_coded : (z : ℤ) → SFits w32 z → code_of (number_code z) ≡ number z
unfolding code_of number_code kind_in number_in
number_coded z f =
    let b : of_z w32 z < 4294967296 = (of_z_fits w32 z f).fits in
    let k : (8 * of_z w32 z + 1) % 8 ≡ 1 = omega arith in
    let q : (8 * of_z w32 z + 1) / 8 ≡ of_z w32 z = omega arith in
    let c : of_z w32 z % 4294967296 ≡ of_z w32 z = omega arith in
    simp (k, q, c, kept z f.sfits)

pub operator_coded : (op : Operator) → code_of (kind_of op) ≡ operator op
unfolding code_of kind_of kind_in of_kind
operator_coded Plus = refl
operator_coded Minus = refl
operator_coded Smaller = refl

-- and a code that is not a chain or a number is an operator or unknown
pub sign_coded : (c : ℕ) → kind_in c ≢ 0 → kind_in c ≢ 1 → code_of c ≡ of_kind (kind_in c)
unfolding code_of
sign_coded c z o = simp (ne_eqb (kind_in c) 0 z, ne_eqb (kind_in c) 1 o)

-- a location is found again from its number
pub numbered_below : (at : Location) → Numbered at → location_number at < 256
unfolding location_number
numbered_below Own h = omega arith
numbered_below (Cell f) h = omega arith
numbered_below (Line i) h = omega arith

numbered_at : (at : Location) → Numbered at → location_at (location_number at) ≡ at
unfolding location_at location_number
numbered_at Own h = refl
numbered_at (Cell f) h =
    let p : f + 1 - 1 ≡ f = omega arith in
    simp (ne_eqb (f + 1) 0 (λ e. omega (arith, e)), lt-ltb (f + 1) 17 (omega arith), p)
numbered_at (Line i) h =
    let p : i + 17 - 17 ≡ i = omega arith in
    simp (ne_eqb (i + 17) 0 (λ e. omega (arith, e)), le-ltb (i + 17) 17 (omega arith), p)

-- a chain that is located: the same chain, found there
module _ (c : ℕ) (at : Location) (numbered : Numbered at) where
  pub located-kind : kind_in (with_location c at) ≡ kind_in c
  unfolding kind_in with_location
  located-kind = omega arith

  pub located_chain : chain_in (with_location c at) ≡ chain_in c
  unfolding chain_in with_location
  located_chain = let b = numbered_below at numbered in omega arith

  pub located-at : location_in (with_location c at) ≡ at
  unfolding location_in with_location
  located-at =
      let b = numbered_below at numbered in
      let n : (c % 8 + 8 * location_number at + 2048 * (c / 2048)) / 8 % 256 ≡ location_number at = omega arith in
      ap location_at n ∙ numbered_at at numbered

  pub located-code : kind_in c ≡ 0 → code_of (with_location c at) ≡ code_of c
  unfolding code_of
  located-code k = simp (located-kind, located_chain, eq-eqb (kind_in c) 0 k)

module _ (codes : List ℕ) where
  -- the first code of some, and none
  pub codes-first : (from to : ℕ) → from < to → codes_in codes from to ≡ code_at codes from ∷ codes_in codes (suc from) to
  unfolding codes_from
  codes-first from to l =
      let n : to - from ≡ suc (to - suc from) = omega arith in
      ap (codes_from codes from) n

  pub codes-none : (from to : ℕ) → to ≤ from → codes_in codes from to ≡ []
  unfolding codes_from
  codes-none from to l = let n : to - from ≡ 0 = omega arith in ap (codes_from codes from) n

  -- one code more at the end
  pub codes-more : (i n : ℕ) → codes_from codes i (suc n) ≡ codes_from codes i n ++ (code_at codes (i + n) ∷ [])
  unfolding codes_from
  codes-more i zero = let e : i ≡ i + 0 = omega arith in ap (λ (k : ℕ). code_at codes k ∷ []) e
  codes-more i (suc n) =
      let e : suc i + n ≡ i + suc n = omega arith in
      ap (λ (l : List Code). code_at codes i ∷ l)
      (codes-more (suc i) n ∙ ap (λ (k : ℕ). codes_from codes (suc i) n ++ (code_at codes k ∷ [])) e)

  -- a chain of some codes is among their words
  pub chain_at : (i : ℕ) → kind_in (get_or codes i 0) ≡ 0 → code_at codes i ≡ chain (unpack (chain_in (get_or codes i 0)))
  unfolding code_at code_of
  chain_at i k = simp (eq-eqb (kind_in (get_or codes i 0)) 0 k)

  listed-from : (i n j : ℕ) → i ≤ j → j < i + n → kind_in (get_or codes j 0) ≡ 0
      → Memᴰ (unpack (chain_in (get_or codes j 0))) (code_readings (codes_from codes i n))
  unfolding codes_from code_readings
  listed-from i zero j l h k = absurd (omega arith)
  listed-from i (suc n) j l h k =
      ⊎_elim
      (λ (b : i < j).
      subst (Memᴰ (unpack (chain_in (get_or codes j 0)))) (sym (readings-append (code_at codes i ∷ []) (codes_from codes (suc i) n)))
      (Memᴰ.append_right (code_readings (code_at codes i ∷ [])) (listed-from (suc i) n j (omega arith) (omega arith) k)))
      (λ (b : j ≤ i). let e : i ≡ j = omega arith in rw (e, chain_at j k) (Memᴰ.head refl))
      (lt_or_le i j)

  pub chain_listed : (from to i : ℕ) → from ≤ i → i < to → kind_in (get_or codes i 0) ≡ 0
      → Memᴰ (unpack (chain_in (get_or codes i 0))) (code_readings (codes_in codes from to))
  chain_listed from to i l h = listed-from from (to - from) i l (omega arith)

-- arrays that have the same codes there
pub codes_agree : (codes codes' : List ℕ) (i n : ℕ) → ((j : ℕ) → i ≤ j → j < i + n → code_at codes j ≡ code_at codes' j)
    → codes_from codes i n ≡ codes_from codes' i n
unfolding codes_from
codes_agree codes codes' i zero h = refl
codes_agree codes codes' i (suc n) h =
    ap₂ (λ (c : Code) (l : List Code). c ∷ l) (h i (omega arith) (omega arith))
    (codes_agree codes codes' (suc i) n (λ j l b. h j (omega arith) (omega arith)))
