-- The form of a chain's text: a text has the form of a chain exactly when it is the printed text of one.
use Prim.Native.Nat.{ℕ, suc, ◌+◌, ◌*◌, ◌≤◌, ◌<◌}
use mathlib.Core.Path.{◌≡◌, refl, sym, ap, subst₂, ◌∙◌}
use mathlib.Core.Bool.{Bool, true, false, cond, ◌&&◌}
use mathlib.Core.List.{List, [], ◌∷◌, ◌++◌, append_assoc}
use native.Mathlib.Omega.{arith}
use native.Mathlib.Numerals.{add-one}
use borrow.Author.Tests.{eqb-true, ne_eqb, leb-true}
use lib.Dec.{eqb, leb}
use lib.ListN.{length, get_or, drop, length-append, length-drop, drop_of_length-le}
use lib.Seq.{drop-cons, drop_at}
use Rattle.laws.proofs.Bools.{and_both, and-true, true_false}
use Rattle.chain_text.specs.Text.{is_capital, Form, formed, unformed, printed, closed, form}
use Rattle.laws.specs.Lists.{every}
use Rattle.chain_text.specs.Scan.{starts_with, opens}

-- a capital is not `u`
capital-u : (b : ℕ) → is_capital b ≡ true → eqb b 117 ≡ false
unfolding is_capital
capital-u b h = ne_eqb b 117 (λ e. omega (arith, leb-true b 90 (and_both (leb 65 b) (leb b 90) h).1))

-- the two tests at a place of the text
module _ (t : List ℕ) (at : ℕ) where
  pub starts-within : (b : ℕ) → at < length t → starts_with b (drop at t) ≡ eqb (get_or t at 0) b
  unfolding starts_with
  starts-within b h = rw (drop-cons t at 0)

  pub starts-past : (b : ℕ) → length t ≤ at → starts_with b (drop at t) ≡ false
  unfolding starts_with
  starts-past b h = rw (drop_of_length-le t h)

  pub opens-within : at + 1 < length t → opens (drop at t) ≡ is_capital (get_or t at 0) && eqb (get_or t (at + 1) 0) 91
  unfolding opens
  opens-within h =
      let two : drop at t ≡ get_or t at 0 ∷ get_or t (suc at) 0 ∷ drop (suc (suc at)) t =
      drop-cons t at 0 (omega arith) ∙ ap (λ (r : List ℕ). get_or t at 0 ∷ r) (drop-cons t (suc at) 0 (omega arith)) in
      rw add-one (ap opens two)

opens-short : (l : List ℕ) → length l ≤ 1 → opens l ≡ false
unfolding opens
opens-short [] h = refl
opens-short (a ∷ []) h = refl
opens-short (a ∷ b ∷ l) h = absurd (omega arith)

pub opens-past : (t : List ℕ) (at : ℕ) → length t ≤ at + 1 → opens (drop at t) ≡ false
opens-past t at h = opens-short (drop at t) (simp length-drop (omega arith))

-- the cases of `form`
pub form-u : (t : List ℕ) → starts_with 117 t ≡ true → form t ≡ formed [] (drop 1 t)
unfolding form starts_with
form-u [] h = true_false h refl
form-u (b ∷ []) h = simp h
form-u (b ∷ d ∷ t) h = simp h

pub form-opens : (t : List ℕ) → opens t ≡ true → form t ≡ closed (get_or t 0 0) (form (drop 2 t))
unfolding form opens
form-opens [] h = true_false h refl
form-opens (b ∷ []) h = true_false h refl
form-opens (b ∷ d ∷ t) h = simp (capital-u b (and_both (is_capital b) (eqb d 91) h).0, h)

pub form-none : (t : List ℕ) → starts_with 117 t ≡ false → opens t ≡ false → form t ≡ unformed
unfolding form opens starts_with
form-none [] u h = refl
form-none (b ∷ []) u h = simp u
form-none (b ∷ d ∷ t) u h = simp (u, h)

-- the cases of `closed`
pub closed_yes : (l : ℕ) (ls r : List ℕ) → starts_with 93 r ≡ true → closed l (formed ls r) ≡ formed (l ∷ ls) (drop 1 r)
unfolding closed starts_with
closed_yes l ls [] h = true_false h refl
closed_yes l ls (b ∷ r) h = simp h

pub closed_no : (l : ℕ) (ls r : List ℕ) → starts_with 93 r ≡ false → closed l (formed ls r) ≡ unformed
unfolding closed starts_with
closed_no l ls [] h = refl
closed_no l ls (b ∷ r) h = simp h

pub closed_none : (l : ℕ) → closed l unformed ≡ unformed
unfolding closed
closed_none l = refl

-- a text that has the form is the printed text of its letters, which are capitals
pub record Spelled (t ls r : List ℕ) : Type 0 where
  pub text : t ≡ printed ls ++ r
  pub capitals : every is_capital ls ≡ true

not-formed : {A : Type 0} {f : Form} {ls r : List ℕ} → f ≡ unformed → f ≡ formed ls r → A
not-formed p q = absurd (let z : ◌≡◌ {A = ℕ} 0 1 = cc in omega arith)

same-letters : {f : Form} {ls ls' r r' : List ℕ} → f ≡ formed ls r → f ≡ formed ls' r' → ls ≡ ls'
same-letters p q = cc

same_rest : {f : Form} {ls ls' r r' : List ℕ} → f ≡ formed ls r → f ≡ formed ls' r' → r ≡ r'
same_rest p q = cc

-- carried along the equation of two answers
moved : {t ls r ls' r' : List ℕ} → formed ls r ≡ formed ls' r' → Spelled t ls r → Spelled t ls' r'
moved {t} e w = subst₂ (Spelled t) (same-letters refl e) (same_rest refl e) w

spelled-u : (b : ℕ) (r : List ℕ) → eqb b 117 ≡ true → Spelled (b ∷ r) [] r
unfolding printed every
spelled-u b r h = record { text = ap (λ (a : ℕ). a ∷ r) (eqb-true b 117 h); capitals = refl }

spelled-closed : (b d x : ℕ) (t ls r : List ℕ) → is_capital b && eqb d 91 ≡ true → eqb x 93 ≡ true → Spelled t ls (x ∷ r) → Spelled (b ∷ d ∷ t) (b ∷ ls) r
unfolding printed every
spelled-closed b d x t ls r h k w =
    let both = and_both (is_capital b) (eqb d 91) h in
    record {
      text =
          ap (λ (a : ℕ). b ∷ a ∷ t) (eqb-true d 91 both.1)
          ∙ ap (λ (l : List ℕ). b ∷ 91 ∷ l) (w.text ∙ ap (λ (a : ℕ). printed ls ++ (a ∷ r)) (eqb-true x 93 k) ∙ sym (append_assoc (printed ls) (93 ∷ []) r));
      capitals = sym (and-true (every is_capital ls) both.0) ∙ w.capitals;
    }

pub spelled : (t ls r : List ℕ) → form t ≡ formed ls r → Spelled t ls r
unfolding form closed
spelled [] ls r e = not-formed refl e
spelled (b ∷ []) ls r e = one (eqb b 117) refl e
  where
    one : (x : Bool) → eqb b 117 ≡ x → cond x (formed [] []) unformed ≡ formed ls r → Spelled (b ∷ []) ls r
    one true h e = moved e (spelled-u b [] h)
    one false h e = not-formed refl e
spelled (b ∷ d ∷ t) ls r e = two (spelled t) (eqb b 117) refl (is_capital b && eqb d 91) refl e
  where
    last : (x : ℕ) (ls' r' : List ℕ) → is_capital b && eqb d 91 ≡ true → Spelled t ls' (x ∷ r') → (z : Bool) → eqb x 93 ≡ z
        → cond z (formed (b ∷ ls') r') unformed ≡ formed ls r → Spelled (b ∷ d ∷ t) ls r
    last x ls' r' h w true k e = moved e (spelled-closed b d x t ls' r' h k w)
    last x ls' r' h w false k e = not-formed refl e

    inner : ((ls r : List ℕ) → form t ≡ formed ls r → Spelled t ls r) → is_capital b && eqb d 91 ≡ true → (f : Form) → form t ≡ f
        → closed b f ≡ formed ls r → Spelled (b ∷ d ∷ t) ls r
    inner ih h unformed g e = not-formed refl e
    inner ih h (formed ls' []) g e = not-formed refl e
    inner ih h (formed ls' (x ∷ r')) g e = last x ls' r' h (ih ls' (x ∷ r') g) (eqb x 93) refl e

    two : ((ls r : List ℕ) → form t ≡ formed ls r → Spelled t ls r) → (x : Bool) → eqb b 117 ≡ x → (y : Bool) → is_capital b && eqb d 91 ≡ y
        → cond x (formed [] (d ∷ t)) (cond y (closed b (form t)) unformed) ≡ formed ls r → Spelled (b ∷ d ∷ t) ls r
    two ih true h y k e = moved e (spelled-u b (d ∷ t) h)
    two ih false h true k e = inner ih k (form t) refl e
    two ih false h false k e = not-formed refl e

-- and the printed text of capitals has the form
pub printed-form : (ls r : List ℕ) → every is_capital ls ≡ true → form (printed ls ++ r) ≡ formed ls r
unfolding printed every starts_with opens
printed-form [] r h = form-u (117 ∷ r) refl
printed-form (l ∷ ls) r h =
    let both = and_both (is_capital l) (every is_capital ls) h in
    form-opens (l ∷ 91 ∷ (printed ls ++ (93 ∷ []) ++ r)) (sym (and-true true both.0))
    ∙ ap (λ (t : List ℕ). closed l (form t)) (append_assoc (printed ls) (93 ∷ []) r)
    ∙ ap (closed l) (printed-form ls (93 ∷ r) both.1)
    ∙ closed_yes l ls (93 ∷ r) refl

pub printed-length : (ls : List ℕ) → length (printed ls) ≡ 3 * length ls + 1
unfolding printed
printed-length [] = refl
printed-length (l ∷ ls) = simp length-append (omega (arith, printed-length ls))

-- what stands behind a chain
pub form-rest : (t ls r : List ℕ) → form t ≡ formed ls r → r ≡ drop (3 * length ls + 1) t
form-rest t ls r e =
    let w = spelled t ls r e in
    sym (ap (drop (3 * length ls + 1)) w.text ∙ drop_at (printed ls) r (3 * length ls + 1) (printed-length ls))

pub form-length : (t ls r : List ℕ) → form t ≡ formed ls r → length t ≡ 3 * length ls + 1 + length r
form-length t ls r e =
    let w = spelled t ls r e in
    ap length w.text ∙ simp length-append (omega (arith, printed-length ls))
