-- What holds of all that a reader may answer, for the ways in which readers are put together.
use Prim.Native.Nat.{ℕ, ◌<◌}
use mathlib.Core.Path.{◌≡◌, refl, sym, ap, subst, ◌∙◌}
use mathlib.Core.Bool.{Bool, true, false, cond}
use mathlib.Core.List.{List, [], ◌∷◌}
use mathlib.Core.Option.{Option, none, some}
use native.Mathlib.Omega.{arith}
use lib.ListN.{length}
use Rattle.text_syntax.specs.Token.{Token}
use Rattle.text_syntax.specs.Kind.{Kind, kind, is}
use Rattle.text_syntax.specs.Form.{Form, formed, unformed, held, one_of, past, then, then_or, or, whole}
use Rattle.text_syntax.proofs.TokenKinds.{token_of, token_kind, is_true}

-- P holds of the form and of what stands behind it, if there is one
abbrev pub All : {A : Type 0} → (A → List Token → Type 0) → Form A → Type 0
All P unformed = Unit {0}
All P (formed a r) = P a r

pub all_formed : {A : Type 0} (P : A → List Token → Type 0) {f : Form A} {a : A} {r : List Token} → All P f → f ≡ formed a r → P a r
all_formed P h e = subst (All P) e h

pub then_all : {A B : Type 0} (P : B → List Token → Type 0) (g : Form A) (f : A → List Token → Form B)
    → ((a : A) (r : List Token) → g ≡ formed a r → All P (f a r)) → All P (then g f)
unfolding then
then_all P unformed f k = tt
then_all P (formed a r) f k = k a r refl

-- behind a form of which Q holds
pub behind_all : {A B : Type 0} (Q : A → List Token → Type 0) (P : B → List Token → Type 0) (g : Form A) (f : A → List Token → Form B)
    → All Q g → ((a : A) (r : List Token) → Q a r → All P (f a r)) → All P (then g f)
unfolding then
behind_all Q P unformed f h k = tt
behind_all Q P (formed a r) f h k = k a r h

pub all_always : {A : Type 0} (P : A → List Token → Type 0) (f : Form A) → ((a : A) (r : List Token) → P a r) → All P f
all_always P unformed k = tt
all_always P (formed a r) k = k a r

pub all_map : {A : Type 0} (P Q : A → List Token → Type 0) (f : Form A) → ((a : A) (r : List Token) → P a r → Q a r) → All P f → All Q f
all_map P Q unformed k h = tt
all_map P Q (formed a r) k h = k a r h

-- two ways to read on behind a form
pub then_same : {A B : Type 0} (g : Form A) (f h : A → List Token → Form B) → All (λ a r. f a r ≡ h a r) g → then g f ≡ then g h
unfolding then
then_same unformed f h k = refl
then_same (formed a r) f h k = k

pub then_or-same : {A B : Type 0} (g : Form A) (f h : A → List Token → Form B) (y z : Form B) → All (λ a r. f a r ≡ h a r) g → y ≡ z
    → then_or g f y ≡ then_or g h z
unfolding then_or
then_or-same unformed f h y z k e = e
then_or-same (formed a r) f h y z k e = k

pub past_same : {A : Type 0} (w : Token) (ts : List Token) (f h : List Token → Form A) → ((r : List Token) → length r < length ts → f r ≡ h r)
    → past w ts f ≡ past w ts h
unfolding past
past_same w [] f h k = refl
past_same w (t ∷ r) f h k = rw (k r (omega arith))

-- reading on behind what was read behind a form
pub then-then : {A B C : Type 0} (g : Form A) (f : A → List Token → Form B) (h : B → List Token → Form C) → then (then g f) h ≡ then g (λ a r. then (f a r) h)
unfolding then
then-then unformed f h = refl
then-then (formed a r) f h = refl

pub then-past : {A B : Type 0} (w : Token) (ts : List Token) (f : List Token → Form A) (h : A → List Token → Form B)
    → then (past w ts f) h ≡ past w ts (λ r. then (f r) h)
unfolding then past
then-past w [] f h = refl
then-past {A} {B} w (t ∷ r) f h = go (is w t)
  where
    go : (x : Bool) → then (cond x (f r) unformed) h ≡ cond x (then (f r) h) unformed
    go true = refl
    go false = refl

pub or-none : {A : Type 0} (x : Form A) → or x unformed ≡ x
unfolding or
or-none unformed = refl
or-none (formed a r) = refl

pub or_all : {A : Type 0} (P : A → List Token → Type 0) (x y : Form A) → All P x → All P y → All P (or x y)
unfolding or
or_all P unformed y hx hy = hy
or_all P (formed a r) y hx hy = hx

-- behind one token
pub past_all : {A : Type 0} (P : A → List Token → Type 0) (w : Token) (ts : List Token) (f : List Token → Form A)
    → ((r : List Token) → ts ≡ w ∷ r → All P (f r)) → All P (past w ts f)
unfolding past
past_all P w [] f k = tt
past_all {A} P w (t ∷ r) f k = go (is w t) refl
  where
    go : (x : Bool) → is w t ≡ x → All P (cond x (f r) unformed)
    go true e = k r (ap (λ (u : Token). u ∷ r) (is_true w t e))
    go false e = tt

-- one token of a kind, by the token that holds a
pub one_all : {A : Type 0} (P : A → List Token → Type 0) (f : Kind → Option A) (token : A → Token)
    → ((k : Kind) (a : A) → f k ≡ some a → token_of k ≡ token a)
    → (ts : List Token) → ((a : A) (r : List Token) → ts ≡ token a ∷ r → P a r) → All P (one_of f ts)
unfolding one_of held
one_all P f token is [] k = tt
one_all {A} P f token is (t ∷ r) k = go (f (kind t)) refl
  where
    go : (o : Option A) → f (kind t) ≡ o → All P (held o r)
    go none e = tt
    go (some a) e = k a r (ap (λ (u : Token). u ∷ r) (sym (token_kind t) ∙ is (kind t) a e))

-- a whole list
pub whole_all : {A : Type 0} (P : A → List Token → Type 0) (f : Form A) (a : A) → All P f → whole f ≡ some a → P a []
unfolding whole
whole_all P unformed a h e = absurd (let z : ◌≡◌ {A = ℕ} 0 1 = cc in omega arith)
whole_all {A} P (formed b []) a h e = let same : b ≡ a = cc in subst (λ (x : A). P x []) same h
whole_all P (formed b (t ∷ r)) a h e = absurd (let z : ◌≡◌ {A = ℕ} 0 1 = cc in omega arith)
