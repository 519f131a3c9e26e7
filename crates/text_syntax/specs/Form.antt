-- Readers of tokens: what a list of tokens begins with, and how readers are put behind and beside each other.
use Rattle.std.specs.Prelude.{cond, List, [], ◌∷◌}
use Rattle.std.proofs.Math.Option.{Option, none, some}
use Rattle.text_syntax.specs.Token.{Token}
use Rattle.text_syntax.specs.Kind.{Kind, kind, is}

-- A list of tokens that begins with a form: the form and what stands behind it; or it begins otherwise.
pub data Form (A : Type 0) : Type 0 where
  formed : A → List Token → Form A
  unformed : Form A

-- what one token holds, before what stands behind it
unfoldable pub held : {A : Type 0} → Option A → List Token → Form A
held none r = unformed
held (some a) r = formed a r

-- one token of a kind
unfoldable pub one_of : {A : Type 0} → (Kind → Option A) → List Token → Form A
one_of f [] = unformed
one_of f (t ∷ r) = held (f (kind t)) r

-- this token, and then what f reads behind it
unfoldable pub past : {A : Type 0} → Token → List Token → (List Token → Form A) → Form A
past w [] f = unformed
past w (t ∷ r) f = cond (is w t) (f r) unformed

-- a form, and then what f reads behind it
unfoldable pub then : {A B : Type 0} → Form A → (A → List Token → Form B) → Form B
then unformed f = unformed
then (formed a r) f = f a r

-- the same, or y where there is no such form
unfoldable pub then_or : {A B : Type 0} → Form A → (A → List Token → Form B) → Form B → Form B
then_or unformed f y = y
then_or (formed a r) f y = f a r

-- the first reading, or the second where there is none
unfoldable pub or : {A : Type 0} → Form A → Form A → Form A
or unformed y = y
or (formed a r) y = formed a r

-- a form that uses up the list
unfoldable pub whole : {A : Type 0} → Form A → Option A
whole unformed = none
whole (formed a []) = some a
whole (formed a (t ∷ r)) = none
