-- How deep and how long what is joined grows: for a reader that stops where groups are too deep.
use Prim.Native.Nat.{ℕ, zero, suc, ◌≤◌, ◌<◌}
use mathlib.Core.Path.{◌≡◌}
use mathlib.Core.Bool.{Bool, true}
use mathlib.Core.List.{List, ◌∷◌}
use native.Mathlib.Omega.{arith}
use lib.ListN.{length}
use Rattle.program.specs.declared.rule.Operator.{Operator}
use Rattle.text_syntax.specs.Token.{Token, operator, openRound, closeRound}
use Rattle.text_syntax.specs.Form.{Form, formed, unformed, then, then_or}
use Rattle.text_syntax.specs.Written.{Expression, operation}
use Rattle.text_syntax.specs.Grammar.{is_sum, is_smaller, operator_form, joined_to, expression, operand, minimum, minimum_from, expression_from}
use Rattle.text_syntax.specs.Parts.{depth, operators}
use Rattle.text_syntax.proofs.Readers.{All, all_map, then_all, behind_all, past_all}
use Rattle.text_syntax.proofs.Turns.{minimum-joined, minimum-more, expression-joined, expression-more, operand_group}

-- what is joined is as deep as x and has its operators
pub record Grows (x e : Expression) : Type 0 where
  pub deep : depth x ≤ depth e
  pub long : operators x ≤ operators e

grows_on : (o : Operator) (x y e : Expression) → Grows (operation o x y) e → Grows x e
unfolding depth operators
grows_on o x y e w = record { deep = omega (arith, w.deep); long = omega (arith, w.long) }

joined_grows : (rank : Operator → Bool) (element : List Token → Form Expression) (n : ℕ) (x : Expression) (ts : List Token)
    → All (λ e r. Grows x e) (joined_to n rank element x ts)
unfolding joined_to then_or
joined_grows rank element zero x ts = tt
joined_grows rank element (suc n) x ts = go (joined_grows rank element n) (operator_form rank ts)
  where
    go : ((x : Expression) (ts : List Token) → All (λ e r. Grows x e) (joined_to n rank element x ts)) → (f : Form Operator)
        → All (λ e r. Grows x e) (then_or f (λ o r. then (element r) (λ y. joined_to n rank element (operation o x y))) (formed x ts))
    go ih unformed = record { deep = omega arith; long = omega arith }
    go ih (formed o r) = then_all (λ e s. Grows x e) (element r) _ (λ y s q.
        all_map (λ e t. Grows (operation o x y) e) (λ e t. Grows x e) (joined_to n rank element (operation o x y) s) (λ e t w. grows_on o x y e w)
        (ih (operation o x y) s))

pub minimum_grows : (x : Expression) (ts : List Token) → All (λ e r. Grows x e) (minimum_from x ts)
unfolding minimum_from
minimum_grows x ts = joined_grows is_smaller operand (suc (length ts)) x ts

pub expression_grows : (x : Expression) (ts : List Token) → All (λ e r. Grows x e) (expression_from x ts)
unfolding expression_from
expression_grows x ts = joined_grows is_sum minimum (suc (length ts)) x ts

-- whatever is read here is more than k groups deep
abbrev pub Deep : ℕ → Form Expression → Type 0
Deep k f = All (λ e r. k < depth e) f

-- an element makes what it is joined to as deep as itself
module _ (k : ℕ) (element : Form Expression) (from : Expression → List Token → Form Expression)
    (grows : (x : Expression) (ts : List Token) → All (λ e r. Grows x e) (from x ts)) where
  deep_then : (joins : Expression → Expression) → ((y : Expression) → depth y ≤ depth (joins y)) → Deep k element
      → Deep k (then element (λ y. from (joins y)))
  deep_then joins up h =
      behind_all (λ y r. k < depth y) (λ e r. k < depth e) element _ h (λ y r d.
      all_map (λ e s. Grows (joins y) e) (λ e s. k < depth e) (from (joins y) r) (λ e s w. omega (arith, w.deep, up y)) (grows (joins y) r))

  deep_first : Deep k element → Deep k (then element from)
  deep_first h = deep_then (λ y. y) (λ y. omega arith) h

  deep_joined : (o : Operator) (x : Expression) → Deep k element → Deep k (then element (λ y. from (operation o x y)))
  unfolding depth
  deep_joined o x h = deep_then (operation o x) (λ y. omega arith) h

pub minimum_deep : (k : ℕ) (ts : List Token) → Deep k (operand ts) → Deep k (minimum ts)
minimum_deep k ts h = rw (minimum-joined ts) (deep_first k (operand ts) minimum_from minimum_grows h)

pub minimum_deep_more : (k : ℕ) (o : Operator) (x : Expression) (r : List Token) → is_smaller o ≡ true → Deep k (operand r)
    → Deep k (minimum_from x (operator o ∷ r))
minimum_deep_more k o x r s h = rw (minimum-more o x r s) (deep_joined k (operand r) minimum_from minimum_grows o x h)

pub expression_deep : (k : ℕ) (ts : List Token) → Deep k (minimum ts) → Deep k (expression ts)
expression_deep k ts h = rw (expression-joined ts) (deep_first k (minimum ts) expression_from expression_grows h)

pub expression_deep_more : (k : ℕ) (o : Operator) (x : Expression) (r : List Token) → is_sum o ≡ true → Deep k (minimum r)
    → Deep k (expression_from x (operator o ∷ r))
expression_deep_more k o x r s h = rw (expression-more o x r s) (deep_joined k (minimum r) expression_from expression_grows o x h)

-- a group is one deeper than what it holds
pub group_deep : (k : ℕ) (r : List Token) → Deep k (expression r) → Deep (suc k) (operand (openRound ∷ r))
unfolding depth
group_deep k r h =
    rw (operand_group r) (
    behind_all (λ e s. k < depth e) (λ e s. suc k < depth e) (expression r) _ h
    (λ e s d. past_all (λ e s. suc k < depth e) closeRound s _ (λ t q. omega arith)))

pub group_deep_first : (r : List Token) → Deep 0 (operand (openRound ∷ r))
unfolding depth
group_deep_first r =
    rw (operand_group r) (then_all (λ e s. 0 < depth e) (expression r) _ (λ e s q. past_all (λ e s. 0 < depth e) closeRound s _ (λ t d. omega arith)))
