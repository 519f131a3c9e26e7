-- The numbers of the readers change nothing, and the grammar's equations without them: one turn of a reader that joins, and its end.
use Prim.Native.Nat.{ℕ, zero, suc, ◌≤◌, ◌<◌}
use mathlib.Core.Path.{◌≡◌, refl, sym, ap, ◌∙◌}
use mathlib.Core.Bool.{Bool, true}
use mathlib.Core.List.{List, [], ◌∷◌}
use native.Mathlib.Omega.{arith}
use lib.ListN.{length}
use Rattle.program.specs.declared.rule.Operator.{Operator}
use Rattle.text_syntax.specs.Token.{Token, operator, openRound, closeRound}
use Rattle.text_syntax.specs.Kind.{kind, fixed_in, same, is}
use Rattle.text_syntax.specs.Form.{Form, formed, unformed, one_of, past, then, then_or, or}
use Rattle.text_syntax.specs.Written.{Term, Expression, term, group, operation}
use Rattle.text_syntax.specs.Grammar.{chain_form, term_form, group_form, operand_form, is_sum, is_smaller, operator_form, joined_to, joined, expression_form, expression, operand, minimum, minimum_from, expression_from}
use Rattle.text_syntax.proofs.Readers.{All, all_map, then_same}
use Rattle.text_syntax.proofs.Chains.{round_term}
use Rattle.text_syntax.proofs.Expressions.{Ends, Begins, operator_all, Reads, rest-shorter, joined-more, joined_end, NoOperator, Anything, operand_all, minimum_all, expression_all, read_all}

-- what stands behind an expression is shorter
abbrev pub Shortens : (List Token → Form Expression) → Type 0
Shortens element = (ts : List Token) → All (λ e r. length r < length ts) (element ts)

-- two readers answer alike on lists shorter than n
abbrev Agree : ℕ → (List Token → Form Expression) → (List Token → Form Expression) → Type 0
Agree n f h = (ts : List Token) → length ts < n → f ts ≡ h ts

module _ (rank : Operator → Bool) (element element' : List Token → Form Expression) (short : Shortens element) where
  more_same : (n m : ℕ) (x : Expression) (ts : List Token) → length ts < n → length ts < m → Agree (length ts) element element'
      → joined_to n rank element x ts ≡ joined_to m rank element' x ts
  unfolding joined_to then_or
  more_same zero m x ts l k a = absurd (omega arith)
  more_same (suc n) zero x ts l k a = absurd (omega arith)
  more_same (suc n) (suc m) x ts l k a = go (more_same n m) (operator_form rank ts) (operator_all rank ts)
    where
      go : ((x : Expression) (ts : List Token) → length ts < n → length ts < m → Agree (length ts) element element'
          → joined_to n rank element x ts ≡ joined_to m rank element' x ts)
          → (f : Form Operator) → All (Begins rank ts) f
          → then_or f (λ o r. then (element r) (λ y. joined_to n rank element (operation o x y))) (formed x ts)
          ≡ then_or f (λ o r. then (element' r) (λ y. joined_to m rank element' (operation o x y))) (formed x ts)
      go ih unformed b = refl
      go ih (formed o r) b =
          let behind : length ts ≡ suc (length r) = ap length b.0 in
          then_same (element r) _ _
          (all_map _ _ (element r) (λ y r₁ d. ih (operation o x y) r₁ (omega arith) (omega arith) (λ s e. a s (omega arith))) (short r))
          ∙ ap (λ (g : Form Expression). then g (λ y. joined_to m rank element' (operation o x y))) (a r (omega arith))

  joined_same : (n m : ℕ) (ts : List Token) → length ts ≤ n → length ts ≤ m → Agree (suc (length ts)) element element'
      → joined n rank element ts ≡ joined m rank element' ts
  unfolding joined
  joined_same n m ts l k a =
      then_same (element ts) _ _ (all_map _ _ (element ts) (λ x r d. more_same n m x r (omega arith) (omega arith) (λ s e. a s (omega arith))) (short ts))
      ∙ ap (λ (g : Form Expression). then g (joined_to m rank element')) (a ts (omega arith))

operand_same : (f h : List Token → Form Expression) (ts : List Token) → Agree (length ts) f h → operand_form f ts ≡ operand_form h ts
unfolding operand_form group_form past
operand_same f h [] a = refl
operand_same f h (t ∷ ts) a = rw (a ts (omega arith))

-- elements that are the tokens of expressions leave less
shortens : (k : ℕ) (E : List Token → Type 0) (element : List Token → Form Expression) → ((ts : List Token) → All (Reads k E ts) (element ts))
    → Shortens element
shortens k E element each ts = all_map (Reads k E ts) (λ e r. length r < length ts) (element ts) (λ e r w. rest-shorter w.0) (each ts)

module _ (f h : List Token → Form Expression) (each : (ts : List Token) → All (Reads 0 NoOperator ts) (f ts)) where
  minimum-same : (n m : ℕ) (ts : List Token) → length ts ≤ n → length ts ≤ m → Agree (length ts) f h
      → joined n is_smaller (operand_form f) ts ≡ joined m is_smaller (operand_form h) ts
  minimum-same n m ts l k a =
      joined_same is_smaller (operand_form f) (operand_form h) (shortens 2 Anything (operand_form f) (operand_all f each)) n m ts l k
      (λ s d. operand_same f h s (λ r e. a r (omega arith)))

  sum_same : (n m p : ℕ) (element : List Token → Form Expression) (ts : List Token) → length ts ≤ n → length ts ≤ m
      → Agree (suc (length ts)) (joined p is_smaller (operand_form f)) element
      → joined n is_sum (joined p is_smaller (operand_form f)) ts ≡ joined m is_sum element ts
  sum_same n m p element ts l k a =
      joined_same is_sum (joined p is_smaller (operand_form f)) element
      (shortens 1 (Ends is_smaller) (joined p is_smaller (operand_form f)) (minimum_all (operand_form f) (operand_all f each) p)) n m ts l k a

-- nothing begins with an expression that has no token
nil_expression : (n : ℕ) (ts : List Token) → length ts ≤ 0 → expression_form n ts ≡ unformed
unfolding expression_form joined operand_form term_form group_form chain_form one_of past then or
nil_expression zero [] l = refl
nil_expression (suc n) [] l = refl
nil_expression zero (t ∷ ts) l = absurd (omega arith)
nil_expression (suc n) (t ∷ ts) l = absurd (omega arith)

-- the number of an expression's reader changes nothing
pub expression-same : (n m : ℕ) (ts : List Token) → length ts ≤ n → length ts ≤ m → expression_form n ts ≡ expression_form m ts
unfolding expression_form
expression-same zero m ts l k = sym (nil_expression m ts l)
expression-same (suc n) zero ts l k = nil_expression (suc n) ts k
expression-same (suc n) (suc m) ts l k =
    sum_same (expression_form n) (expression_form m) (expression_all n) (suc n) (suc m) (suc n) _ ts l k (λ r d.
    minimum-same (expression_form n) (expression_form m) (expression_all n) (suc n) (suc m) r (omega arith) (omega arith) (λ s e.
    expression-same n m s (omega arith) (omega arith)))

-- what the readers without numbers leave
pub operand_reads : (ts : List Token) → All (Reads 2 Anything ts) (operand ts)
unfolding operand
operand_reads ts = operand_all expression read_all ts

pub minimum_reads : (ts : List Token) → All (Reads 1 (Ends is_smaller) ts) (minimum ts)
unfolding minimum
minimum_reads ts = minimum_all operand operand_reads (length ts) ts

pub operand-shorter : Shortens operand
operand-shorter = shortens 2 Anything operand operand_reads

pub minimum-shorter : Shortens minimum
minimum-shorter = shortens 1 (Ends is_smaller) minimum minimum_reads

-- the first element, and what is joined to it
module _ (rank : Operator → Bool) (element : List Token → Form Expression) (short : Shortens element) where
  from : Expression → List Token → Form Expression
  from x ts = joined_to (suc (length ts)) rank element x ts

  joined-from : (ts : List Token) → joined (length ts) rank element ts ≡ then (element ts) from
  unfolding joined from
  joined-from ts = then_same (element ts) _ _
      (all_map _ _ (element ts) (λ x r d. more_same rank element element short (length ts) (suc (length r)) x r d (omega arith) (λ s e. refl)) (short ts))

  from_more : (o : Operator) (x : Expression) (r : List Token) → rank o ≡ true → from x (operator o ∷ r) ≡ then (element r) (λ y. from (operation o x y))
  unfolding from
  from_more o x r h =
      joined-more rank element (suc (length r)) o x r h
      ∙ then_same (element r) _ _
      (all_map _ _ (element r)
      (λ y s d. more_same rank element element short (suc (length r)) (suc (length s)) (operation o x y) s (omega arith) (omega arith) (λ s e. refl))
      (short r))

-- operands joined by `<?`
pub minimum-joined : (ts : List Token) → minimum ts ≡ then (operand ts) minimum_from
unfolding minimum minimum_from from
minimum-joined ts = joined-from is_smaller operand operand-shorter ts

pub minimum-more : (o : Operator) (x : Expression) (r : List Token) → is_smaller o ≡ true
    → minimum_from x (operator o ∷ r) ≡ then (operand r) (λ y. minimum_from (operation o x y))
unfolding minimum_from from
minimum-more o x r h = from_more is_smaller operand operand-shorter o x r h

pub minimum-end : (x : Expression) (r : List Token) → Ends is_smaller r → minimum_from x r ≡ formed x r
unfolding minimum_from
minimum-end x r h = joined_end is_smaller operand (length r) x r h

-- and these by `+` and `-`
expression_joins : (ts : List Token) → expression ts ≡ joined (length ts) is_sum minimum ts
unfolding expression expression_form minimum operand joined operand_form term_form group_form chain_form one_of past then or
expression_joins [] = refl
expression_joins (t ∷ ts) =
    let n : ℕ = length ts in
    sum_same (expression_form n) expression (expression_all n) (suc n) (suc n) (suc n) minimum (t ∷ ts) (omega arith) (omega arith) (λ r d.
    minimum-same (expression_form n) expression (expression_all n) (suc n) (length r) r (omega arith) (omega arith) (λ s e.
    expression-same n (length s) s (omega arith) (omega arith)))

pub expression-joined : (ts : List Token) → expression ts ≡ then (minimum ts) expression_from
unfolding expression_from from
expression-joined ts = expression_joins ts ∙ joined-from is_sum minimum minimum-shorter ts

pub expression-more : (o : Operator) (x : Expression) (r : List Token) → is_sum o ≡ true
    → expression_from x (operator o ∷ r) ≡ then (minimum r) (λ y. expression_from (operation o x y))
unfolding expression_from from
expression-more o x r h = from_more is_sum minimum minimum-shorter o x r h

pub expression-end : (x : Expression) (r : List Token) → Ends is_sum r → expression_from x r ≡ formed x r
unfolding expression_from
expression-end x r h = joined_end is_sum minimum (length r) x r h

-- an operand is a term or a group
pub operand_term : (x : Term) (ts r : List Token) → term_form ts ≡ formed x r → operand ts ≡ formed (term x) r
unfolding operand operand_form or then
operand_term x ts r h = rw h

pub operand_group : (r : List Token) → operand (openRound ∷ r) ≡ then (expression r) (λ e r. past closeRound r (formed (group e)))
unfolding operand operand_form group_form or then past is same fixed_in kind
operand_group r = rw (round_term r)

pub operand-other : (ts : List Token) → term_form ts ≡ unformed → operand ts ≡ group_form expression ts
unfolding operand operand_form or then
operand-other ts h = rw h
