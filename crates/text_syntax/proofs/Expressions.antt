-- A list of tokens begins with an expression exactly when it begins with the tokens of a proper one, and no operator stands behind it.
use Prim.Native.Nat.{ℕ, zero, suc, ◌+◌, ◌*◌, ◌≤◌, ◌<◌}
use mathlib.Core.Path.{◌≡◌, refl, ap, ◌∙◌}
use mathlib.Core.Bool.{Bool, true, false, cond}
use mathlib.Core.List.{List, [], ◌∷◌, ◌++◌, append_assoc}
use native.Mathlib.Omega.{arith}
use native.Mathlib.Decide.{dec_lt}
use lib.ListN.{length, length-append}
use Rattle.laws.proofs.Bools.{true_false}
use Rattle.program.specs.declared.rule.Operator.{Operator}
use Rattle.program.specs.declared.rule.Operator.TheVariants.{Plus, Minus, Smaller}
use Rattle.text_syntax.specs.Token.{Token, operator, openRound, closeRound}
use Rattle.text_syntax.specs.Kind.{kind, operator_in, fixed_in, same, is}
use Rattle.text_syntax.specs.Form.{Form, formed, unformed, held, one_of, past, then, then_or, or}
use Rattle.text_syntax.specs.Written.{chain, number, Expression, term, group, operation}
use Rattle.text_syntax.specs.Grammar.{group_form, operand_form, is_sum, is_smaller, operator_form, joined_to, joined, expression_form, expression}
use Rattle.text_syntax.specs.Printed.{printed_chain, printed_term, printed_expression, tightness, bound, ProperExpression}
use Rattle.text_syntax.specs.Parts.{operators}
use Rattle.text_syntax.proofs.TokenKinds.{operator_token}
use Rattle.text_syntax.proofs.Readers.{All, behind_all, or_all, past_all, one_all}
use Rattle.text_syntax.proofs.Chains.{TermSpelled, term_all, term_read, round_term}

-- no operator of a rank stands first; none at all does
abbrev pub Ends : (Operator → Bool) → List Token → Type 0
Ends rank r = operator_form rank r ≡ unformed

abbrev pub NoOperator : List Token → Type 0
NoOperator r = one_of operator_in r ≡ unformed

-- an operator of a rank stands first
abbrev pub Begins : (Operator → Bool) → List Token → Operator → List Token → Type 0
Begins rank ts o r = (ts ≡ operator o ∷ r) × (rank o ≡ true)

pub operator_all : (rank : Operator → Bool) (ts : List Token) → All (Begins rank ts) (operator_form rank ts)
unfolding operator_form
operator_all rank ts =
    behind_all (λ (o : Operator) r. ts ≡ operator o ∷ r) (Begins rank ts) _ _ (one_all _ operator_in operator operator_token ts (λ o r e. e))
    (λ o r e. go o r e (rank o) refl)
  where
    go : (o : Operator) (r : List Token) → ts ≡ operator o ∷ r → (x : Bool) → rank o ≡ x → All (Begins rank ts) (cond x (formed o r) unformed)
    go o r e true h = (e, h)
    go o r e false h = tt

pub operator_read : (rank : Operator → Bool) (o : Operator) (r : List Token) → rank o ≡ true → operator_form rank (operator o ∷ r) ≡ formed o r
unfolding operator_form then one_of held operator_in kind
operator_read rank o r h = rw h

-- the tokens of a proper expression that is bound at least as tight as k
pub record Spelled (k : ℕ) (ts : List Token) (e : Expression) (r : List Token) : Type 0 where
  pub text : ts ≡ printed_expression e ++ r
  pub proper : ProperExpression e
  pub tight : k ≤ bound e

-- elements bound tighter than k, what holds behind them and behind what is joined, and the operators that bind k tight
abbrev pub Reads : ℕ → (List Token → Type 0) → List Token → Expression → List Token → Type 0
Reads k E ts e r = Spelled k ts e r × E r

module _ (k : ℕ) (rank : Operator → Bool) (element : List Token → Form Expression) (E E' : List Token → Type 0)
    (binds : (o : Operator) → rank o ≡ true → tightness o ≡ k) (ends : (r : List Token) → Ends rank r → E r → E' r) where
  extended : (ts : List Token) (o : Operator) (x y : Expression) (r r₁ r₂ : List Token) → Spelled k ts x r → Begins rank r o r₁ → Spelled (suc k) r₁ y r₂
      → Spelled k ts (operation o x y) r₂
  unfolding printed_expression bound
  extended ts o x y r r₁ r₂ w b v =
      record {
        text = w.text ∙ rw (b.0, v.text, append_assoc (printed_expression x) (operator o ∷ printed_expression y) r₂);
        proper = (omega (arith, w.tight, binds o b.1), omega (arith, v.tight, binds o b.1), w.proper, v.proper);
        tight = omega (arith, binds o b.1);
      }

  more_all : ((ts : List Token) → All (Reads (suc k) E ts) (element ts)) → (n : ℕ) (ts : List Token) (x : Expression) (r : List Token)
      → Spelled k ts x r → E r → All (Reads k E' ts) (joined_to n rank element x r)
  unfolding joined_to then_or
  more_all each zero ts x r w h = tt
  more_all each (suc n) ts x r w h = go (more_all each n ts) (operator_form rank r) refl (operator_all rank r)
    where
      go : ((x : Expression) (r : List Token) → Spelled k ts x r → E r → All (Reads k E' ts) (joined_to n rank element x r)) → (f : Form Operator)
          → operator_form rank r ≡ f → All (Begins rank r) f
          → All (Reads k E' ts) (then_or f (λ o r. then (element r) (λ y. joined_to n rank element (operation o x y))) (formed x r))
      go ih unformed e b = (w, ends r e h)
      go ih (formed o r₁) e b = behind_all (Reads (suc k) E r₁) (Reads k E' ts) _ _ (each r₁)
          (λ y r₂ v. ih (operation o x y) r₂ (extended ts o x y r r₁ r₂ w b v.0) v.1)

  pub joined_all : ((ts : List Token) → All (Reads (suc k) E ts) (element ts)) → (n : ℕ) (ts : List Token) → All (Reads k E' ts) (joined n rank element ts)
  unfolding joined
  joined_all each n ts =
      behind_all (Reads (suc k) E ts) (Reads k E' ts) _ _ (each ts)
      (λ x r v. more_all each n ts x r (record { text = v.0.text; proper = v.0.proper; tight = omega (arith, v.0.tight) }) v.1)

binds_sum : (o : Operator) → is_sum o ≡ true → tightness o ≡ 0
unfolding is_sum tightness
binds_sum Plus h = refl
binds_sum Minus h = refl
binds_sum Smaller h = true_false h refl

binds_smaller : (o : Operator) → is_smaller o ≡ true → tightness o ≡ 1
unfolding is_smaller is_sum tightness
binds_smaller Plus h = true_false h refl
binds_smaller Minus h = true_false h refl
binds_smaller Smaller h = refl

-- operands: terms and groups
abbrev pub Anything : List Token → Type 0
Anything r = Unit {0}

pub operand_all : (inner : List Token → Form Expression) → ((ts : List Token) → All (Reads 0 NoOperator ts) (inner ts)) → (ts : List Token)
    → All (Reads 2 Anything ts) (operand_form inner ts)
unfolding operand_form group_form printed_expression bound
operand_all inner each ts =
    let P : Expression → List Token → Type 0 = Reads 2 Anything ts in
    or_all P _ _
    (behind_all (TermSpelled ts) P _ _ (term_all ts) (λ x r e. (record { text = e; proper = tt; tight = omega arith }, tt)))
    (past_all P openRound ts _ (λ r e.
    behind_all (Reads 0 NoOperator r) P (inner r) _ (each r) (λ x r₁ w.
    past_all P closeRound r₁ _ (λ r₂ e₂.
    (record { text = e ∙ rw (w.0.text, e₂, append_assoc (printed_expression x) (closeRound ∷ []) r₂); proper = w.0.proper; tight = omega arith }, tt)))))

-- operands joined by `<?`
pub minimum_all : (element : List Token → Form Expression) → ((ts : List Token) → All (Reads 2 Anything ts) (element ts)) → (n : ℕ) (ts : List Token)
    → All (Reads 1 (Ends is_smaller) ts) (joined n is_smaller element ts)
minimum_all element each n ts = joined_all 1 is_smaller element Anything (Ends is_smaller) binds_smaller (λ r e h. e) each n ts

no_operator : (r : List Token) → Ends is_sum r → Ends is_smaller r → NoOperator r
unfolding operator_form then is_smaller
no_operator r h k = go (one_of operator_in r) refl
  where
    go : (f : Form Operator) → one_of operator_in r ≡ f → f ≡ unformed
    go unformed e = refl
    go (formed o r₁) e = last (is_sum o) refl
      where
        last : (x : Bool) → is_sum o ≡ x → formed o r₁ ≡ unformed
        last true d = rw (e, d) at h
        last false d = rw (e, d) at k

-- what is read is the tokens of a proper expression, and no operator follows
pub expression_all : (n : ℕ) (ts : List Token) → All (Reads 0 NoOperator ts) (expression_form n ts)
unfolding expression_form
expression_all zero ts = tt
expression_all (suc n) ts =
    joined_all 0 is_sum _ (Ends is_smaller) NoOperator binds_sum no_operator
    (minimum_all (operand_form (expression_form n)) (operand_all (expression_form n) (expression_all n)) (suc n)) (suc n) ts

pub read_all : (ts : List Token) → All (Reads 0 NoOperator ts) (expression ts)
unfolding expression
read_all ts = expression_all (length ts) ts

chain_long : (ls : List ℕ) → 0 < length (printed_chain ls)
unfolding printed_chain
chain_long [] = omega arith
chain_long (l ∷ ls) = omega arith

-- each operator and each term, of which there is one more, has a token
expression_long : (e : Expression) → 2 * operators e + 1 ≤ length (printed_expression e)
unfolding printed_expression printed_term operators
expression_long (term (chain ls)) = omega (arith, chain_long ls)
expression_long (term (number negative x)) = omega arith
expression_long (group e) = omega (arith, expression_long e, length-append (printed_expression e) (closeRound ∷ []))
expression_long (operation o x y) =
    omega (arith, expression_long x, expression_long y, length-append (printed_expression x) (operator o ∷ printed_expression y))

-- what stands behind an expression is shorter
pub rest_long : {k : ℕ} {ts : List Token} {e : Expression} {r : List Token} → Spelled k ts e r → 2 * operators e + 1 + length r ≤ length ts
rest_long {k} {ts} {e} {r} w = omega (arith, expression_long e, ap length w.text, length-append (printed_expression e) r)

pub rest-shorter : {k : ℕ} {ts : List Token} {e : Expression} {r : List Token} → Spelled k ts e r → length r < length ts
rest-shorter w = omega (arith, rest_long w)

module _ (rank : Operator → Bool) (element : List Token → Form Expression) where
  -- one turn: an operator of this rank and an element
  pub joined-more : (n : ℕ) (o : Operator) (x : Expression) (r : List Token) → rank o ≡ true
      → joined_to (suc n) rank element x (operator o ∷ r) ≡ then (element r) (λ y. joined_to n rank element (operation o x y))
  unfolding joined_to then_or
  joined-more n o x r h = rw (operator_read rank o r h)

  -- the end
  pub joined_end : (n : ℕ) (x : Expression) (r : List Token) → Ends rank r → joined_to (suc n) rank element x r ≡ formed x r
  unfolding joined_to then_or
  joined_end n x r h = rw h

-- and the tokens of a proper expression are read: elements are, where they have at most N tokens with what stands behind them
module _ (k : ℕ) (rank : Operator → Bool) (element : List Token → Form Expression) (E : List Token → Type 0) (N : ℕ)
    (binds : (o : Operator) → tightness o ≡ k → rank o ≡ true) (low : k < 2) (goes : (o : Operator) (r : List Token) → rank o ≡ true → E (operator o ∷ r))
    (each : (e : Expression) (r : List Token) → suc k ≤ bound e → ProperExpression e → E r → length (printed_expression e ++ r) ≤ N
    → element (printed_expression e ++ r) ≡ formed e r) where
  -- from its beginning on, what is joined before r is e
  abbrev Reached : Expression → List Token → Type 0
  Reached e r = (n : ℕ) × (length r < n) × (joined N rank element (printed_expression e ++ r) ≡ joined_to n rank element e r)

  first : (e : Expression) (r : List Token) → suc k ≤ bound e → ProperExpression e → E r → length (printed_expression e ++ r) ≤ N → Reached e r
  unfolding joined then
  first e r b p h f = (N, omega (arith, expression_long e, length-append (printed_expression e) r), rw (each e r b p h f))

  turn : (o : Operator) (x y : Expression) (r : List Token) → rank o ≡ true → suc k ≤ bound y → ProperExpression y → E r → length (printed_expression y ++ r) ≤ N
      → (n : ℕ) → suc (length (printed_expression y ++ r)) < n
      → joined N rank element (printed_expression x ++ (operator o ∷ (printed_expression y ++ r)))
      ≡ joined_to n rank element x (operator o ∷ (printed_expression y ++ r))
      → Reached (operation o x y) r
  unfolding printed_expression then
  turn o x y r ro b p h f zero l e = absurd (omega arith)
  turn o x y r ro b p h f (suc n) l e = (
    n,
    omega (arith, length-append (printed_expression y) r),
    rw (append_assoc (printed_expression x) (operator o ∷ printed_expression y) r)
        (e ∙ joined-more rank element n o x (printed_expression y ++ r) ro ∙ rw (each y r b p h f)),
  )

  spine : (e : Expression) (r : List Token) → k ≤ bound e → ProperExpression e → E r → length (printed_expression e ++ r) ≤ N → Reached e r
  unfolding bound printed_expression
  spine (term x) r b p h f = first (term x) r (omega arith) p h f
  spine (group x) r b p h f = first (group x) r (omega arith) p h f
  spine (operation o x y) r b p h f = go (spine x (operator o ∷ (printed_expression y ++ r))) (dec_lt k (tightness o))
    where
      lengths : length (printed_expression (operation o x y) ++ r) ≡ length (printed_expression x) + suc (length (printed_expression y ++ r))
      lengths = simp length-append (omega arith)

      go : (k ≤ bound x → ProperExpression x → E (operator o ∷ (printed_expression y ++ r))
          → length (printed_expression x ++ (operator o ∷ (printed_expression y ++ r))) ≤ N → Reached x (operator o ∷ (printed_expression y ++ r)))
          → Dec (k < tightness o) → Reached (operation o x y) r
      go ih (yes l) = first (operation o x y) r l p h f
      go ih (no l) =
          let same : tightness o ≡ k = omega arith in
          let ro = binds o same in
          let w = ih (omega (arith, p.0)) p.2 (goes o _ ro)
          (omega (arith, lengths, length-append (printed_expression x) (operator o ∷ (printed_expression y ++ r)))) in
          turn o x y r ro (omega (arith, p.1)) p.3 h (omega (arith, lengths)) w.0 w.1 w.2

  pub joined-read : (e : Expression) (r : List Token) → k ≤ bound e → ProperExpression e → E r → Ends rank r → length (printed_expression e ++ r) ≤ N
      → joined N rank element (printed_expression e ++ r) ≡ formed e r
  joined-read e r b p h d f = let w = spine e r b p h f in go w.0 w.1 w.2
    where
      go : (n : ℕ) → length r < n → joined N rank element (printed_expression e ++ r) ≡ joined_to n rank element e r
          → joined N rank element (printed_expression e ++ r) ≡ formed e r
      go zero l q = absurd (omega arith)
      go (suc n) l q = q ∙ joined_end rank element n e r d

sum_binds : (o : Operator) → tightness o ≡ 0 → is_sum o ≡ true
unfolding is_sum tightness
sum_binds Plus h = refl
sum_binds Minus h = refl
sum_binds Smaller h = absurd (omega arith)

smaller_binds : (o : Operator) → tightness o ≡ 1 → is_smaller o ≡ true
unfolding is_smaller is_sum tightness
smaller_binds Plus h = absurd (omega arith)
smaller_binds Minus h = absurd (omega arith)
smaller_binds Smaller h = refl

-- behind an element of a sum stands no `<?`
sum_goes : (o : Operator) (r : List Token) → is_sum o ≡ true → Ends is_smaller (operator o ∷ r)
unfolding operator_form then one_of held operator_in kind is_smaller
sum_goes o r h = rw h

pub ends_all : (rank : Operator → Bool) (r : List Token) → NoOperator r → Ends rank r
unfolding operator_form then
ends_all rank r h = rw h

-- a term or a group is read
operand_read : (n : ℕ) (inner : List Token → Form Expression)
    → ((e : Expression) (r : List Token) → ProperExpression e → NoOperator r → length (printed_expression e ++ r) ≤ n
    → inner (printed_expression e ++ r) ≡ formed e r)
    → (e : Expression) (r : List Token) → 2 ≤ bound e → ProperExpression e → length (printed_expression e ++ r) ≤ suc n
    → operand_form inner (printed_expression e ++ r) ≡ formed e r
unfolding operand_form group_form printed_expression bound tightness then or past is same fixed_in kind one_of held operator_in
operand_read n inner reads (term x) r b p f = rw (term_read x r)
operand_read n inner reads (group e) r b p f =
    let same = append_assoc (printed_expression e) (closeRound ∷ []) r in
    rw (round_term ((printed_expression e ++ (closeRound ∷ [])) ++ r), same, reads e (closeRound ∷ r) p refl (omega (arith, ap length same)))
operand_read n inner reads (operation o x y) r b p f = absurd (not-operand o b)
  where
    not-operand : (o : Operator) → 2 ≤ tightness o → ⊥
    not-operand Plus h = omega arith
    not-operand Minus h = omega arith
    not-operand Smaller h = omega arith

-- so is a proper expression behind which no operator stands
pub expression-read : (n : ℕ) (e : Expression) (r : List Token) → ProperExpression e → NoOperator r → length (printed_expression e ++ r) ≤ n
    → expression_form n (printed_expression e ++ r) ≡ formed e r
unfolding expression_form
expression-read zero e r p h f = absurd (omega (arith, expression_long e, length-append (printed_expression e) r))
expression-read (suc n) e r p h f =
    joined-read 0 is_sum (joined (suc n) is_smaller (operand_form (expression_form n))) (Ends is_smaller) (suc n) sum_binds (omega arith) sum_goes
    (λ x r b p h f. joined-read 1 is_smaller (operand_form (expression_form n)) Anything (suc n) smaller_binds (omega arith) (λ o r k. tt)
    (λ y r b p h f. operand_read n (expression_form n) (expression-read n) y r b p f) x r b p tt h f)
    e r (omega arith) p (ends_all is_smaller r h) (ends_all is_sum r h) f
