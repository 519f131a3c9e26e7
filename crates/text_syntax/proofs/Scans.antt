-- Chains and expressions in one pass: the scan of an expression answers what its tree answers.
use Prim.Native.Nat.{ℕ, zero, suc, ◌+◌, ◌≤◌, ◌<◌, max}
use mathlib.Core.Path.{◌≡◌, refl, sym, ap, ◌∙◌}
use mathlib.Core.Bool.{Bool, true, false, cond, and_assoc, or_assoc}
use mathlib.Core.List.{List, [], ◌∷◌, ◌++◌, append_assoc, append-nil}
use native.Mathlib.Omega.{arith}
use lib.ListN.{length, length-append}
use Rattle.register.specs.declared.Sizes.{Sizes}
use Rattle.program.specs.declared.rule.Operator.{Operator}
use Rattle.text_syntax.specs.Token.{Token, own, letter, operator, openSquare, closeSquare, openRound, closeRound}
use Rattle.text_syntax.specs.Kind.{kind, operator_in, fixed_in, same, is}
use Rattle.text_syntax.specs.Form.{Form, formed, unformed, held, one_of, past, then, then_or, or}
use Rattle.text_syntax.specs.Written.{Term, Expression, term, group, operation}
use Rattle.text_syntax.specs.Grammar.{chain_form, term_form, group_form, operand_form, is_sum, is_smaller, operator_form, joined_to, expression, operand, minimum, minimum_from, expression_from}
use Rattle.text_syntax.specs.Printed.{printed_expression}
use Rattle.text_syntax.specs.Parts.{every_term, is_reference, is_measure, operators, depth}
use Rattle.text_syntax.specs.Flat.{closed_chain, chain_from, Summary, empty, summary, merged, with_operator, scan, scan_from}
use Rattle.text_syntax.proofs.TokenKinds.{operator_token}
use Rattle.text_syntax.proofs.Readers.{All, all_always, all_map, then_same, then_or-same, past_same, then-then, then-past, one_all}
use Rattle.text_syntax.proofs.Chains.{chain_own, chain_letter, TermSpelled, term_all, round_term}
use Rattle.text_syntax.proofs.Expressions.{Begins, operator_all, Reads, NoOperator, rest-shorter, read_all}
use Rattle.text_syntax.proofs.Turns.{Shortens, operand-shorter, minimum-shorter, minimum-joined, expression-joined}

-- a chain in one pass: nothing has opened, one more letter opens, `u` stands within
pub chain_start : (ts : List Token) → chain_from [] ts ≡ chain_form ts
unfolding chain_from closed_chain then
chain_start ts = go (chain_form ts)
  where
    go : (f : Form (List ℕ)) → then f formed ≡ f
    go unformed = refl
    go (formed ls r) = refl

closed-one : (ls : List ℕ) (l : ℕ) (ms : List ℕ) (r : List Token)
    → past closeSquare r (closed_chain (length ls) (ls ++ (l ∷ ms))) ≡ closed_chain (length (ls ++ (l ∷ []))) ((ls ++ (l ∷ [])) ++ ms) r
unfolding closed_chain
closed-one ls l ms r =
    let longer : length (ls ++ (l ∷ [])) ≡ suc (length ls) = omega (arith, length-append ls (l ∷ [])) in
    rw (longer, append_assoc ls (l ∷ []) ms)

pub chain_opens : (ls : List ℕ) (l : ℕ) (r : List Token) → chain_from ls (letter l ∷ openSquare ∷ r) ≡ chain_from (ls ++ (l ∷ [])) r
unfolding chain_from past is same fixed_in kind then
chain_opens ls l r =
    ap (λ (f : Form (List ℕ)). then f (λ ms. closed_chain (length ls) (ls ++ ms))) (chain_letter l (openSquare ∷ r))
    ∙ then-then (chain_form r) _ _
    ∙ then_same (chain_form r) _ _ (all_always _ (chain_form r) (λ ms s. then-past closeSquare s (formed (l ∷ ms)) _ ∙ closed-one ls l ms s))

pub chain_within : (ls : List ℕ) (r : List Token) → chain_from ls (own ∷ r) ≡ closed_chain (length ls) ls r
unfolding chain_from then
chain_within ls r = rw (chain_own r, append-nil)

-- summaries merge from left to right
module _ (s : Sizes) (d : ℕ) (g : Summary) where
  pub merged_operation : (o : Operator) (x y : Expression)
      → merged d (with_operator o (merged d g (summary s x))) (summary s y) ≡ merged d g (summary s (operation o x y))
  unfolding merged with_operator summary every_term is_reference is_measure depth operators
  merged_operation o x y =
      let deeper : max (max g.depth (d + depth x)) (d + depth y) ≡ max g.depth (d + max (depth x) (depth y)) = omega arith in
      let longer : g.operators + operators x + 1 + operators y ≡ g.operators + (operators x + operators y + 1) = omega arith in
      simp (and_assoc, or_assoc, deeper, longer)

  pub merged_group : (e : Expression) → merged (suc d) g (summary s e) ≡ merged d g (summary s (group e))
  unfolding merged summary every_term is_reference is_measure depth operators
  merged_group e = let deeper : suc d + depth e ≡ d + suc (depth e) = omega arith in rw deeper

pub merged-empty : (s : Sizes) (e : Expression) → merged 0 empty (summary s e) ≡ summary s e
unfolding merged summary empty
merged-empty s e =
    let deep : max 0 (0 + depth e) ≡ depth e = omega arith in
    let long : 0 + operators e ≡ operators e = omega arith in
    rw (deep, long)

-- a term and an operator leave less
term_shorter : (ts : List Token) → All (λ x r. length r < length ts) (term_form ts)
unfolding printed_expression
term_shorter ts = all_map (TermSpelled ts) (λ x r. length r < length ts) (term_form ts)
    (λ x r e. rest-shorter {k = 0} {e = term x} (record { text = e; proper = tt; tight = omega arith })) (term_all ts)

operator_shorter : (ts : List Token) → All (λ (o : Operator) r. length r < length ts) (one_of operator_in ts)
operator_shorter ts = one_all _ operator_in operator operator_token ts (λ o r e. omega (arith, ap length e))

-- the number of the scan changes nothing
module _ (s : Sizes) where
  scan-same : (n m : ℕ) (due : Bool) (d : ℕ) (g : Summary) (ts : List Token) → length ts < n → length ts < m → scan n s due d g ts ≡ scan m s due d g ts
  unfolding scan
  scan-same zero m due d g ts l k = absurd (omega arith)
  scan-same (suc n) zero due d g ts l k = absurd (omega arith)
  scan-same (suc n) (suc m) true d g ts l k =
      then_or-same (term_form ts) _ _ _ _
      (all_map _ _ (term_form ts) (λ x r h. scan-same n m false d (merged d g (summary s (term x))) r (omega arith) (omega arith)) (term_shorter ts))
      (past_same openRound ts _ _ (λ r h. scan-same n m true (suc d) g r (omega arith) (omega arith)))
  scan-same (suc n) (suc m) false zero g ts l k =
      then_or-same (one_of operator_in ts) _ _ _ _
      (all_map _ _ (one_of operator_in ts) (λ o r h. scan-same n m true zero (with_operator o g) r (omega arith) (omega arith)) (operator_shorter ts)) refl
  scan-same (suc n) (suc m) false (suc d) g ts l k =
      then_or-same (one_of operator_in ts) _ _ _ _
      (all_map _ _ (one_of operator_in ts) (λ o r h. scan-same n m true (suc d) (with_operator o g) r (omega arith) (omega arith)) (operator_shorter ts))
      (past_same closeRound ts _ _ (λ r h. scan-same n m false d g r (omega arith) (omega arith)))

  -- the scan without its number: where an operand is due, and behind one
  pub scan_due : (d : ℕ) (g : Summary) (ts : List Token)
      → scan_from s true d g ts
      ≡ then_or (term_form ts) (λ x. scan_from s false d (merged d g (summary s (term x)))) (past openRound ts (scan_from s true (suc d) g))
  unfolding scan_from scan
  scan_due d g ts =
      then_or-same (term_form ts) _ _ _ _
      (all_map _ _ (term_form ts) (λ x r h. scan-same (length ts) (suc (length r)) false d (merged d g (summary s (term x))) r h (omega arith))
      (term_shorter ts))
      (past_same openRound ts _ _ (λ r h. scan-same (length ts) (suc (length r)) true (suc d) g r h (omega arith)))

  pub scan_outside : (g : Summary) (ts : List Token)
      → scan_from s false 0 g ts ≡ then_or (one_of operator_in ts) (λ o. scan_from s true 0 (with_operator o g)) (formed g ts)
  unfolding scan_from scan
  scan_outside g ts =
      then_or-same (one_of operator_in ts) _ _ _ _
      (all_map _ _ (one_of operator_in ts) (λ o r h. scan-same (length ts) (suc (length r)) true 0 (with_operator o g) r h (omega arith)) (operator_shorter ts))
      refl

  pub scan-inside : (d : ℕ) (g : Summary) (ts : List Token)
      → scan_from s false (suc d) g ts
      ≡ then_or (one_of operator_in ts) (λ o. scan_from s true (suc d) (with_operator o g)) (past closeRound ts (scan_from s false d g))
  unfolding scan_from scan
  scan-inside d g ts =
      then_or-same (one_of operator_in ts) _ _ _ _
      (all_map _ _ (one_of operator_in ts) (λ o r h. scan-same (length ts) (suc (length r)) true (suc d) (with_operator o g) r h (omega arith))
      (operator_shorter ts))
      (past_same closeRound ts _ _ (λ r h. scan-same (length ts) (suc (length r)) false d g r h (omega arith)))

  -- its turns, one for each token that a reader meets, and its end
  pub scan_term : (d : ℕ) (g : Summary) (x : Term) (ts r : List Token) → term_form ts ≡ formed x r
      → scan_from s true d g ts ≡ scan_from s false d (merged d g (summary s (term x))) r
  unfolding then_or
  scan_term d g x ts r h = scan_due d g ts ∙ rw h

  pub scan_open : (d : ℕ) (g : Summary) (r : List Token) → scan_from s true d g (openRound ∷ r) ≡ scan_from s true (suc d) g r
  unfolding then_or past is same fixed_in kind
  scan_open d g r = scan_due d g (openRound ∷ r) ∙ rw (round_term r)

  pub scan_operator : (d : ℕ) (g : Summary) (o : Operator) (r : List Token) → scan_from s false d g (operator o ∷ r) ≡ scan_from s true d (with_operator o g) r
  unfolding then_or one_of held operator_in kind
  scan_operator zero g o r = scan_outside g (operator o ∷ r)
  scan_operator (suc d) g o r = scan-inside d g (operator o ∷ r)

  pub scan_close : (d : ℕ) (g : Summary) (ts : List Token) → NoOperator ts → scan_from s false (suc d) g ts ≡ past closeRound ts (scan_from s false d g)
  unfolding then_or
  scan_close d g ts h = scan-inside d g ts ∙ rw h

  pub scan-end : (g : Summary) (ts : List Token) → NoOperator ts → scan_from s false 0 g ts ≡ formed g ts
  unfolding then_or
  scan-end g ts h = scan_outside g ts ∙ rw h

  -- behind an operand, the scan goes on with its summary merged
  behind : ℕ → Summary → Expression → List Token → Form Summary
  behind d g e r = scan_from s false d (merged d g (summary s e)) r

  behind_operator : (d : ℕ) (g : Summary) (o : Operator) (x : Expression) (r : List Token)
      → behind d g x (operator o ∷ r) ≡ scan_from s true d (with_operator o (merged d g (summary s x))) r
  unfolding behind
  behind_operator d g o x r = scan_operator d (merged d g (summary s x)) o r

  behind_operation : (d : ℕ) (g : Summary) (o : Operator) (x y : Expression) (r : List Token)
      → behind d (with_operator o (merged d g (summary s x))) y r ≡ behind d g (operation o x y) r
  unfolding behind
  behind_operation d g o x y r = rw (merged_operation s d g o x y)

  -- of lists shorter than n, element reads what the scan passes
  abbrev Scans : ℕ → (List Token → Form Expression) → Type 0
  Scans n element = (d : ℕ) (g : Summary) (ts : List Token) → length ts < n → scan_from s true d g ts ≡ then (element ts) (behind d g)

  module _ (N : ℕ) (rank : Operator → Bool) (element : List Token → Form Expression) (short : Shortens element) (each : Scans N element) where
    more-scan : (n d : ℕ) (g : Summary) (x : Expression) (ts : List Token) → length ts < n → length ts < N
        → behind d g x ts ≡ then (joined_to n rank element x ts) (behind d g)
    unfolding joined_to then_or then
    more-scan zero d g x ts l b = absurd (omega arith)
    more-scan (suc n) d g x ts l b = go (more-scan n d g) (operator_form rank ts) (operator_all rank ts)
      where
        go : ((x : Expression) (ts : List Token) → length ts < n → length ts < N → behind d g x ts ≡ then (joined_to n rank element x ts) (behind d g))
            → (f : Form Operator) → All (Begins rank ts) f
            → behind d g x ts ≡ then (then_or f (λ o r. then (element r) (λ y. joined_to n rank element (operation o x y))) (formed x ts)) (behind d g)
        go ih unformed h = refl
        go ih (formed o r) h =
            let behind-it : length ts ≡ suc (length r) = ap length h.0 in
            ap (behind d g x) h.0
            ∙ behind_operator d g o x r
            ∙ each d (with_operator o (merged d g (summary s x))) r (omega arith)
            ∙ then_same (element r) _ _
            (all_map _ _ (element r) (λ y r₁ q. behind_operation d g o x y r₁ ∙ ih (operation o x y) r₁ (omega arith) (omega arith)) (short r))
            ∙ sym (then-then (element r) _ _)

    joined-scan : (from : Expression → List Token → Form Expression)
        → ((x : Expression) (ts : List Token) → from x ts ≡ joined_to (suc (length ts)) rank element x ts)
        → (reader : List Token → Form Expression) → ((ts : List Token) → reader ts ≡ then (element ts) from) → Scans N reader
    joined-scan from is reader joins d g ts b =
        each d g ts b
        ∙ then_same (element ts) _ _
        (all_map _ _ (element ts)
        (λ x r q. more-scan (suc (length r)) d g x r (omega arith) (omega arith) ∙ ap (λ (f : Form Expression). then f (behind d g)) (sym (is x r)))
        (short ts))
        ∙ sym (then-then (element ts) from (behind d g))
        ∙ ap (λ (f : Form Expression). then f (behind d g)) (sym (joins ts))

  minimum-scan : (N : ℕ) → Scans N operand → Scans N minimum
  unfolding minimum_from
  minimum-scan N each = joined-scan N is_smaller operand operand-shorter each minimum_from (λ x ts. refl) minimum minimum-joined

  sum-scan : (N : ℕ) → Scans N minimum → Scans N expression
  unfolding expression_from
  sum-scan N each = joined-scan N is_sum minimum minimum-shorter each expression_from (λ x ts. refl) expression expression-joined

  -- what a group holds, and its `)`
  closed-scan : (d : ℕ) (g : Summary) (e : Expression) (r : List Token) → NoOperator r
      → behind (suc d) g e r ≡ then (past closeRound r (formed (group e))) (behind d g)
  unfolding behind past then
  closed-scan d g e [] h = scan_close d (merged (suc d) g (summary s e)) [] h
  closed-scan d g e (t ∷ r) h = scan_close d (merged (suc d) g (summary s e)) (t ∷ r) h ∙ go (is closeRound t)
    where
      go : (x : Bool) → cond x (scan_from s false d (merged (suc d) g (summary s e)) r) unformed ≡ then (cond x (formed (group e) r) unformed) (behind d g)
      go true = rw (merged_group s d g e)
      go false = refl

  group_scan : (N : ℕ) → Scans N expression → (d : ℕ) (g : Summary) (ts : List Token) → length ts ≤ N
      → past openRound ts (scan_from s true (suc d) g) ≡ then (group_form expression ts) (behind d g)
  unfolding group_form past then
  group_scan N inner d g [] b = refl
  group_scan N inner d g (t ∷ r) b = go (is openRound t)
    where
      closing : Expression → List Token → Form Expression
      closing e r = past closeRound r (formed (group e))

      go : (x : Bool) → cond x (scan_from s true (suc d) g r) unformed ≡ then (cond x (then (expression r) closing) unformed) (behind d g)
      go true =
          inner (suc d) g r (omega arith)
          ∙ then_same (expression r) _ _ (all_map (Reads 0 NoOperator r) _ (expression r) (λ e r₁ w. closed-scan d g e r₁ w.1) (read_all r))
          ∙ sym (then-then (expression r) closing (behind d g))
      go false = refl

  operand-scan : (N : ℕ) → Scans N expression → Scans (suc N) operand
  unfolding operand operand_form then_or then or behind
  operand-scan N inner d g ts b = scan_due d g ts ∙ go (term_form ts)
    where
      go : (f : Form Term) → then_or f (λ x. scan_from s false d (merged d g (summary s (term x)))) (past openRound ts (scan_from s true (suc d) g))
          ≡ then (or (then f (λ x. formed (term x))) (group_form expression ts)) (behind d g)
      go unformed = group_scan N inner d g ts (omega arith)
      go (formed x r) = refl

  expression-scan : (N : ℕ) → Scans N expression
  expression-scan zero d g ts b = absurd (omega arith)
  expression-scan (suc N) d g ts b = sum-scan (suc N) (minimum-scan (suc N) (operand-scan N (expression-scan N))) d g ts b

  -- the scan answers the summary of the tree and what stands behind it, and none where there is none
  pub scan-expression : (ts : List Token) → scan_from s true 0 empty ts ≡ then (expression ts) (λ e. formed (summary s e))
  unfolding behind
  scan-expression ts =
      expression-scan (suc (length ts)) 0 empty ts (omega arith)
      ∙ then_same (expression ts) _ _
      (all_map (Reads 0 NoOperator ts) _ (expression ts) (λ e r w. scan-end (merged 0 empty (summary s e)) r w.1 ∙ rw (merged-empty s e))
      (read_all ts))
