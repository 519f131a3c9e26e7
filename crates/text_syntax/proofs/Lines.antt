-- A line has a form exactly when its tokens are those of that form.
use Prim.Native.Nat.{ℕ}
use mathlib.Core.Path.{◌≡◌, refl, sym, ap, ◌∙◌}
use mathlib.Core.Logic.{◌↔◌, ◌≢◌}
use mathlib.Core.Bool.{false}
use mathlib.Core.List.{List, [], ◌∷◌, ◌++◌, append_assoc, append-nil}
use mathlib.Core.Option.{some}
use native.Mathlib.Omega.{arith}
use Rattle.laws.specs.Lists.{Each}
use Rattle.laws.proofs.Bools.{true_false}
use Rattle.laws.proofs.Lists.{each_append}
use Rattle.program.specs.declared.rule.Comparison.{Comparison}
use Rattle.program.specs.declared.rule.Sort.{Sort}
use Rattle.text_syntax.specs.Token as T
use Rattle.text_syntax.specs.Token.{Token, unknown, operator, openRound, closeRound, stepWord, end_word, doneWord, loopWord, ifWord, remoteWord, own, letter, becomes, colon, write, comparison, openSquare, closeSquare}
use Rattle.text_syntax.specs.Kind.{kind, letter_in, write_in, operator_in, comparison_in, fixed_in, same, is}
use Rattle.text_syntax.specs.Form.{Form, formed, held, one_of, past, then, or, whole}
use Rattle.text_syntax.specs.Written.{chain, number, Expression, term, group, operation, Condition, always, when, Action, set, remote, Line, step, end, done, loop, rule}
use Rattle.text_syntax.specs.Grammar.{chain_form, expression, local_form, sent_form, remote_form, rule_form, compared_form, tested_form, any_form, line_form}
use Rattle.text_syntax.specs.Printed.{printed_chain, printed_term, printed_expression, printed_action, printed_line, ProperExpression, ProperAction, Proper}
use Rattle.text_syntax.proofs.TokenKinds.{letter_token, write_token, comparison_token}
use Rattle.text_syntax.proofs.Readers.{All, or-none, behind_all, or_all, past_all, one_all, whole_all}
use Rattle.text_syntax.proofs.Chains.{ChainSpelled, chain_all, chain_read}
use Rattle.text_syntax.proofs.Expressions.{Spelled, Reads, NoOperator, read_all, expression-read}

-- the tokens of an expression, of an action, of a line, all proper, and what stands behind them
pub record SpelledAction (ts : List Token) (a : Action) (r : List Token) : Type 0 where
  pub text : ts ≡ printed_action a ++ r
  pub proper : ProperAction a

pub record SpelledLine (ts : List Token) (l : Line) (r : List Token) : Type 0 where
  pub text : ts ≡ printed_line l ++ r
  pub proper : Proper l

-- what is known behind one token, and behind an expression
module _ {A : Type 0} (P : A → List Token → Type 0) (ts : List Token) where
  letter_all : (f : ℕ → List Token → Form A) → ((l : ℕ) (r : List Token) → ts ≡ letter l ∷ r → All P (f l r)) → All P (then (one_of letter_in ts) f)
  letter_all f k = behind_all (λ (l : ℕ) r. ts ≡ letter l ∷ r) P _ f (one_all _ letter_in letter letter_token ts (λ l r e. e)) k

  write_all : (f : Sort → List Token → Form A) → ((w : Sort) (r : List Token) → ts ≡ write w ∷ r → All P (f w r)) → All P (then (one_of write_in ts) f)
  write_all f k = behind_all (λ (w : Sort) r. ts ≡ write w ∷ r) P _ f (one_all _ write_in write write_token ts (λ w r e. e)) k

  comparison_all : (f : Comparison → List Token → Form A) → ((c : Comparison) (r : List Token) → ts ≡ comparison c ∷ r → All P (f c r))
      → All P (then (one_of comparison_in ts) f)
  comparison_all f k = behind_all (λ (c : Comparison) r. ts ≡ comparison c ∷ r) P _ f (one_all _ comparison_in comparison comparison_token ts (λ c r e. e)) k

  expression-then : (f : Expression → List Token → Form A) → ((e : Expression) (r : List Token) → Spelled 0 ts e r → All P (f e r))
      → All P (then (expression ts) f)
  expression-then f k = behind_all (Reads 0 NoOperator ts) P _ f (read_all ts) (λ e r w. k e r w.0)

local_all : (ts : List Token) → All (SpelledAction ts) (local_form ts)
unfolding local_form printed_action
local_all ts =
    let P : Action → List Token → Type 0 = SpelledAction ts in
    letter_all P ts _ (λ f r e.
    past_all P openSquare r _ (λ r₁ e₁.
    past_all P own r₁ _ (λ r₂ e₂.
    past_all P closeSquare r₂ _ (λ r₃ e₃.
    past_all P becomes r₃ _ (λ r₄ e₄.
    expression-then P r₄ _ (λ x r₅ w.
    record { text = e ∙ rw (e₁, e₂, e₃, e₄, w.text); proper = w.proper }))))))

sent_all : (c : List ℕ) (r : List Token) → All (SpelledAction (remoteWord ∷ (printed_chain c ++ r))) (sent_form c r)
unfolding sent_form printed_action
sent_all [] r = tt
sent_all (f ∷ c) r =
    let P : Action → List Token → Type 0 = SpelledAction (remoteWord ∷ (printed_chain (f ∷ c) ++ r)) in
    write_all P r _ (λ k r₁ e₁.
    expression-then P r₁ _ (λ x r₂ w.
    record { text = rw (e₁, w.text, append_assoc (printed_chain (f ∷ c)) (write k ∷ printed_expression x) r₂); proper = w.proper }))

remote_all : (ts : List Token) → All (SpelledAction ts) (remote_form ts)
unfolding remote_form
remote_all ts =
    past_all (SpelledAction ts) remoteWord ts _ (λ r e.
    behind_all (ChainSpelled r) (SpelledAction ts) (chain_form r) sent_form (chain_all r) (λ c r₁ d. rw (e, d) (sent_all c r₁)))

-- a rule behind what stands before it, and behind its test
rule_all : (c : Condition) (ts : List Token) (P : Line → List Token → Type 0) → ((a : Action) (r : List Token) → SpelledAction ts a r → P (rule c a) r)
    → All P (rule_form c ts)
unfolding rule_form
rule_all c ts P k = behind_all (SpelledAction ts) P _ _ (or_all _ _ _ (remote_all ts) (local_all ts)) k

tested_all : (ts : List Token) → All (SpelledLine ts) (tested_form ts)
unfolding tested_form compared_form printed_line
tested_all ts =
    let P : Line → List Token → Type 0 = SpelledLine ts in
    past_all P ifWord ts _ (λ r e.
    expression-then P r _ (λ x r₁ w.
    comparison_all P r₁ _ (λ c r₂ e₂.
    expression-then P r₂ _ (λ y r₃ v.
    past_all P colon r₃ _ (λ r₄ e₄.
    rule_all (when x c y) r₄ P (λ a r₅ u.
    record { text = e ∙ rw (w.text, e₂, v.text, e₄, u.text) (simp append_assoc); proper = ((w.proper, v.proper), u.proper) }))))))

any_all : (ts : List Token) → All (SpelledLine ts) (any_form ts)
unfolding any_form printed_line
any_all ts =
    let P : Line → List Token → Type 0 = SpelledLine ts in
    or_all P _ _ (past_all P stepWord ts _ (λ r e. record { text = e; proper = tt }))
    (or_all P _ _ (past_all P end_word ts _ (λ r e. record { text = e; proper = tt }))
    (or_all P _ _ (past_all P doneWord ts _ (λ r e. record { text = e; proper = tt }))
    (or_all P _ _ (past_all P loopWord ts _ (λ r e. letter_all P r _ (λ f r₁ e₁. record { text = e ∙ rw e₁; proper = tt })))
    (or_all P _ _ (tested_all ts)
    (rule_all always ts P (λ a r u. record { text = u.text; proper = (tt, u.proper) }))))))

-- the printed tokens of a proper line
pub record PrintedLine (ts : List Token) (l : Line) : Type 0 where
  pub text : ts ≡ printed_line l
  pub proper : Proper l

pub line-spelled : (ts : List Token) (l : Line) → line_form ts ≡ some l → PrintedLine ts l
unfolding line_form
line-spelled ts l e = let w = whole_all (SpelledLine ts) (any_form ts) l (any_all ts) e in record
    { text = w.text ∙ append-nil (printed_line l); proper = w.proper }

-- and the printed tokens of a proper line are read
read_first : (e : Expression) (r : List Token) → ProperExpression e → NoOperator r → expression (printed_expression e ++ r) ≡ formed e r
unfolding expression
read_first e r p h = expression-read _ e r p h (omega arith)

read-last : (e : Expression) → ProperExpression e → expression (printed_expression e) ≡ formed e []
unfolding one_of
read-last e p = ap expression (sym (append-nil (printed_expression e))) ∙ read_first e [] p refl

-- lines and rules by their first token
pub step-first : (r : List Token) → any_form (stepWord ∷ r) ≡ formed step r
unfolding any_form past is same fixed_in kind or
step-first r = refl

pub end-first : (r : List Token) → any_form (end_word ∷ r) ≡ formed end r
unfolding any_form past is same fixed_in kind or
end-first r = refl

pub done_first : (r : List Token) → any_form (doneWord ∷ r) ≡ formed done r
unfolding any_form past is same fixed_in kind or
done_first r = refl

pub loop_first : (r : List Token) → any_form (loopWord ∷ r) ≡ then (one_of letter_in r) (λ f. formed (loop f))
unfolding any_form tested_form rule_form remote_form local_form past is same fixed_in kind one_of held letter_in then or
loop_first r = or-none _

pub if_first : (r : List Token) → any_form (ifWord ∷ r) ≡ then (expression r) (λ x r. then (one_of comparison_in r) (compared_form x))
unfolding any_form tested_form rule_form remote_form local_form past is same fixed_in kind one_of held letter_in then or
if_first r = or-none _

pub letter-first : (f : ℕ) (r : List Token) → any_form (letter f ∷ r) ≡ rule_form always (letter f ∷ r)
unfolding any_form tested_form past is same fixed_in kind or
letter-first f r = refl

pub remote_first : (r : List Token) → any_form (remoteWord ∷ r) ≡ rule_form always (remoteWord ∷ r)
unfolding any_form tested_form past is same fixed_in kind or
remote_first r = refl

-- `F[u] :=` stands before X
pub local-rule : (c : Condition) (f : ℕ) (r : List Token) → rule_form c (letter f ∷ r) ≡ then (local_form (letter f ∷ r)) (λ a. formed (rule c a))
unfolding rule_form remote_form past is same fixed_in kind or
local-rule c f r = refl

pub local-first : (f : ℕ) (r : List Token)
    → local_form (letter f ∷ openSquare ∷ own ∷ closeSquare ∷ becomes ∷ r) ≡ then (expression r) (λ e. formed (set f e))
unfolding local_form past is same fixed_in kind one_of held letter_in then
local-first f r = refl

pub remote_rule : (c : Condition) (r : List Token) → rule_form c (remoteWord ∷ r) ≡ then (then (chain_form r) sent_form) (λ a. formed (rule c a))
unfolding rule_form remote_form local_form past is same fixed_in kind one_of held letter_in then or
remote_rule c r = ap (λ (f : Form Action). then f (λ a. formed (rule c a))) (or-none (then (chain_form r) sent_form))

rule-read : (c : Condition) (a : Action) → ProperAction a → rule_form c (printed_action a) ≡ formed (rule c a) []
unfolding printed_action sent_form kind one_of held write_in then
rule-read c (set f e) p = local-rule c f _ ∙ rw (local-first f (printed_expression e), read-last e p)
rule-read c (remote k f w e) p = remote_rule c _ ∙ rw (chain_read (f ∷ w) (write k ∷ printed_expression e), read-last e p)

tested-read : (x y : Expression) (c : Comparison) (a : Action) → ProperExpression x → ProperExpression y → ProperAction a
    → any_form (printed_line (rule (when x c y) a)) ≡ formed (rule (when x c y) a) []
unfolding printed_line compared_form past is same fixed_in kind one_of held comparison_in operator_in then
tested-read x y c a px py pa =
    if_first _
    ∙ rw (
      read_first x (comparison c ∷ (printed_expression y ++ (colon ∷ printed_action a))) px refl,
      read_first y (colon ∷ printed_action a) py refl,
      rule-read (when x c y) a pa,
    )

only-rule : (a : Action) → any_form (printed_action a) ≡ rule_form always (printed_action a)
unfolding printed_action
only-rule (set f e) = letter-first f _
only-rule (remote k f c e) = remote_first _

any_read : (l : Line) → Proper l → any_form (printed_line l) ≡ formed l []
unfolding printed_line one_of held letter_in kind then
any_read step p = step-first []
any_read end p = end-first []
any_read done p = done_first []
any_read (loop f) p = loop_first (letter f ∷ [])
any_read (rule always a) p = only-rule a ∙ rule-read always a p.1
any_read (rule (when x c y) a) p = tested-read x y c a p.0.0 p.0.1 p.1

pub printed-line : (l : Line) → Proper l → line_form (printed_line l) ≡ some l
unfolding line_form whole
printed-line l p = rw (any_read l p)

-- so a list of tokens has one form at most, and each proper form one list of tokens
pub line_exactly : (ts : List Token) (l : Line) → (line_form ts ≡ some l) ↔ PrintedLine ts l
line_exactly ts l = (line-spelled ts l, λ w. ap line_form w.text ∙ printed-line l w.proper)

pub printed-one : (l m : Line) → Proper l → Proper m → printed_line l ≡ printed_line m → l ≡ m
printed-one l m p q e = let same : some l ≡ some m = sym (printed-line l p) ∙ ap line_form e ∙ printed-line m q in cc

-- every token of a form is one
abbrev pub IsToken : Token → Type 0
IsToken t = t ≢ unknown

known : (t : Token) → is unknown t ≡ false → IsToken t
unfolding is same fixed_in kind
known t h e = true_false (ap (is unknown) e) h

known_around : (s : List Token) (t : Token) (r : List Token) → is unknown t ≡ false → Each IsToken s → Each IsToken r → Each IsToken (s ++ (t ∷ r))
known_around s t r h k j = each_append IsToken s (t ∷ r) k (known t h, j)

chain_known : (ls : List ℕ) → Each IsToken (printed_chain ls)
unfolding printed_chain is same fixed_in kind
chain_known [] = (known own refl, tt)
chain_known (l ∷ ls) = (known (letter l) refl, (known openSquare refl, known_around (printed_chain ls) closeSquare [] refl (chain_known ls) tt))

expression-known : (e : Expression) → Each IsToken (printed_expression e)
unfolding printed_expression printed_term is same fixed_in kind
expression-known (term (chain ls)) = chain_known ls
expression-known (term (number negative x)) = (known (T.number negative x) refl, tt)
expression-known (group e) = (known openRound refl, known_around (printed_expression e) closeRound [] refl (expression-known e) tt)
expression-known (operation o x y) = known_around (printed_expression x) (operator o) (printed_expression y) refl (expression-known x) (expression-known y)

action_known : (a : Action) → Each IsToken (printed_action a)
unfolding printed_action is same fixed_in kind
action_known (set f e) =
    (known (letter f) refl, (known openSquare refl, (known own refl, (known closeSquare refl, (known becomes refl, expression-known e)))))
action_known (remote k f c e) =
    (known remoteWord refl, known_around (printed_chain (f ∷ c)) (write k) (printed_expression e) refl (chain_known (f ∷ c)) (expression-known e))

pub line_known : (l : Line) → Each IsToken (printed_line l)
unfolding printed_line is same fixed_in kind
line_known step = (known stepWord refl, tt)
line_known end = (known end_word refl, tt)
line_known done = (known doneWord refl, tt)
line_known (loop f) = (known loopWord refl, (known (letter f) refl, tt))
line_known (rule always a) = action_known a
line_known (rule (when x c y) a) = (
  known ifWord refl,
  known_around (printed_expression x) (comparison c) (printed_expression y ++ (colon ∷ printed_action a)) refl (expression-known x)
      (known_around (printed_expression y) colon (printed_action a) refl (expression-known y) (action_known a)),
)
