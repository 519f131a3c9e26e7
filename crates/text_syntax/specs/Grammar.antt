-- The forms over tokens: chains, terms, expressions and lines.
use Rattle.std.specs.Prelude.{ℕ, zero, suc, Bool, true, false, cond, not, List, [], ◌∷◌, length}
use Rattle.std.proofs.Math.Option.{Option, none, some}
use Rattle.program.specs.declared.rule.Comparison.{Comparison}
use Rattle.program.specs.declared.rule.Operator.{Operator}
use Rattle.program.specs.declared.rule.Operator.TheVariants.{Plus, Minus, Smaller}
use Rattle.text_syntax.specs.Token.{Token, stepWord, end_word, doneWord, loopWord, ifWord, remoteWord, own, becomes, colon, openSquare, closeSquare, openRound, closeRound}
use Rattle.text_syntax.specs.Kind as K
use Rattle.text_syntax.specs.Kind.{Kind, letter_in, write_in, operator_in, comparison_in}
use Rattle.text_syntax.specs.Form.{Form, formed, unformed, one_of, past, then, then_or, or, whole}
use Rattle.text_syntax.specs.Written.{Term, chain, number, Expression, term, group, operation, Condition, always, when, Action, set, remote, Line, step, end, done, loop, rule}

-- a letter and `[` before a chain, closed by `]`
unfoldable pub linked : Token → Token → Form (List ℕ) → Form (List ℕ)
linked t w f = then (one_of letter_in (t ∷ w ∷ [])) (λ l r. past openSquare r (λ r. then f (λ ls r. past closeSquare r (formed (l ∷ ls)))))

-- "A chain is `u`, the current record, or a field letter and a chain in square brackets"
unfoldable pub chain_form : List Token → Form (List ℕ)
chain_form [] = unformed
chain_form (t ∷ []) = past own (t ∷ []) (formed [])
chain_form (t ∷ w ∷ ts) = or (past own (t ∷ w ∷ ts) (formed [])) (linked t w (chain_form ts))

-- a number, with its minus where it has one
unfoldable pub number_in : Kind → Option Term
number_in (K.fixed n) = none
number_in (K.letter l) = none
number_in (K.number negative x) = some (number negative x)
number_in (K.write k) = none
number_in (K.operator o) = none
number_in (K.comparison c) = none

-- "A term X or Y is a chain or a number"
unfoldable pub term_form : List Token → Form Term
term_form ts = or (then (chain_form ts) (λ ls. formed (chain ls))) (one_of number_in ts)

-- "a bracketed group holds an expression .. in round brackets", which inner reads
unfoldable pub group_form : (List Token → Form Expression) → List Token → Form Expression
group_form inner ts = past openRound ts (λ r. then (inner r) (λ e r. past closeRound r (formed (group e))))

-- "An expression holds terms or groups"
unfoldable pub operand_form : (List Token → Form Expression) → List Token → Form Expression
operand_form inner ts = or (then (term_form ts) (λ x. formed (term x))) (group_form inner ts)

-- "`<?` (the smaller; both kinds) binds tighter than `+` and `-`": the two ranks of operators
unfoldable pub is_sum : Operator → Bool
is_sum Plus = true
is_sum Minus = true
is_sum Smaller = false

unfoldable pub is_smaller : Operator → Bool
is_smaller o = not (is_sum o)

-- an operator of this rank
unfoldable pub operator_form : (Operator → Bool) → List Token → Form Operator
operator_form rank ts = then (one_of operator_in ts) (λ o r. cond (rank o) (formed o r) unformed)

-- "equal ranks go from left to right": behind x, as long as an operator of this rank follows, the operator and an element are joined to
-- all that stands before them; the number is any above that of the tokens
unfoldable pub joined_to : ℕ → (Operator → Bool) → (List Token → Form Expression) → Expression → List Token → Form Expression
joined_to zero rank element x ts = unformed
joined_to (suc n) rank element x ts =
    then_or (operator_form rank ts) (λ o r. then (element r) (λ y. joined_to n rank element (operation o x y))) (formed x ts)

-- elements "joined by operators" of this rank
unfoldable pub joined : ℕ → (Operator → Bool) → (List Token → Form Expression) → List Token → Form Expression
joined n rank element ts = then (element ts) (joined_to n rank element)

-- sums of what is joined by `<?`, whose operands hold groups; the number is any not below that of the tokens
unfoldable pub expression_form : ℕ → List Token → Form Expression
expression_form zero ts = unformed
expression_form (suc n) ts = joined (suc n) is_sum (joined (suc n) is_smaller (operand_form (expression_form n))) ts

-- the expression that a list of tokens begins with
unfoldable pub expression : List Token → Form Expression
expression ts = expression_form (length ts) ts

-- the operand that it begins with, and the operands joined by `<?`
unfoldable pub operand : List Token → Form Expression
operand ts = operand_form expression ts

unfoldable pub minimum : List Token → Form Expression
minimum ts = joined (length ts) is_smaller operand ts

-- what is read behind x, where one of them goes on
unfoldable pub minimum_from : Expression → List Token → Form Expression
minimum_from x ts = joined_to (suc (length ts)) is_smaller operand x ts

unfoldable pub expression_from : Expression → List Token → Form Expression
expression_from x ts = joined_to (suc (length ts)) is_sum minimum x ts

-- `F[u] := X`: F is any capital, and `[u]` stands as it is
unfoldable pub local_form : List Token → Form Action
local_form ts = then (one_of letter_in ts) (λ f r.
    past openSquare r (λ r. past own r (λ r. past closeSquare r (λ r. past becomes r (λ r. then (expression r) (λ e. formed (set f e)))))))

-- behind the chain whose outermost letter is F and whose others are C: `<?= X` or `+= X`
unfoldable pub sent_form : List ℕ → List Token → Form Action
sent_form [] ts = unformed
sent_form (f ∷ c) ts = then (one_of write_in ts) (λ k r. then (expression r) (λ e. formed (remote k f c e)))

-- `remote F[C] <?= X`, `remote F[C] += X`
unfoldable pub remote_form : List Token → Form Action
remote_form ts = past remoteWord ts (λ r. then (chain_form r) sent_form)

-- a rule with this test, where there is one
unfoldable pub rule_form : Condition → List Token → Form Line
rule_form c ts = then (or (remote_form ts) (local_form ts)) (λ a. formed (rule c a))

-- behind `if X` and a comparison: Y, `:` and a rule
unfoldable pub compared_form : Expression → Comparison → List Token → Form Line
compared_form x c ts = then (expression ts) (λ y r. past colon r (rule_form (when x c y)))

-- "Before any of them may stand `if X < Y: `, with `<`, `==` or `!=`"
unfoldable pub tested_form : List Token → Form Line
tested_form ts = past ifWord ts (λ r. then (expression r) (λ x r. then (one_of comparison_in r) (compared_form x)))

-- the lines: `step`, `end`, `done`, `loop F`, and the rules
unfoldable pub any_form : List Token → Form Line
any_form ts =
    or (past stepWord ts (formed step))
    (or (past end_word ts (formed end))
    (or (past doneWord ts (formed done))
    (or (past loopWord ts (λ r. then (one_of letter_in r) (λ f. formed (loop f))))
    (or (tested_form ts) (rule_form always ts)))))

-- the form of a line, or none: "7 no such line"
unfoldable pub line_form : List Token → Option Line
line_form ts = whole (any_form ts)
