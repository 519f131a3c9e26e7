-- The tokens of each form as documents 01 and 02 show it, and which forms are written so.
use Rattle.std.specs.Prelude.{ℕ, ◌≤◌, ◌<◌, List, [], ◌∷◌, ◌++◌}
use Rattle.text_syntax.specs.Token as T
use Rattle.program.specs.declared.rule.Operator.{Operator}
use Rattle.program.specs.declared.rule.Operator.TheVariants.{Plus, Minus, Smaller}
use Rattle.text_syntax.specs.Token.{Token, stepWord, end_word, doneWord, loopWord, ifWord, remoteWord, own, letter, becomes, colon, write, operator, comparison, openSquare, closeSquare, openRound, closeRound}
use Rattle.text_syntax.specs.Written.{Term, chain, number, Expression, term, group, operation, Condition, always, when, Action, set, remote, Line, step, end, done, loop, rule}

-- `u`, "or a field letter and a chain in square brackets"
unfoldable pub printed_chain : List ℕ → List Token
printed_chain [] = own ∷ []
printed_chain (l ∷ ls) = letter l ∷ openSquare ∷ (printed_chain ls ++ (closeSquare ∷ []))

unfoldable pub printed_term : Term → List Token
printed_term (chain ls) = printed_chain ls
printed_term (number negative x) = T.number negative x ∷ []

-- "terms or groups joined by operators, and a bracketed group holds an expression"
unfoldable pub printed_expression : Expression → List Token
printed_expression (term x) = printed_term x
printed_expression (group e) = openRound ∷ (printed_expression e ++ (closeRound ∷ []))
printed_expression (operation o x y) = printed_expression x ++ (operator o ∷ printed_expression y)

-- `F[u] := X`, `remote F[C] <?= X`, `remote F[C] += X`
unfoldable pub printed_action : Action → List Token
printed_action (set f e) = letter f ∷ openSquare ∷ own ∷ closeSquare ∷ becomes ∷ printed_expression e
printed_action (remote k f c e) = remoteWord ∷ (printed_chain (f ∷ c) ++ (write k ∷ printed_expression e))

-- the table of lines; "Before any of them may stand `if X < Y: `, with `<`, `==` or `!=`"
unfoldable pub printed_line : Line → List Token
printed_line step = stepWord ∷ []
printed_line end = end_word ∷ []
printed_line done = doneWord ∷ []
printed_line (loop f) = loopWord ∷ letter f ∷ []
printed_line (rule always a) = printed_action a
printed_line (rule (when x c y) a) = ifWord ∷ (printed_expression x ++ (comparison c ∷ (printed_expression y ++ (colon ∷ printed_action a))))

-- how tight an operator binds: "`<?` binds tighter than `+` and `-`"; how tight an expression is bound that has no brackets around it
unfoldable pub tightness : Operator → ℕ
tightness Plus = 0
tightness Minus = 0
tightness Smaller = 1

unfoldable pub bound : Expression → ℕ
bound (term x) = 2
bound (group e) = 2
bound (operation o x y) = tightness o

-- "equal ranks go from left to right": the left operand is bound as tight as the operator binds, or tighter, the right one tighter
abbrev pub ProperExpression : Expression → Type 0
ProperExpression (term x) = Unit {0}
ProperExpression (group e) = ProperExpression e
ProperExpression (operation o x y) = (tightness o ≤ bound x) × (tightness o < bound y) × ProperExpression x × ProperExpression y

abbrev pub ProperAction : Action → Type 0
ProperAction (set f e) = ProperExpression e
ProperAction (remote k f c e) = ProperExpression e

abbrev pub ProperCondition : Condition → Type 0
ProperCondition always = Unit {0}
ProperCondition (when x c y) = ProperExpression x × ProperExpression y

-- a line whose expressions are grouped as they are written; that letters are capitals and numbers written as they may be, its tokens say
abbrev pub Proper : Line → Type 0
Proper step = Unit {0}
Proper end = Unit {0}
Proper done = Unit {0}
Proper (loop f) = Unit {0}
Proper (rule c a) = ProperCondition c × ProperAction a
