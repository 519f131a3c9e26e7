-- A line of a rules text as it is written: its form alone, with letters, digits and groups as they stand.
use Rattle.std.specs.Prelude.{ℕ, Bool, List}
use Rattle.program.specs.declared.rule.Comparison.{Comparison}
use Rattle.program.specs.declared.rule.Sort.{Sort}
use Rattle.text_numerals.specs.Numeral.{Numeral}
use Rattle.program.specs.declared.rule.Operator.{Operator}

-- "A term X or Y is a chain or a number": a chain by its letters from the outside in, a number by its minus and numeral
pub data Term : Type 0 where
  chain : List ℕ → Term
  number : Bool → Numeral → Term

-- "An expression holds terms or groups joined by operators, and a bracketed group holds an expression"
pub data Expression : Type 0 where
  term : Term → Expression
  group : Expression → Expression
  operation : Operator → Expression → Expression → Expression

-- "Before any of them may stand `if X < Y: `"
pub data Condition : Type 0 where
  always : Condition
  when : Expression → Comparison → Expression → Condition

-- `F[u] := X`; `remote F[C] <?= X`, `remote F[C] += X`: F by its letter, C by its letters
pub data Action : Type 0 where
  set : ℕ → Expression → Action
  remote : Sort → ℕ → List ℕ → Expression → Action

-- `step`, `end`, `loop F`, `done`, and the rules
pub data Line : Type 0 where
  step end done : Line
  loop : ℕ → Line
  rule : Condition → Action → Line
