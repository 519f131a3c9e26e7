-- What an expression comes to at one record: unfilled, a value, or out of range where one of its sums is.
use Rattle.std.specs.Prelude.{ℕ, ◌≡◌, cond, List, ℤ, pos, Option, None, Some, Result, Ok, Err}
use Rattle.std.specs.Int.Signed.{lt_z}
use Rattle.integers.specs.Range.{sum_of}
use Rattle.chain.specs.Reading.{Reading}
use Rattle.program.specs.declared.rule.Operator.{Operator}
use Rattle.program.specs.Code.{kind_of}
use Rattle.program.specs.Program.{Expression}
use Rattle.machine.specs.Value.{both, operate, value, overflows}
use Rattle.step_operations.specs.declared.operation.OutOfRange.{OutOfRange}

-- a sum leaves the range
abbrev pub out_of_range : OutOfRange
out_of_range = record {}

-- an answer: unfilled or a value, or out of range
abbrev pub Evaluated : Type 0
Evaluated = Result Reading OutOfRange

unfoldable pub of_sum : Option ℤ → Evaluated
of_sum (Some z) = Ok (Some z)
of_sum None = Err out_of_range

-- the answer that a number of 64 bits stands for: that of a sum, or unfilled from 2 ^ 33 on, where no sum of two values reaches
unfoldable pub answer_of : ℤ → Evaluated
answer_of z = cond (lt_z z (pos 8589934592)) (of_sum (sum_of z)) (Ok None)

-- the answer for an expression: that a sum of it leaves the range, or its value
unfoldable pub evaluated : (List ℕ → Reading) → Expression → Evaluated
evaluated read e = cond (overflows read e) (Err out_of_range) (Ok (value read e))

-- an operation on two answers
unfoldable pub joined : Operator → Evaluated → Evaluated → Evaluated
joined op (Err e) y = Err e
joined op (Ok x) (Err e) = Err e
joined op (Ok x) (Ok y) = both (Ok None) (λ a b. of_sum (sum_of (operate op a b))) x y

-- the result of the operator that has a kind of code, on two values and on two answers
abbrev pub OperatesBy : ℕ → ℤ → ℤ → ℤ → Type 0
OperatesBy kind a b r = (op : Operator) → kind ≡ kind_of op → r ≡ operate op a b

abbrev pub JoinsBy : ℕ → Evaluated → Evaluated → Evaluated → Type 0
JoinsBy kind x y r = (op : Operator) → kind ≡ kind_of op → r ≡ joined op x y
