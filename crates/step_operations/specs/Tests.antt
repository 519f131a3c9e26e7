-- What a test comes to at one record: whether it holds, or out of range where one of its sums is.
use Rattle.std.specs.Prelude.{ℕ, Bool, cond, List, Result, Ok, Err}
use Rattle.chain.specs.Reading.{Reading}
use Rattle.program.specs.declared.rule.Comparison.{Comparison}
use Rattle.program.specs.Program.{Test}
use Rattle.machine.specs.Value.{compare_readings, holds}
use Rattle.machine.specs.Local.{test_overflows}
use Rattle.step_operations.specs.declared.operation.OutOfRange.{OutOfRange}
use Rattle.step_operations.specs.Evaluated.{Evaluated, out_of_range}

-- an answer: whether the test holds, or out of range
abbrev pub Tested : Type 0
Tested = Result Bool OutOfRange

-- the answer for a test: that a sum of it leaves the range, or whether it holds
unfoldable pub tested : (List ℕ → Reading) → Test → Tested
tested read t = cond (test_overflows read t) (Err out_of_range) (Ok (holds read t))

-- two answers compared: an unfilled one never holds
unfoldable pub compared : Comparison → Evaluated → Evaluated → Tested
compared c (Err e) y = Err e
compared c (Ok x) (Err e) = Err e
compared c (Ok x) (Ok y) = Ok (compare_readings c x y)
