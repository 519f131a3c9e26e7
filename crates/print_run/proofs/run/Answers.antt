-- `print_run::run` meets its contract: the working arrays have enough places.
use Prim.Native.Nat.{ℕ}
use mathlib.Core.Path.{refl}
use mathlib.Core.List.{List}
use lib.IntN.{pos}
use lib.ListN.{replicate}
use native.Mathlib.Omega.{arith}
use Rattle.op_run.specs.Answer.{lengths}
use Rattle.print_run.proofs.Enough.{run-printed}
use Rattle.print_run.proofs.run.Goals as goal

pub returns : goal.returns
returns c =
    let a = c.args in
    let values = replicate 6600 (pos 0) in
    let marks : List ℕ = replicate 6600 0 in
    let n = lengths a.out.now values marks in
    let same = run-printed a.file.now a.text.now c.requires.0 n c.requires.1 (omega arith) (omega arith) in
    record {
      answer = c.run_messages-answer.result;
      values = values;
      marks = marks;
      values' = c.run_messages-answer.new.values;
      marks' = c.run_messages-answer.new.marks;
      answered = rw (← same) c.run_messages-answer.ensures;
      numbers = refl;
    }
