-- `step_operations::operation::join_by` meets its contract.
use mathlib.Core.Path.{◌≡◌, ◌∙◌}
use borrow.Author.Rules.{rules}
use Rattle.std.specs.Prelude.{Ok, Some}
use Rattle.step_operations.specs.Evaluated.{answer_of}
use Rattle.step_operations.proofs.Operating.{summed, read_back, in_range-answer, numbers_joined}
use Rattle.step_operations.proofs.operation.join_by.Goals as goal

pub returns : goal.returns
returns c op is =
    let a : answer_of c.args.x ≡ Ok (Some c.in-Some.a) = in_range-answer _ (summed c.ranges.x c.in_range.ensures c.in-Some.is) in
    let b : answer_of c.args.y ≡ Ok (Some c.in-Some-in_range-2.b) = in_range-answer _ (summed c.ranges.y c.in_range-2.ensures c.in-Some-in_range-2.is) in
    read_back _ c.operate_by.type_inv ∙ numbers_joined op _ a b (search rules) (search rules) (c.operate_by.ensures op is)
