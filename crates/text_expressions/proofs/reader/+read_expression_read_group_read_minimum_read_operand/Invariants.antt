-- The remaining depth falls at groups; at one depth a reader stands before those that it calls. A loop joins elements.
use Prim.Native.Nat.{◌+◌, ◌-◌, ◌*◌}
use mathlib.Core.Bool.{true, false}
use lib.ListN.{length}
use Rattle.text_expressions.proofs.Joining.{Joined}
use Rattle.text_expressions.proofs.reader.+read_expression_read_group_read_minimum_read_operand.Given as goal

abbrev pub decreases-read_expression : goal.decreases-read_expression
decreases-read_expression l = 4 * l.room + 3

abbrev pub decreases-read_minimum : goal.decreases-read_minimum
decreases-read_minimum l = 4 * l.room + 2

abbrev pub decreases-read_operand : goal.decreases-read_operand
decreases-read_operand l = 4 * l.room + 1

abbrev pub decreases-read_group : goal.decreases-read_group
decreases-read_group l = 4 * l.room

abbrev pub invariant-read_expression-loop-more : goal.invariant-read_expression-loop-more
invariant-read_expression-loop-more l = Joined true l.sizes l.room l.fn.before l.line l.initial.codes l.next l.codes

abbrev pub decreases-read_expression-loop-more : goal.decreases-read_expression-loop-more
decreases-read_expression-loop-more l = length l.line - l.next.gathered.end

abbrev pub invariant-read_minimum-loop-more : goal.invariant-read_minimum-loop-more
invariant-read_minimum-loop-more l = Joined false l.sizes l.room l.fn.before l.line l.initial.codes l.next l.codes

abbrev pub decreases-read_minimum-loop-more : goal.decreases-read_minimum-loop-more
decreases-read_minimum-loop-more l = length l.line - l.next.gathered.end
