-- What each machine counts: the direct machine makes no exchange and sends no message.
use Rattle.std.specs.Prelude.{List, ℕ}
use Rattle.register.specs.declared.Sizes.{Sizes}
use Rattle.register.specs.declared.cells.Cell.{Cell}
use Rattle.program.specs.Program.{Step}
use Rattle.machine_messages.specs.Counts.{trace_exchanges, trace_messages}
use Rattle.machine_messages.specs.declared.Machine.{Machine}
use Rattle.machine_messages.specs.declared.Machine.TheVariants.{Direct, Messages}

unfoldable pub exchanges_by : Machine → List (Step × List Cell) → ℕ
exchanges_by Direct trace = 0
exchanges_by Messages trace = trace_exchanges trace

unfoldable pub messages_by : Machine → Sizes → List (Step × List Cell) → ℕ
messages_by Direct s trace = 0
messages_by Messages s trace = trace_messages s trace
