-- Every reading of a text that passes has, in the plan of its step, the least number of rounds of all its derivations.
use Rattle.machine_messages.proofs.Least.{step_least}
use Rattle.op_check.specs.Least.{TextLeast}

pub text_least : TextLeast
text_least file text p e x i = step_least x
