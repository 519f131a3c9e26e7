-- The numbers of refusals are not 0, which stands for none.
use mathlib.Core.Path.{◌≡◌}
use native.Mathlib.Omega.{arith}
use Rattle.register_check.proofs.Numbers.{number_positive}
use Rattle.text_refusals.proofs.Numbers as T
use Rattle.op_limits.specs.Number.{refusal_number}
use Rattle.op_limits.specs.declared.Refusal.{Refusal}
use Rattle.op_limits.specs.declared.Refusal.TheVariants.{Register, TextLength, Text, Step, Output, Scratch}

pub not_none : (r : Refusal) → refusal_number r ≡ 0 → ⊥
unfolding refusal_number
not_none (Register r) h = number_positive r h
not_none TextLength h = omega arith
not_none (Text r) h = T.not_none r h
not_none Step h = omega arith
not_none Output h = omega arith
not_none Scratch h = omega arith
