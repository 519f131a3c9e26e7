-- Exchanges and messages summed over a trace, part by part, and one more finished step at its end.
use Prim.Native.Nat.{◌+◌}
use mathlib.Core.Path.{◌≡◌}
use mathlib.Core.List.{List, [], ◌∷◌, ◌++◌}
use native.Mathlib.Omega.{arith}
use Rattle.register.specs.declared.Sizes.{Sizes}
use Rattle.register.specs.declared.cells.Cell.{Cell}
use Rattle.program.specs.Program.{Step}
use Rattle.machine_messages.specs.Counts.{step_exchanges, step_messages, trace_exchanges, trace_messages}

pub exchanges_append : (t t' : List (Step × List Cell)) → trace_exchanges (t ++ t') ≡ trace_exchanges t + trace_exchanges t'
unfolding trace_exchanges
exchanges_append [] t' = omega arith
exchanges_append ((x, cells) ∷ t) t' = omega (arith, exchanges_append t t')

pub exchanges_more : (t : List (Step × List Cell)) (x : Step) (cells : List Cell) → trace_exchanges (t ++ ((x, cells) ∷ [])) ≡ trace_exchanges t + step_exchanges x.rules
unfolding trace_exchanges
exchanges_more t x cells = omega (arith, exchanges_append t ((x, cells) ∷ []))

pub messages-append : (s : Sizes) (t t' : List (Step × List Cell)) → trace_messages s (t ++ t') ≡ trace_messages s t + trace_messages s t'
unfolding trace_messages
messages-append s [] t' = omega arith
messages-append s ((x, cells) ∷ t) t' = omega (arith, messages-append s t t')

pub messages-more : (s : Sizes) (t : List (Step × List Cell)) (x : Step) (cells : List Cell)
    → trace_messages s (t ++ ((x, cells) ∷ [])) ≡ trace_messages s t + step_messages s x.rules cells
unfolding trace_messages
messages-more s t x cells = omega (arith, messages-append s t ((x, cells) ∷ []))
