-- `text_readings::Open::add_codes` meets its contract. The loop's invariant: the words of the codes passed are added and located.
use Prim.Native.Nat.{◌-◌, ◌≤◌}
use Rattle.program.specs.Code.{EachChain}
use Rattle.text_readings.specs.Readings.{code_words, WordPlaced, Walked}
use Rattle.text_readings.proofs.Open.add_codes.Given as goal

abbrev pub invariant-loop-at : goal.invariant-loop-at
invariant-loop-at l =
    Walked (code_words l.initial.codes l.from l.at) (λ n. n ≤ l.from) (λ x z. EachChain (WordPlaced x) z l.from l.at) l.initial.self l.initial.codes l.self l.codes
    × (l.at - l.from ≤ l.to - l.from)
