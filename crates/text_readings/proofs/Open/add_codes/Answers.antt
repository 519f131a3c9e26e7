-- `text_readings::Open::add_codes` meets its contract. The loop's invariant: the words of the codes passed are added and located.
use Prim.Native.Nat.{ℕ, ◌-◌}
use mathlib.Core.Path.{◌≡◌, ap}
use native.Mathlib.Omega.{arith}
use Rattle.program.specs.Code.{code_readings, codes_from}
use Rattle.text_readings.proofs.Codes.{walked_none, walked_more, walked_as, words-none, words_same, short_chain}
use Rattle.text_readings.proofs.Open.add_codes.Goals as goal

pub loop-at-init : goal.loop-at-init
loop-at-init c = (rw (words-none _ _) (walked_none (λ i f t. absurd (omega arith))), omega arith)

pub add_code-requires : goal.add_code-requires
add_code-requires c =
    let a = c.args in
    let w = c.loop-at.invariant.0 in
    let short = rw (← words_same a.codes.now c.loop-at.codes w.same a.from a.to) at c.requires.0 in
    (short_chain c.loop-at.codes a.from a.to _ c.loop-at.auto.at c.loop-at-test.true short, omega (arith, w.sized, c.loop-at-test.true, c.requires.1))

pub loop-at-preserved : goal.loop-at-preserved
loop-at-preserved c = (walked_more _ _ c.loop-at.auto.at c.loop-at.invariant.0 c.add_code.ensures, omega (arith, c.loop-at.auto.at, c.loop-at-test.true))

pub returns : goal.returns
returns c =
    let a = c.args in
    let end : c.loop-at.at - a.from ≡ a.to - a.from = omega (arith, c.loop-at.invariant.1, c.loop-at-test.false) in
    walked_as (ap (λ (n : ℕ). code_readings (codes_from a.codes.now a.from n)) end) (λ n f. f) (λ p i f t. p i f (omega (arith, c.loop-at-test.false))) c.loop-at.invariant.0
