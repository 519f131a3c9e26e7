-- `chain_text::text::closes_at` meets its contract. The loop's invariant: each of the first i bytes is `]`.
use Prim.Native.Nat.{ℕ, ◌+◌}
use mathlib.Core.Path.{ap, ◌≡◌, refl, sym, ◌∙◌}
use mathlib.Core.Bool.{true}
use native.Mathlib.Omega.{arith}
use lib.ListN.{drop}
use Rattle.chain_text.specs.Scan.{starts_with, closes}
use Rattle.chain_text.proofs.Scanning.{starts-inside, closes-next, closes_fails}
use Rattle.chain_text.proofs.text.closes_at.Goals as goal

pub loop-i-init : goal.loop-i-init
unfolding closes
loop-i-init c = (omega arith, omega (arith, c.requires), refl)

pub overflow_add-at : goal.overflow_add-at
overflow_add-at c = record { fits = omega (arith, c.loop-i.invariant.1) }

pub returns-then-not-starts_with : goal.returns-then-not-starts_with
returns-then-not-starts_with c =
    let a = c.args in
    sym (closes_fails a.text.now a.at a.n c.loop-i.i (omega arith) (sym c.starts_with.ensures ∙ c.if-not-starts_with.true))

pub loop-i-preserved : goal.loop-i-preserved
loop-i-preserved c =
    let a = c.args in
    let i = c.loop-i.i in
    let here : starts_with 93 (drop (a.at + i) a.text.now) ≡ true = sym c.starts_with.ensures ∙ c.if-not-starts_with.false in
    (omega arith, omega (arith, starts-inside a.text.now (a.at + i) 93 here), closes-next a.text.now a.at i c.loop-i.invariant.2 here)

pub returns : goal.returns
returns c =
    let a = c.args in
    let e : c.loop-i.i ≡ a.n = omega arith in
    sym c.loop-i.invariant.2 ∙ ap (λ (k : ℕ). closes k (drop a.at a.text.now)) e
