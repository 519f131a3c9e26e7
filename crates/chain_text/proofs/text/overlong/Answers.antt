-- `chain_text::text::overlong` meets its contract: the tests at the parts of a chain of any length decide its form.
use Prim.Native.Nat.{◌-◌, ◌/◌}
use mathlib.Core.Path.{sym}
use native.Mathlib.Omega.{arith}
use Rattle.chain_text.proofs.Scanning.{starts-inside, long_no_u, long_no_close, long_chain}
use Rattle.chain_text.proofs.text.overlong.Goals as goal

pub returns-then-not-starts_with : goal.returns-then-not-starts_with
returns-then-not-starts_with c =
    let o = c.open_letters-end in
    long_no_u _ _ c.args.text.now _ o.result.1 ((o.result.1 - c.args.at) / 2) (omega (arith, o.ensures.at_is)) o.ensures.at_is c.if-not-starts_with.ensures

pub overflow_add-end : goal.overflow_add-end
overflow_add-end c = record { fits = omega (arith, starts-inside c.args.text.now c.open_letters-end.result.1 117 (sym c.if-not-starts_with.ensures)) }

pub closes_at-requires : goal.closes_at-requires
closes_at-requires c = omega (arith, starts-inside c.args.text.now c.open_letters-end.result.1 117 (sym c.if-not-starts_with.ensures))

pub returns-then-not-closes_at : goal.returns-then-not-closes_at
returns-then-not-closes_at c =
    let o = c.open_letters-end in
    long_no_close _ _ c.args.text.now _ o.result.1 ((o.result.1 - c.args.at) / 2) (omega (arith, o.ensures.at_is)) o.ensures.at_is c.if-not-closes_at.ensures

pub overflow_add-result : goal.overflow_add-result
overflow_add-result c = record { fits = omega (arith, starts-inside c.args.text.now c.open_letters-end.result.1 117 (sym c.if-not-starts_with.ensures)) }

pub overflow_add-result-2 : goal.overflow_add-result-2
overflow_add-result-2 c =
    record { fits = omega (arith, starts-inside c.args.text.now c.open_letters-end.result.1 117 (sym c.if-not-starts_with.ensures), c.well_formed) }

pub returns : goal.returns
returns c =
    let o = c.open_letters-end in
    long_chain _ _ c.args.text.now _ o.result.1 ((o.result.1 - c.args.at) / 2) (omega (arith, o.ensures.at_is)) o.ensures.at_is o.result.0 o.ensures.letters_are c.if-not-starts_with.ensures c.if-not-closes_at.ensures
