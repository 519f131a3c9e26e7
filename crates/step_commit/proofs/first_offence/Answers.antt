-- `step_commit::first_offence` meets its contract. The loop's invariant: no column of the records passed is out of range.
use Rattle.std.specs.Prelude.{Err}
use mathlib.Core.Path.{◌≡◌, sym}
use native.Mathlib.Omega.{arith}
use borrow.Author.Rules.{rules}
use borrow.Author.Count.{below_none, below_more}
use Rattle.machine.proofs.Stops.{in_record-none, total-at, total-none}
use Rattle.step_commit.proofs.first_offence.Goals as goal

pub loop-row-init : goal.loop-row-init
loop-row-init c = (below_none _, omega arith)

pub record_offence-requires : goal.record_offence-requires
record_offence-requires c = (c.requires.0, c.requires.1, c.requires.2, c.loop-row-test.true)

pub overflow_step-row : goal.overflow_step-row
overflow_step-row c = omega (arith, c.loop-row-test.true, c.requires.0.records≤)

pub loop-row-smaller : goal.loop-row-smaller
loop-row-smaller c = omega (arith, c.loop-row-test.true)

pub returns : goal.returns
returns c =
    sym (total-none c.args.sizes _ (λ u row. c.loop-row.invariant.0 u (omega (arith, c.loop-row-test.false, row))))

pub returns-in_err-record_offence : goal.returns-in_err-record_offence
returns-in_err-record_offence c =
    let stop : c.from_residual.result ≡ Err c.in_err-record_offence.field-0.0 = search rules in
    rw stop (sym (total-at c.args.sizes _ c.loop-row.row c.loop-row-test.true c.loop-row.invariant.0 (sym c.in_err-record_offence.ensures)))

pub loop-row-preserved : goal.loop-row-preserved
loop-row-preserved c =
    (below_more _ c.loop-row.row c.loop-row.invariant.0 (in_record-none c.loop-row.row _ (sym c.in_ok-record_offence.ensures)), omega (arith, c.loop-row-test.true))
