-- `register_check::check_record` meets its contract. The loops' invariants: no field passed is refused.
use native.Mathlib.Omega.{arith}
use borrow.Author.Tests.{lt-ltb, le-ltb}
use Rattle.laws.proofs.First.{first-none, first-end}
use Rattle.register.specs.File.{width}
use Rattle.register.specs.Load.{record_refusal}
use Rattle.register_check.specs.Number.{check_number}
use Rattle.register_check.proofs.Numbers.{goes_on_lem, stops}
use Rattle.std.proofs.lemmas.Result.{err_from_is_err_and}
use Rattle.register_check.proofs.check_record.Goals as goal

pub loop-f-init : goal.loop-f-init
loop-f-init c = first-none _

pub check_at-requires : goal.check_at-requires
unfolding width
check_at-requires c = (c.requires, omega arith, lt-ltb _ _ c.loop-f-test.true)

pub returns-in_err-check_at : goal.returns-in_err-check_at
unfolding record_refusal width
returns-in_err-check_at c =
    let p = err_from_is_err_and c.from_residual.result c.from_residual.ensures.1 in
    rw (p.1, p.2) (stops _ _ c.loop-f.invariant _ (omega arith) _ c.in_err-check_at.ensures)

pub loop-f-preserved : goal.loop-f-preserved
loop-f-preserved c = goes_on_lem _ _ c.loop-f.invariant _ c.in_ok-check_at.ensures

pub check_at-requires-in-loop-f-2 : goal.check_at-requires-in-loop-f-2
unfolding width
check_at-requires-in-loop-f-2 c = (c.requires, omega arith, le-ltb _ _ c.loop-f-2.auto.f)

pub returns-in_err-check_at-2 : goal.returns-in_err-check_at-2
unfolding record_refusal width
returns-in_err-check_at-2 c =
    let p = err_from_is_err_and c.from_residual-in_err-check_at-2.result c.from_residual-in_err-check_at-2.ensures.1 in
    rw (p.1, p.2) (stops _ _ c.loop-f-2.invariant _ (omega arith) _ c.in_err-check_at-2.ensures)

pub loop-f-2-preserved : goal.loop-f-2-preserved
loop-f-2-preserved c = goes_on_lem _ _ c.loop-f-2.invariant _ c.in_ok-check_at-2.ensures

pub returns : goal.returns
unfolding record_refusal width check_number
returns c = first-end _ _ _ c.loop-f-2.invariant (omega arith)
