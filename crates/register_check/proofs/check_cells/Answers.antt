-- `register_check::check_cells` meets its contract. The loop's invariant: no record passed is refused.
use native.Mathlib.Omega.{arith}
use Rattle.register.specs.Load.{cells_refusal}
use Rattle.register_check.specs.Number.{check_number}
use Rattle.laws.proofs.First.{first-none, first-end}
use Rattle.register_check.proofs.Numbers.{goes_on_lem, stops}
use Rattle.std.proofs.lemmas.Result.{err_from_is_err_and}
use Rattle.register_check.proofs.check_cells.Goals as goal

pub loop-u-init : goal.loop-u-init
loop-u-init c = first-none _

pub returns-in_err-check_record : goal.returns-in_err-check_record
unfolding cells_refusal
returns-in_err-check_record c =
    let p = err_from_is_err_and c.from_residual.result c.from_residual.ensures.1 in
    rw (p.1, p.2) (stops _ _ c.loop-u.invariant _ c.loop-u-test.true _ c.in_err-check_record.ensures)

pub loop-u-preserved : goal.loop-u-preserved
loop-u-preserved c = goes_on_lem _ _ c.loop-u.invariant _ c.in_ok-check_record.ensures

pub returns : goal.returns
unfolding cells_refusal check_number
returns c = first-end _ _ _ c.loop-u.invariant (omega arith)
