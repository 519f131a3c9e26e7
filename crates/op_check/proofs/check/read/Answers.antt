-- `op_check::check::read` meets its contract: why the text is not read, or what its reader answers.
use mathlib.Core.Path.{sym, ◌∙◌}
use Rattle.std.proofs.lemmas.Result.{err_from_is_err_and}
use Rattle.text_reader.specs.Answers as T
use Rattle.op_limits.specs.Number.{refusal_number, outcome_of}
use Rattle.op_check.specs.Checked.{check_outcome}
use Rattle.op_check.proofs.Checks.{check_unread, check-read, read-limits}
use Rattle.op_check.proofs.check.read.Goals as goal

pub returns-in_err-sizes : goal.returns-in_err-sizes
unfolding check_outcome outcome_of
returns-in_err-sizes c =
    let p = err_from_is_err_and c.from_residual.result c.from_residual.ensures.1 in
    rw (p.1, p.2) (record { outcome_is = sym (check_unread _ _ (sym c.in_err-sizes.ensures)); complete = tt })

pub read_lines-requires : goal.read_lines-requires
unfolding outcome_of
read_lines-requires c = let p = read-limits _ _ (sym c.in_ok-sizes.ensures) in (p.0, p.1, c.requires)

pub returns-in_err-program : goal.returns-in_err-program
unfolding check_outcome T.check_outcome outcome_of refusal_number
returns-in_err-program c =
    let p = err_from_is_err_and c.from_residual-in_err-program.result c.from_residual-in_err-program.ensures.1 in
    rw (p.1, p.2) (record { outcome_is = c.in_err-program.ensures.outcome_is ∙ sym (check-read _ _ (sym c.in_ok-sizes.ensures)); complete = tt })

pub returns : goal.returns
unfolding check_outcome T.check_outcome outcome_of
returns c = record {
  outcome_is = c.in_ok-program.ensures.outcome_is ∙ sym (check-read _ _ (sym c.in_ok-sizes.ensures));
  complete = c.in_ok-program.ensures.complete;
}
