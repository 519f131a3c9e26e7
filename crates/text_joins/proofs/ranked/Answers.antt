-- `text_joins::ranked` meets its contract.
use mathlib.Core.Path.{◌≡◌, ◌∙◌}
use borrow.Author.Tests.{not-true, not-false}
use Rattle.std.specs.Prelude.{None}
use Rattle.std.proofs.Common.{rules}
use Rattle.text_joins.specs.Join.{rank_of}
use Rattle.text_joins.proofs.Ranks.{ranked_none, ranked_other, rank_is}
use Rattle.text_joins.proofs.ranked.Goals as goal

pub returns-in_err-sign : goal.returns-in_err-sign
returns-in_err-sign c =
    let none : c.from_residual.result ≡ None = search rules in
    rw none (ranked_none (rank_of c.args.sums) c.in_err-sign.ensures)

pub returns-then-is_sum-sums : goal.returns-then-is_sum-sums
returns-then-is_sum-sums c =
    ranked_other (rank_of c.args.sums) c.in_ok-sign.ensures
    (rank_is c.args.sums _ c.in_ok-sign.sign c.is_sum.ensures ∙ not-true _ c.if-is_sum-sums.true)

pub returns : goal.returns
returns c = record {
  passing = c.in_ok-sign.ensures;
  of_rank = rank_is c.args.sums _ c.in_ok-sign.sign c.is_sum.ensures ∙ not-false _ c.if-is_sum-sums.false;
}
