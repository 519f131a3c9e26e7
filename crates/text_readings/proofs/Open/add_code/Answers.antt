-- `text_readings::Open::add_code` meets its contract.
use mathlib.Core.Path.{sym, ◌∙◌}
use Rattle.text_readings.proofs.Codes.{walked_code, walked_other}
use Rattle.text_readings.proofs.Open.add_code.Goals as goal

pub returns-then-kind-ne0 : goal.returns-then-kind-ne0
returns-then-kind-ne0 c = walked_other c.args.codes.now c.args.at (λ e. c.if-kind-ne0.true (c.kind.ensures ∙ e))

pub returns : goal.returns
returns c =
    rw c.with_location.ensures
    (walked_code c.args.codes.now c.args.at c.requires.1 (sym c.kind.ensures ∙ c.if-kind-ne0.false) (rw c.chain.ensures at c.add_chain-found.ensures))
