-- `plan_keys::key::has_line` meets its contract.
use mathlib.Core.Path.{sym, ◌∙◌}
use Rattle.plan_keys.proofs.Keys.{line_even, line_odd, kind_even, kind_odd}
use Rattle.plan_keys.proofs.key.has_line.Goals as goal

pub returns-in-Back : goal.returns-in-Back
returns-in-Back c = line_even _ (kind_even _ (sym c.kind_of.ensures ∙ c.in-Back.is))

pub returns-in-Read : goal.returns-in-Read
returns-in-Read c = line_odd _ (kind_odd _ (sym c.kind_of.ensures ∙ c.in-Read.is))
