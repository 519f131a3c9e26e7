-- `text_lines::line::read_ruled` meets its contract.
use mathlib.Core.Path.{subst}
use Rattle.text_actions.specs.Action.{ActionAt}
use Rattle.text_lines.proofs.Lines.{not-ruled, ruled}
use Rattle.text_lines.proofs.line.read_ruled.Goals as goal

pub returns-in_default : goal.returns-in_default
returns-in_default c =
    not-ruled c.args.sizes c.args.line.now c.args.at c.args.test c.args.codes.now c.read.new.codes c.args.count
    (subst (ActionAt _ _ _ _ _ _ _) c.in_default.is c.read.ensures)

pub returns : goal.returns
returns c = ruled _ _ _ _ _ _ _ _ _ c.and.ensures (subst (ActionAt _ _ _ _ _ _ _) c.in-Some.is c.read.ensures)
