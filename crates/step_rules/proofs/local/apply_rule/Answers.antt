-- `step_rules::local::apply_rule` meets its contract: what the rule writes is performed.
use mathlib.Core.Path.{sym, subst}
use mathlib.Core.List.{List}
use lib.ListN.{take}
use Rattle.register.specs.declared.cells.Cell.{Cell}
use Rattle.program.specs.Stored.{rule_in}
use Rattle.program.specs.Terms.{SlotPlaced}
use Rattle.step_terms.specs.Found.{Agrees}
use Rattle.step_rules.proofs.Locals.{writes-field}
use Rattle.step_rules.proofs.Remotes.{cells_as}
use Rattle.step_rules.proofs.local.apply_rule.Goals as goal

pub local_write-write-requires : goal.local_write-write-requires
local_write-write-requires c =
    rw c.of-cells.ensures.0 (c.requires.limits.2, c.requires.rule_ready.reaches _ c.requires.limits.2)

pub perform-requires : goal.perform-requires
perform-requires c = (
  c.requires.limits.0,
  c.requires.limits.2,
  writes-field _ _ c.requires.rule_ready.field c.local_write-write.result c.local_write-write.ensures.0,
  c.requires.limits.3,
)

pub returns : goal.returns
unfolding rule_in
returns c read agrees =
    let a = c.args in
    let cells_are = cells_as a.sizes a.out.now c.of-cells.result c.of-cells.ensures.1 c.of-cells.ensures.2 in
    let there = subst (λ (cs : List Cell). SlotPlaced (Agrees a.sizes cs (take a.base a.values.now) (take a.base a.marks.now) a.u read) c.args.codes.now a.rule)
    (sym cells_are) agrees in
    let there' = rw (← c.of-cells.ensures.0) at there in
    c.perform.ensures read _ (sym (c.local_write-write.ensures.1 read there')) c.requires.rule_ready.field
