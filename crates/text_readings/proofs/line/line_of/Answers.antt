-- `text_readings::line::line_of` meets its contract.
use mathlib.Core.Path.{refl, sym, ap, ◌∙◌}
use Rattle.std.proofs.Common.{rules}
use Rattle.plan_lines.specs.Held.{facts, place}
use Rattle.plan_lines.proofs.Adding.{extended-holds}
use Rattle.text_readings.proofs.Plans.{line_found, line-last, some_is}
use Rattle.text_readings.proofs.line.line_of.Goals as goal

pub returns-then-before-plan : goal.returns-then-before-plan
returns-then-before-plan c =
    let e = c.in_ok-add.ensures.0 in
    record { extended = e; line_is = sym (line-last c.args.plan.now _ _ c.requires.1 (extended-holds e refl) c.requires.0 c.if-before-plan.true) }

pub unwrap-requires : goal.unwrap-requires
unwrap-requires c =
    let held = extended-holds c.in_ok-add.ensures.0 refl in
    let found = c.find.ensures ∙ ap (place (facts c.add.new.plan)) c.read.ensures ∙ line_found c.args.plan.now _ _ c.requires.1 held in
    search rules

pub returns : goal.returns
returns c =
    let e = c.in_ok-add.ensures.0 in
    let found = c.find.ensures ∙ ap (place (facts c.add.new.plan)) c.read.ensures ∙ line_found c.args.plan.now _ _ c.requires.1 (extended-holds e refl) in
    record { extended = e; line_is = some_is (sym c.unwrap.ensures ∙ found) }
