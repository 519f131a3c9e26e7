-- `step_plain::local_write` meets its contract.
use mathlib.Core.Path.{sym, ◌∙◌}
use Rattle.program.specs.Program.{is_remote}
use Rattle.program.specs.Stored.{target_in, expression_in}
use Rattle.step_tests.proofs.Plainly.{test_plain, rule-plain}
use Rattle.step_effects.proofs.Answering.{nothing_done}
use Rattle.step_plain.proofs.Doing.{write_plain, write_unheld, write_held, plain-stored, set-plain}
use Rattle.step_plain.proofs.local_write.Goals as goal

pub returns-then-is_remote : goal.returns-then-is_remote
returns-then-is_remote c =
    let test = test_plain c.args.cells.now.sizes c.args.values.now c.args.marks.now c.args.u c.args.located.at.test c.args.located.slot.test c.requires.1.test in
    let rule = rule-plain c.args.cells.now.sizes c.args.values.now c.args.marks.now c.args.u c.args.located.at.rule c.args.located.slot.rule c.requires.1.rule in
    (nothing_done _, λ codes read agrees. write_plain _ _ _ (sym c.is_remote.ensures ∙ c.if-is_remote.true) rule test)

pub returns-then-not-holds : goal.returns-then-not-holds
returns-then-not-holds c =
    let test = test_plain c.args.cells.now.sizes c.args.values.now c.args.marks.now c.args.u c.args.located.at.test c.args.located.slot.test c.requires.1.test in
    (nothing_done _, λ codes read agrees. write_unheld _ _ _ (c.holds.ensures codes read agrees.0) test c.if-not-holds.true)

pub term_value-requires : goal.term_value-requires
term_value-requires c = (c.requires.0, rw c.in-Set.is at c.requires.1.rule)

pub combine-requires : goal.combine-requires
combine-requires c = (c.requires.0, rw c.in-Combine.is at c.requires.1.rule)

pub returns-in-Set : goal.returns-in-Set
unfolding target_in expression_in
returns-in-Set c =
    let test = test_plain c.args.cells.now.sizes c.args.values.now c.args.marks.now c.args.u c.args.located.at.test c.args.located.slot.test c.requires.1.test in
    let rule = rule-plain c.args.cells.now.sizes c.args.values.now c.args.marks.now c.args.u c.args.located.at.rule c.args.located.slot.rule c.requires.1.rule in
    let is = c.in-Set.is in (
      rw is (record { value = _; is = c.write_reading.ensures }),
      λ codes read agrees.
          rw (c.write_reading.ensures, c.term_value.ensures codes read (rw is at agrees.1))
          (plain-stored _ _ _ _ (set-plain _ _ _ is rule) ∙ write_held _ _ _ (c.holds.ensures codes read agrees.0) test c.if-not-holds.false is),
    )

pub returns-in-Combine : goal.returns-in-Combine
returns-in-Combine c =
    let test = test_plain c.args.cells.now.sizes c.args.values.now c.args.marks.now c.args.u c.args.located.at.test c.args.located.slot.test c.requires.1.test in
    let is = c.in-Combine.is in (
      rw is c.combine.ensures.0,
      λ codes read agrees.
          c.combine.ensures.1 codes read (rw is at agrees.1) ∙ write_held _ _ _ (c.holds.ensures codes read agrees.0) test c.if-not-holds.false is,
    )

pub returns-in-Remote : goal.returns-in-Remote
unfolding is_remote target_in
returns-in-Remote c =
    let test = test_plain c.args.cells.now.sizes c.args.values.now c.args.marks.now c.args.u c.args.located.at.test c.args.located.slot.test c.requires.1.test in
    let rule = rule-plain c.args.cells.now.sizes c.args.values.now c.args.marks.now c.args.u c.args.located.at.rule c.args.located.slot.rule c.requires.1.rule in
    (nothing_done _, λ codes read agrees. write_plain _ _ _ (rw c.in-Remote.is) rule test)
