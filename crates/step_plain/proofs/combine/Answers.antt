-- `step_plain::combine` meets its contract: an operation with a missing side is missing.
use mathlib.Core.Path.{◌≡◌, sym, ◌∙◌}
use mathlib.Core.Bool.{true}
use Rattle.program.specs.Stored.{target_in, expression_in}
use Rattle.step_tests.specs.Plain.{is_plain}
use Rattle.step_tests.proofs.Plainly.{term_plain}
use Rattle.step_effects.proofs.Answering.{nothing_done}
use Rattle.step_plain.proofs.Doing.{sum_first, sum_second, sum_written}
use borrow.Author.Rules.{rules}
use Rattle.step_plain.proofs.combine.Goals as goal

pub returns-in_default : goal.returns-in_default
unfolding target_in expression_in
returns-in_default c =
    let is = term_plain c.args.cells.now.sizes c.args.values.now c.args.marks.now c.args.u in
    let a : is_plain c.args.x ≡ true = is c.args.at.first c.args.x c.requires.1.0 in
    let b : is_plain c.args.y ≡ true = is c.args.at.second c.args.y c.requires.1.1 in (
      nothing_done _,
      λ codes read agrees. sum_first _ _ _ _ _ _ a b (sym (c.term_value.ensures codes read agrees.0) ∙ c.in_default.is),
    )

pub returns-in_default-term_value : goal.returns-in_default-term_value
unfolding target_in expression_in
returns-in_default-term_value c =
    let is = term_plain c.args.cells.now.sizes c.args.values.now c.args.marks.now c.args.u in
    let a : is_plain c.args.x ≡ true = is c.args.at.first c.args.x c.requires.1.0 in
    let b : is_plain c.args.y ≡ true = is c.args.at.second c.args.y c.requires.1.1 in (
      nothing_done _,
      λ codes read agrees. sum_second _ _ _ _ _ _ a b (sym (c.term_value-2.ensures codes read agrees.1) ∙ c.in_default-term_value.is),
    )

pub returns : goal.returns
unfolding target_in expression_in
returns c =
    let is = term_plain c.args.cells.now.sizes c.args.values.now c.args.marks.now c.args.u in
    let a : is_plain c.args.x ≡ true = is c.args.at.first c.args.x c.requires.1.0 in
    let b : is_plain c.args.y ≡ true = is c.args.at.second c.args.y c.requires.1.1 in (
      record { value = _; is = c.write_sum.ensures },
      λ codes read agrees.
          let p = sym (c.term_value.ensures codes read agrees.0) ∙ c.in-Some.is in
          let q = sym (c.term_value-2.ensures codes read agrees.1) ∙ c.in-Some-term_value.is in
          c.write_sum.ensures ∙ sum_written _ _ _ _ _ _ a b p q (search rules) (search rules) c.operate.ensures,
    )
