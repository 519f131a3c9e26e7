-- `text_plan::plan_rule` meets its contract.
use lib.ListN.{length}
use Rattle.laws.proofs.Lists.{each_back}
use Rattle.text_plan.specs.Walked.{test_words, rule_words}
use Rattle.text_plan.proofs.Words.{rule-words-same}
use Rattle.text_plan.proofs.Placing.{walked_slot}
use Rattle.text_plan.proofs.plan_rule.Goals as goal

pub walk_rule-requires : goal.walk_rule-requires
walk_rule-requires c =
    let k = c.args.codes.now in
    let x = c.args.slot in
    let w = c.walk_test.ensures in (
      rw (rule-words-same k _ w.same x.rule) (each_back _ (test_words k x.test) (rule_words k x.rule) c.requires.0),
      rw w.sized c.requires.1.1,
    )

pub returns : goal.returns
returns c = walked_slot (length c.args.codes.now) c.args.slot _ c.requires.1.0 c.walk_test.ensures c.walk_rule.ensures
