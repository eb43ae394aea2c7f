use Rattle.plan_rewriting.specs.Rewrites.{split}
use Rattle.plan_stages.specs.Stages.{prefilter_plan, block_plan}
use Rattle.plan_rules.proofs.Ends.{stage_3, stage_4, stage_follows, stage_valid}
use Rattle.plan_rules.proofs.StageEnds.{exact_is, split_end}
use Rattle.plan_rules.proofs.rules.split_cascades.Goals as goal

pub returns-clause-exact : goal.returns-clause-exact
returns-clause-exact c =
    let block = c.args.block.now in
    exact_is c.split.result (split block c.args.plan) (block_plan block) (split_end block c.args.plan c.requires.stage) c.split.ensures

pub returns-clause-valid : goal.returns-clause-valid
returns-clause-valid c =
    let block = c.args.block.now in
    stage_valid block c.requires.block (block_plan block) (stage_4 block c.requires.block) c.split.result (returns-clause-exact c)

pub returns-clause-meaning : goal.returns-clause-meaning
returns-clause-meaning c =
    let block = c.args.block.now in
    let is = c.requires.block in
    stage_follows block is (prefilter_plan block) (block_plan block) c.args.plan (stage_3 block is) (stage_4 block is) c.requires.stage c.split.result (returns-clause-exact c)
