use Rattle.plan_rewriting.specs.Rewrites.{prefiltered}
use Rattle.plan_stages.specs.Stages.{only_plan, prefilter_plan}
use Rattle.plan_rules.proofs.Ends.{stage_2, stage_3, stage_follows, stage_valid}
use Rattle.plan_rules.proofs.StageEnds.{exact_is, prefilter_end}
use Rattle.plan_rules.proofs.rules.add_prefilters.Goals as goal

pub returns-clause-exact : goal.returns-clause-exact
returns-clause-exact c =
    let block = c.args.block.now in
    exact_is c.prefiltered.result (prefiltered block c.args.plan) (prefilter_plan block) (prefilter_end block c.args.plan c.requires.stage) c.prefiltered.ensures

pub returns-clause-valid : goal.returns-clause-valid
returns-clause-valid c =
    let block = c.args.block.now in
    stage_valid block c.requires.block (prefilter_plan block) (stage_3 block c.requires.block) c.prefiltered.result (returns-clause-exact c)

pub returns-clause-meaning : goal.returns-clause-meaning
returns-clause-meaning c =
    let block = c.args.block.now in
    let is = c.requires.block in
    stage_follows block is (only_plan block) (prefilter_plan block) c.args.plan (stage_2 block is) (stage_3 block is) c.requires.stage c.prefiltered.result (returns-clause-exact c)
