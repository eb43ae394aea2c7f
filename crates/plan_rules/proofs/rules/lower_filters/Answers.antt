use Rattle.std.proofs.Common.{◌∙◌}
use Rattle.plan_stages.specs.Stages.{filtered, first_plan, where_plan}
use Rattle.plan_rules.proofs.Ends.{stage_0, stage_1, stage_follows, stage_valid}
use Rattle.plan_rules.proofs.StageEnds.{exact_is, filters_end}
use Rattle.plan_rules.proofs.rules.lower_filters.Goals as goal

pub returns-clause-exact : goal.returns-clause-exact
returns-clause-exact c =
    let block = c.args.block.now in
    exact_is c.filtered.result (filtered c.of-onlys.result c.in_ok-lowered.lowered) (where_plan block)
    (filters_end block c.of-onlys.result c.as_slice.result.now c.args.plan c.in_ok-lowered.lowered
    (c.of-onlys.ensures ∙ c.in_ok-onlys.ensures) (c.as_slice.ensures.value ∙ c.in_ok-wheres.ensures) c.requires.stage c.in_ok-lowered.ensures)
    c.filtered.ensures

pub returns-clause-valid : goal.returns-clause-valid
returns-clause-valid c =
    let block = c.args.block.now in
    stage_valid block c.requires.block (where_plan block) (stage_1 block c.requires.block) c.filtered.result (returns-clause-exact c)

pub returns-clause-meaning : goal.returns-clause-meaning
returns-clause-meaning c =
    let block = c.args.block.now in
    let is = c.requires.block in
    stage_follows block is (first_plan block) (where_plan block) c.args.plan (stage_0 block is) (stage_1 block is) c.requires.stage c.filtered.result (returns-clause-exact c)
