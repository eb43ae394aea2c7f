use Rattle.std.proofs.Common.{◌∙◌}
use Rattle.plan_stages.specs.Stages.{filtered, only_plan, where_plan}
use Rattle.plan_rules.proofs.Ends.{stage_1, stage_2, stage_follows, stage_valid}
use Rattle.plan_rules.proofs.StageEnds.{exact_is, only_end}
use Rattle.plan_rules.proofs.rules.lower_only.Goals as goal

pub returns-clause-exact : goal.returns-clause-exact
returns-clause-exact c =
    let block = c.args.block.now in
    exact_is c.filtered.result (filtered c.in_ok-staying.staying c.in_ok-lowered.lowered) (only_plan block)
    (only_end block c.in_ok-staying.staying c.as_slice.result.now c.args.plan c.in_ok-lowered.lowered
    c.in_ok-staying.ensures (c.as_slice.ensures.value ∙ c.in_ok-conjuncts.ensures) c.requires.stage c.in_ok-lowered.ensures)
    c.filtered.ensures

pub returns-clause-valid : goal.returns-clause-valid
returns-clause-valid c =
    let block = c.args.block.now in
    stage_valid block c.requires.block (only_plan block) (stage_2 block c.requires.block) c.filtered.result (returns-clause-exact c)

pub returns-clause-meaning : goal.returns-clause-meaning
returns-clause-meaning c =
    let block = c.args.block.now in
    let is = c.requires.block in
    stage_follows block is (where_plan block) (only_plan block) c.args.plan (stage_1 block is) (stage_2 block is) c.requires.stage c.filtered.result (returns-clause-exact c)
