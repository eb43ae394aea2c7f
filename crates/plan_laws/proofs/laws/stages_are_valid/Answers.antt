use Rattle.plan_laws.proofs.ValidPlans.{block_valid, first_valid, only_valid, prefilter_valid, where_valid}
use Rattle.plan_laws.proofs.laws.stages_are_valid.Goals as goal

pub returns-clause-first : goal.returns-clause-first
returns-clause-first c = first_valid c.args.block.now c.requires

pub returns-clause-filters_lowered : goal.returns-clause-filters_lowered
returns-clause-filters_lowered c = where_valid c.args.block.now c.requires

pub returns-clause-only_lowered : goal.returns-clause-only_lowered
returns-clause-only_lowered c = only_valid c.args.block.now c.requires

pub returns-clause-prefiltered : goal.returns-clause-prefiltered
returns-clause-prefiltered c = prefilter_valid c.args.block.now c.requires

pub returns-clause-split : goal.returns-clause-split
returns-clause-split c = block_valid c.args.block.now c.requires
