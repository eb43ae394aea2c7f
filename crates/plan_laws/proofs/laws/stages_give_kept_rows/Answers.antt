use Rattle.plan_laws.proofs.StageLaws.{block_means, first_means, only_means, prefilter_means, where_means}
use Rattle.plan_laws.proofs.laws.stages_give_kept_rows.Goals as goal

pub returns-clause-first : goal.returns-clause-first
returns-clause-first c = λ tables. first_means tables c.args.block.now c.requires

pub returns-clause-filters_lowered : goal.returns-clause-filters_lowered
returns-clause-filters_lowered c = λ tables. where_means tables c.args.block.now c.requires

pub returns-clause-only_lowered : goal.returns-clause-only_lowered
returns-clause-only_lowered c = λ tables. only_means tables c.args.block.now c.requires

pub returns-clause-prefiltered : goal.returns-clause-prefiltered
returns-clause-prefiltered c = λ tables. prefilter_means tables c.args.block.now c.requires

pub returns-clause-split : goal.returns-clause-split
returns-clause-split c = λ tables. block_means tables c.args.block.now c.requires
