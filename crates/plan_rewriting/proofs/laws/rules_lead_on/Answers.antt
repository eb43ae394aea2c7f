use Rattle.plan_rewriting.proofs.StagePlans.{block_from_prefilter, only_from_where, prefilter_from_only, where_from_first}
use Rattle.plan_rewriting.proofs.laws.rules_lead_on.Goals as goal

pub returns-clause-filters : goal.returns-clause-filters
returns-clause-filters c = where_from_first c.args.block.now

pub returns-clause-only : goal.returns-clause-only
returns-clause-only c = only_from_where c.args.block.now

pub returns-clause-prefilters : goal.returns-clause-prefilters
returns-clause-prefilters c = prefilter_from_only c.args.block.now

pub returns-clause-cascades : goal.returns-clause-cascades
returns-clause-cascades c = block_from_prefilter c.args.block.now
