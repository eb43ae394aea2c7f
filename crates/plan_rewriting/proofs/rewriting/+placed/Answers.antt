use Rattle.plan_rewriting.proofs.PassedFilters.{filter_placed}
use Rattle.plan_rewriting.proofs.rewriting.+placed.Goals as goal

pub returns-in-Filter : goal.returns-in-Filter
returns-in-Filter t c = filter_placed c.args.block.now c.args.conjuncts.now c.args.plan.now c.in-Filter.field-0 c.in-Filter.below c.get.result.now c.placed.result c.in-Filter.is c.get.ensures c.placed.ensures
