use Rattle.std.proofs.Common.{◌∙◌}
use Rattle.plan_algebra.proofs.TextReads.{best_added, filter_added, join_added}
use Rattle.plan_algebra.proofs.explain.+add_lines.Goals as goal

pub returns-in_ok-deeper-in-Filter : goal.returns-in_ok-deeper-in-Filter
returns-in_ok-deeper-in-Filter t c =
    filter_added c.args.block.now c.args.indent.now c.as_str.result.now (c.as_str.ensures.value ∙ c.in_ok-deeper-in-Filter.ensures) c.add_lines.result c.args.plan.now c.in-Filter.below c.get.result.now
    c.in-Filter.conjuncts c.as_slice.result.now _ _ _ c.in-Filter.is c.as_slice.ensures c.get.ensures c.in_ok-add_filter-in-Filter.ensures c.add_lines.ensures

pub returns-in_ok-deeper-in-Best : goal.returns-in_ok-deeper-in-Best
returns-in_ok-deeper-in-Best t c =
    best_added c.args.block.now c.args.indent.now c.as_str-in-Best.result.now (c.as_str-in-Best.ensures.value ∙ c.in_ok-deeper-in-Best.ensures) c.add_lines-in-Best.result c.args.plan.now c.in-Best.below c.get-in-Best.result.now
    c.in-Best.term c.in-Best.groups c.as_slice-in-Best.result.now _ _ _ c.in-Best.is c.as_slice-in-Best.ensures c.get-in-Best.ensures c.in_ok-add_best-in-Best.ensures c.add_lines-in-Best.ensures

pub returns-in_ok-add_lines-in-Join : goal.returns-in_ok-add_lines-in-Join
returns-in_ok-add_lines-in-Join t c =
    join_added c.args.block.now c.args.indent.now c.as_str-in-Join.result.now (c.as_str-in-Join.ensures.value ∙ c.in_ok-deeper-in-Join.ensures) c.add_lines-in-Join-2.result c.args.plan.now c.in-Join.left c.in-Join.right
    c.get-in-Join.result.now c.get-in-Join-2.result.now c.as_str-in-Join-2.result.now _ _ _ _ c.in-Join.is c.get-in-Join.ensures c.get-in-Join-2.ensures (c.as_str-in-Join-2.ensures.value ∙ c.in_ok-deeper-in-Join.ensures)
    c.in_ok-add_join-in-Join.ensures c.in_ok-add_lines-in-Join.ensures c.add_lines-in-Join-2.ensures
