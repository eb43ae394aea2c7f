use Rattle.std.proofs.Common.{rules, refl}
use Rattle.plan_algebra.specs.declared.plan.Plan.TheViews.{the_lemmas}
use Rattle.native_plan.proofs.Found.{askable_of_best, askable_of_filter, askable_of_join, askable_of_scan, best_is, ends_of_join, filter_is, first_of_join, found_of_best, found_of_filter, found_of_join, found_of_scan, join_is, judged_of_best, part_of_best, part_of_filter, second_of_join, stands_of_filter, there_of_scan}
use Rattle.native_plan.proofs.finding.+find.Goals as goal

pub scan-requires-clause-there : goal.scan-requires-clause-there
scan-requires-clause-there g t c = there_of_scan c.args.asked.now c.requires.asked c.args.plan.now c.requires.part c.args.conjuncts.now c.requires.conjuncts c.in-Scan.table c.in-Scan.is

pub scan-requires-clause-askable : goal.scan-requires-clause-askable
scan-requires-clause-askable g t c = askable_of_scan c.args.asked.now c.requires.asked c.args.plan.now c.requires.part c.args.conjuncts.now c.requires.conjuncts c.in-Scan.table c.in-Scan.is

pub returns-in-Scan : goal.returns-in-Scan
returns-in-Scan g t c =
    found_of_scan c.args.asked.now c.requires.asked c.args.plan.now c.requires.part c.args.conjuncts.now c.requires.conjuncts c.scan.result c.in-Scan.table _ c.in-Scan.is
    c.scan.ensures.first c.scan.ensures.combos c.scan.ensures.tests

pub find-requires : goal.find-requires
find-requires g t c κs within =
    let is = filter_is c.args.plan.now c.in-Filter.below c.get.result.now c.in-Filter.conditions c.as_slice.result.now c.in-Filter.is c.as_slice.ensures c.get.ensures in (
      search (rules, the_lemmas),
      (
        within,
        (
          c.requires.asked,
          (
            c.requires.few_leaves,
            (
              part_of_filter c.args.asked.now.block.now c.args.plan.now c.requires.part c.as_slice.result.now c.get.result.now is,
              stands_of_filter c.args.asked.now.block.now c.args.plan.now c.requires.part c.as_slice.result.now c.get.result.now is,
            ),
          ),
        ),
      ),
    )

pub keep-requires : goal.keep-requires
keep-requires g t c =
    askable_of_filter c.args.asked.now c.requires.asked c.args.plan.now c.requires.part c.args.conjuncts.now c.requires.conjuncts c.as_slice.result.now c.get.result.now
    (filter_is c.args.plan.now c.in-Filter.below c.get.result.now c.in-Filter.conditions c.as_slice.result.now c.in-Filter.is c.as_slice.ensures c.get.ensures)
    _ _ c.in_ok-found-in-Filter.found c.in_ok-found-in-Filter.ensures

pub returns-in_ok-found-in-Filter : goal.returns-in_ok-found-in-Filter
returns-in_ok-found-in-Filter g t c =
    found_of_filter c.args.asked.now c.requires.asked c.args.plan.now c.requires.part c.args.conjuncts.now c.requires.conjuncts c.keep.result c.as_slice.result.now c.get.result.now
    (filter_is c.args.plan.now c.in-Filter.below c.get.result.now c.in-Filter.conditions c.as_slice.result.now c.in-Filter.is c.as_slice.ensures c.get.ensures)
    _ _ c.in_ok-found-in-Filter.found c.in_ok-found-in-Filter.ensures c.keep.ensures.first c.keep.ensures.combos c.keep.ensures.tests

pub find-requires-in-Join : goal.find-requires-in-Join
find-requires-in-Join g t c κs within = (
  search (rules, the_lemmas),
  (
    within,
    (
      c.requires.asked,
      (
        c.requires.few_leaves,
        (
          first_of_join c.args.asked.now.block.now c.args.plan.now c.requires.part c.get-in-Join.result.now c.in-Join.right
              (join_is c.args.plan.now c.in-Join.left c.in-Join.right c.get-in-Join.result.now c.in-Join.right c.in-Join.is c.get-in-Join.ensures refl),
          search rules,
        ),
      ),
    ),
  ),
)

pub find-requires-in-Join-2 : goal.find-requires-in-Join-2
find-requires-in-Join-2 g t c κs within = (
  search (rules, the_lemmas),
  (
    within,
    (
      c.requires.asked,
      (
        c.requires.few_leaves,
        (
          second_of_join c.args.asked.now.block.now c.args.plan.now c.requires.part c.in-Join.left c.get-in-Join-2.result.now
              (join_is c.args.plan.now c.in-Join.left c.in-Join.right c.in-Join.left c.get-in-Join-2.result.now c.in-Join.is refl c.get-in-Join-2.ensures),
          search rules,
        ),
      ),
    ),
  ),
)

pub join-requires-clause-ends : goal.join-requires-clause-ends
join-requires-clause-ends g t c =
    ends_of_join c.args.asked.now c.args.plan.now c.requires.part c.get-in-Join.result.now c.get-in-Join-2.result.now
    (join_is c.args.plan.now c.in-Join.left c.in-Join.right c.get-in-Join.result.now c.get-in-Join-2.result.now c.in-Join.is c.get-in-Join.ensures c.get-in-Join-2.ensures)
    _ _ _ c.in_ok-lefts-in-Join.lefts c.in_ok-rights-in-Join.rights c.in_ok-lefts-in-Join.ensures c.in_ok-rights-in-Join.ensures

pub join-requires-clause-askable : goal.join-requires-clause-askable
join-requires-clause-askable g t c =
    askable_of_join c.args.asked.now c.requires.asked c.args.plan.now c.requires.part c.args.conjuncts.now c.requires.conjuncts c.get-in-Join.result.now c.get-in-Join-2.result.now
    (join_is c.args.plan.now c.in-Join.left c.in-Join.right c.get-in-Join.result.now c.get-in-Join-2.result.now c.in-Join.is c.get-in-Join.ensures c.get-in-Join-2.ensures)
    _ _ _ c.in_ok-lefts-in-Join.lefts c.in_ok-rights-in-Join.rights c.in_ok-lefts-in-Join.ensures c.in_ok-rights-in-Join.ensures

pub returns-in_ok-rights-in-Join : goal.returns-in_ok-rights-in-Join
returns-in_ok-rights-in-Join g t c =
    found_of_join c.args.asked.now c.requires.asked c.args.plan.now c.requires.part c.args.conjuncts.now c.requires.conjuncts c.join.result c.get-in-Join.result.now c.get-in-Join-2.result.now
    (join_is c.args.plan.now c.in-Join.left c.in-Join.right c.get-in-Join.result.now c.get-in-Join-2.result.now c.in-Join.is c.get-in-Join.ensures c.get-in-Join-2.ensures)
    _ _ _ c.in_ok-lefts-in-Join.lefts c.in_ok-rights-in-Join.rights c.in_ok-lefts-in-Join.ensures c.in_ok-rights-in-Join.ensures c.join.ensures.first c.join.ensures.combos c.join.ensures.tests

pub find-requires-in-Best : goal.find-requires-in-Best
find-requires-in-Best g t c κs within = (
  search (rules, the_lemmas),
  (
    within,
    (
      c.requires.asked,
      (
        c.requires.few_leaves,
        (
          part_of_best c.args.asked.now.block.now c.args.plan.now c.requires.part c.in-Best.term c.in-Best.groups c.get-in-Best.result.now
              (best_is c.args.plan.now c.in-Best.below c.get-in-Best.result.now c.in-Best.term c.in-Best.groups c.in-Best.groups c.in-Best.is refl c.get-in-Best.ensures),
          search rules,
        ),
      ),
    ),
  ),
)

pub best-requires : goal.best-requires
best-requires g t c =
    judged_of_best c.args.asked.now c.requires.asked c.args.plan.now c.requires.part c.args.conjuncts.now c.requires.conjuncts c.in-Best.term c.as_slice-in-Best.result.now c.get-in-Best.result.now
    (best_is c.args.plan.now c.in-Best.below c.get-in-Best.result.now c.in-Best.term c.in-Best.groups c.as_slice-in-Best.result.now c.in-Best.is c.as_slice-in-Best.ensures c.get-in-Best.ensures)
    _ _ c.in_ok-found-in-Best.found c.in_ok-found-in-Best.ensures

pub keep-requires-in-Best : goal.keep-requires-in-Best
keep-requires-in-Best g t c =
    askable_of_best c.args.asked.now c.requires.asked c.args.plan.now c.requires.part c.args.conjuncts.now c.requires.conjuncts c.in-Best.term c.as_slice-in-Best.result.now c.get-in-Best.result.now
    (best_is c.args.plan.now c.in-Best.below c.get-in-Best.result.now c.in-Best.term c.in-Best.groups c.as_slice-in-Best.result.now c.in-Best.is c.as_slice-in-Best.ensures c.get-in-Best.ensures)
    _ _ _ c.in_ok-found-in-Best.found c.in_ok-best-in-Best.best c.in_ok-found-in-Best.ensures c.in_ok-best-in-Best.ensures

pub returns-in_ok-best-in-Best : goal.returns-in_ok-best-in-Best
returns-in_ok-best-in-Best g t c =
    found_of_best c.args.asked.now c.requires.asked c.args.plan.now c.requires.part c.args.conjuncts.now c.requires.conjuncts c.keep-in-Best.result c.requires.few_leaves c.in-Best.term c.as_slice-in-Best.result.now c.get-in-Best.result.now
    (best_is c.args.plan.now c.in-Best.below c.get-in-Best.result.now c.in-Best.term c.in-Best.groups c.as_slice-in-Best.result.now c.in-Best.is c.as_slice-in-Best.ensures c.get-in-Best.ensures)
    _ _ _ c.in_ok-found-in-Best.found c.in_ok-best-in-Best.best c.in_ok-found-in-Best.ensures c.in_ok-best-in-Best.ensures c.keep-in-Best.ensures.first c.keep-in-Best.ensures.combos c.keep-in-Best.ensures.tests
