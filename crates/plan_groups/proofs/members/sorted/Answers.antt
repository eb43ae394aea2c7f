use Rattle.std.proofs.Common.{rules}
use Rattle.std.proofs.lemmas.Fn.{always_returns_same}
use Rattle.std.proofs.lemmas.List.Sorted.{ranks_by}
use Rattle.plan_groups.specs.declared.members.Member.{Member}
use Rattle.plan_groups.proofs.Keys.{by_group_total}
use Rattle.plan_groups.proofs.members.sorted.Goals as goal

pub returns-clause-sorted : goal.returns-clause-sorted
returns-clause-sorted c =
    c.in_ok-sort_by.ensures.sorted _ (ranks_by by_group_total (λ (m : Member). m)) (always_returns_same _ _ _ (λ a r f k. (search rules, search rules)))
