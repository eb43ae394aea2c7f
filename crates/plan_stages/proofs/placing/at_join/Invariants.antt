use Rattle.std.proofs.Common.{◌≡◌, filter, take}
use Rattle.plan_stages.specs.Placing.{is_at_join}
use Rattle.plan_stages.proofs.placing.at_join.Given as goal

abbrev pub invariant-loop-conjunct : goal.invariant-loop-conjunct
invariant-loop-conjunct l = l.here ≡ filter (is_at_join l.block l.table) (take l.conjunct-index l.conjuncts)
