use Rattle.std.proofs.Common.{◌≡◌, map}
use Rattle.std.specs.List.{range_with_len}
use Rattle.plan_algebra.specs.declared.plan.Conjunct.TheVariants as conjunct
use Rattle.plan_stages.proofs.conjuncts.wheres.Given as goal

abbrev pub invariant-loop-position : goal.invariant-loop-position
invariant-loop-position l = l.found.items ≡ map conjunct.Filter (range_with_len 0 l.position)
