use Rattle.std.proofs.Common.{◌≡◌, filter, take}
use Rattle.plan_algebra.specs.Meaning.{pairs_of}
use Rattle.native_plan.specs.Asking.{holds_all}
use Rattle.native_plan.proofs.joining.pairs_by_value.Given as goal

abbrev pub invariant-loop-left : goal.invariant-loop-left
invariant-loop-left l = l.combos.items ≡ filter (holds_all l.asked l.conjuncts l.first) (pairs_of (take l.left-index l.lefts) l.rights)
