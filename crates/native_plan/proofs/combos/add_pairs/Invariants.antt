use Rattle.std.proofs.Common.{◌≡◌, ◌++◌, filter, map, take}
use Rattle.native_plan.specs.Asking.{holds_all}
use Rattle.native_plan.specs.Combos.{pair}
use Rattle.native_plan.proofs.combos.add_pairs.Given as goal

abbrev pub invariant-loop-right : goal.invariant-loop-right
invariant-loop-right l = l.combos.items ≡ l.fn.combos.items ++ filter (holds_all l.asked l.conjuncts l.first) (map (pair l.left) (take l.right-index l.rights))
