use Rattle.std.proofs.Common.{◌≡◌, ◌++◌, filter, map, take}
use Rattle.plan_groups.specs.Groups.{row_at}
use Rattle.native_plan.specs.Asking.{holds_all}
use Rattle.native_plan.specs.Combos.{pair}
use Rattle.native_plan.proofs.joining.add_partners.Given as goal

abbrev pub invariant-loop-place : goal.invariant-loop-place
invariant-loop-place l =
    l.combos.items ≡ l.fn.combos.items ++ filter (holds_all l.asked l.conjuncts l.first) (map (λ place. pair l.left (row_at l.rights place)) (take l.place-index l.places))
