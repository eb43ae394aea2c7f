use Rattle.std.proofs.Common.{◌≡◌, drop}
use Rattle.std.specs.Cmp.Lexicographic.{slice_cmp}
use Rattle.std.specs.Ordering.{int_cmp}
use Rattle.plan_groups.proofs.jumps.compare_keys.Given as goal

abbrev pub invariant-loop-at : goal.invariant-loop-at
invariant-loop-at l = slice_cmp int_cmp l.first l.second ≡ slice_cmp int_cmp (drop l.at l.first) (drop l.at l.second)
