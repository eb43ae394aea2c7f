use Rattle.std.proofs.Common.{◌≡◌, ◌+◌, ◌≤◌, ◌<◌, drop}
use Rattle.plan_groups.specs.Jumps.{is_better_by, jumps_of, outcomes}
use Rattle.plan_groups.proofs.jumps.is_better.Given as goal

abbrev pub invariant-loop-at : goal.invariant-loop-at
invariant-loop-at g l =
    (is_better_by 0 0 0 (jumps_of l.leaves) (outcomes l.leaves l.xs l.ys l.a l.b)
    ≡ is_better_by l.at l.last l.skip (jumps_of (drop l.at l.leaves)) (outcomes (drop l.at l.leaves) (drop l.at l.xs) (drop l.at l.ys) l.a l.b))
    × (l.steps ≤ l.fn.steps + l.at) × (l.fn.steps ≤ l.steps) × (0 < l.at → l.fn.steps + 1 ≤ l.steps) × (l.at ≡ 0 → l.skip ≡ 0)
