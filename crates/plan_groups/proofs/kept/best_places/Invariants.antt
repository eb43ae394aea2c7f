use Rattle.std.proofs.Common.{◌-◌, ◌≤◌, length}
use Rattle.plan_groups.proofs.GroupRuns.{AreDone}
use Rattle.plan_groups.proofs.kept.best_places.Given as goal

abbrev pub invariant-loop-at : goal.invariant-loop-at
invariant-loop-at g l = (l.at ≤ length l.members) × AreDone l.fn.bound l.fn.combos l.members l.fn.steps l.at l.places.items l.tests l.steps

abbrev pub decreases-loop-at : goal.decreases-loop-at
decreases-loop-at g l = length l.members - l.at
