use Rattle.plan_groups.proofs.Keys.{AreFirst}
use Rattle.plan_groups.proofs.members.members.Given as goal

abbrev pub invariant-loop-place : goal.invariant-loop-place
invariant-loop-place l = AreFirst l.bound l.combos l.members.items l.place
