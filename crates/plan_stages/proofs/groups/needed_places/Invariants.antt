use Rattle.std.proofs.Common.{◌≡◌, ◌++◌, take}
use Rattle.plan_stages.specs.Stages.{joint_places}
use Rattle.plan_stages.proofs.groups.needed_places.Given as goal

abbrev pub invariant-loop-place : goal.invariant-loop-place
invariant-loop-place l = l.needed.items ≡ take l.place-index l.block.groups

abbrev pub invariant-loop-conjunct : goal.invariant-loop-conjunct
invariant-loop-conjunct l = l.needed.items ≡ l.block.groups ++ joint_places l.block (take l.conjunct-index l.conjuncts)
