use Rattle.std.proofs.Common.{◌≡◌, filter, take}
use Rattle.plan_stages.specs.Sinking.{is_sunk}
use Rattle.plan_stages.proofs.sinking.sunk.Given as goal

abbrev pub invariant-loop-conjunct : goal.invariant-loop-conjunct
invariant-loop-conjunct l = l.found.items ≡ filter (is_sunk l.block) (take l.conjunct-index l.conjuncts)
