use Rattle.std.proofs.Common.{◌≡◌, filter, not, take}
use Rattle.plan_stages.specs.Sinking.{is_sunk}
use Rattle.plan_stages.proofs.sinking.not_sunk.Given as goal

abbrev pub invariant-loop-conjunct : goal.invariant-loop-conjunct
invariant-loop-conjunct l = l.found ≡ filter (λ c. not (is_sunk l.block c)) (take l.conjunct-index l.conjuncts)
