use Rattle.std.proofs.Common.{◌≡◌, ◌++◌, take}
use Rattle.std.specs.List.{flat_map}
use Rattle.conditions.specs.Places.{scalar_places}
use Rattle.plan_stages.proofs.conjuncts.add_list_places.Given as goal

abbrev pub invariant-loop-scalar : goal.invariant-loop-scalar
invariant-loop-scalar l = l.places.items ≡ l.fn.places.items ++ flat_map scalar_places (take l.scalar-index l.scalars)
