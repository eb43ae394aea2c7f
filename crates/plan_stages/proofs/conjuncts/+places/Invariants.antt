use Rattle.std.proofs.Common.{◌≡◌, ◌++◌, take}
use Rattle.std.specs.List.{flat_map}
use Rattle.conditions.specs.Places.{read_by}
use Rattle.plan_stages.proofs.conjuncts.+places.Given as goal

abbrev pub invariant-add_all_places-loop-part : goal.invariant-add_all_places-loop-part
invariant-add_all_places-loop-part l = l.places.items ≡ l.fn.places.items ++ flat_map read_by (take l.part-index l.parts)
