use Rattle.std.proofs.Common.{◌≡◌, map, take}
use Rattle.prefsql_values.specs.Value.{value_of}
use Rattle.base_prefs.specs.Values.{place_of}
use Rattle.plan_groups.proofs.leaf_tests.places_among.Given as goal

abbrev pub invariant-loop-cell : goal.invariant-loop-cell
invariant-loop-cell l = l.places.items ≡ map (place_of l.values) (map value_of (take l.cell-index l.cells))
