use Rattle.std.proofs.Common.{◌≡◌, ◌+◌, drop}
use Rattle.prefsql_values.specs.Value.{value_of}
use Rattle.base_prefs.specs.Values.{place_of}
use Rattle.plan_groups.proofs.leaf_tests.position.Given as goal

abbrev pub invariant-loop-value : goal.invariant-loop-value
invariant-loop-value l =
    (l.at ≡ l.value-index) × (l.at + place_of (drop l.value-index l.values) (value_of l.cell) ≡ place_of l.values (value_of l.cell))
