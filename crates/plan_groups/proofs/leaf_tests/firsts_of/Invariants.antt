use Rattle.std.proofs.Common.{◌≡◌, map, take}
use Rattle.prefsql_values.specs.Value.{value_of}
use Rattle.plan_groups.specs.Firsts.{first_equal}
use Rattle.plan_groups.proofs.leaf_tests.firsts_of.Given as goal

abbrev pub invariant-loop-cell : goal.invariant-loop-cell
invariant-loop-cell l = l.firsts.items ≡ map (first_equal (map value_of l.cells)) (map value_of (take l.cell-index l.cells))
