use Rattle.std.proofs.Common.{◌≡◌, map, take}
use Rattle.prefsql_values.specs.Value.{value_of}
use Rattle.plan_groups.specs.Firsts.{values_in}
use Rattle.plan_groups.proofs.leaf_tests.cells_of.Given as goal

abbrev pub invariant-loop-combo : goal.invariant-loop-combo
invariant-loop-combo l = map value_of l.cells.items ≡ values_in l.bound (take l.combo-index l.combos) l.leaf.place
