use Rattle.std.proofs.Common.{◌≡◌, map, take}
use Rattle.prefsql_tables.specs.declared.place.Combo.{Combo}
use Rattle.prefsql_values.specs.Value.{value_of}
use Rattle.native_plan.specs.Asking.{sees}
use Rattle.native_plan.proofs.joining.cells_in.Given as goal

abbrev pub invariant-loop-combo : goal.invariant-loop-combo
invariant-loop-combo l = map value_of l.cells.items ≡ map (λ (combo : Combo). sees l.asked l.first combo l.place) (take l.combo-index l.combos)
