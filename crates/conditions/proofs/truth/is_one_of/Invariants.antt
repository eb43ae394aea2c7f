use Rattle.std.proofs.Common.{◌≡◌, map, drop}
use Rattle.prefsql_values.specs.Truth.{either_true}
use Rattle.prefsql_values.specs.Value.{value_of, one_of}
use Rattle.prefsql_tables.specs.Sight.{sight}
use Rattle.conditions.specs.Meaning.{scalar_value}
use Rattle.conditions.proofs.truth.is_one_of.Given as goal

abbrev pub invariant-loop-item : goal.invariant-loop-item
invariant-loop-item l =
    let see = scalar_value (sight l.tables l.from l.first l.combo.rows) in
    one_of (value_of l.cell) (map see l.list) ≡ either_true l.so_far (one_of (value_of l.cell) (map see (drop l.item-index l.list)))
