use Rattle.prefsql_units.proofs.OneColumn.{cars_is_name, id_schema}
use Rattle.prefsql_units.proofs.sql_trees.cars.Goals as goal

pub add_table-requires-clause-named : goal.add_table-requires-clause-named
add_table-requires-clause-named c = rw c.in_ok-name.ensures cars_is_name

pub new-requires : goal.new-requires
new-requires c = rw c.in_ok-schema.ensures id_schema
