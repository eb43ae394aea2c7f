use Rattle.prefsql_units.proofs.CarsAndDealers.{cars_is_name, example_schema}
use Rattle.prefsql_units.proofs.tables.a_name_stands_once.Goals as goal

pub add_table-requires-clause-named : goal.add_table-requires-clause-named
add_table-requires-clause-named g c = rw c.in_ok-of.ensures cars_is_name

pub new-again-requires : goal.new-again-requires
new-again-requires g c = rw c.in_ok-schema.ensures example_schema

pub add_table-refused-requires-clause-named : goal.add_table-refused-requires-clause-named
add_table-refused-requires-clause-named g c = rw c.in_ok-of-2.ensures cars_is_name
