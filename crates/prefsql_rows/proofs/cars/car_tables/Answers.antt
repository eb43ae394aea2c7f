use Rattle.prefsql_rows.proofs.NameLemmas.{cars_is_name, dealers_is_name}
use Rattle.prefsql_rows.proofs.cars.car_tables.Goals as goal

pub add_table-requires-clause-named : goal.add_table-requires-clause-named
add_table-requires-clause-named c = rw c.in_ok-of.ensures cars_is_name

pub add_table-requires-2-clause-named : goal.add_table-requires-2-clause-named
add_table-requires-2-clause-named c = rw c.in_ok-of-2.ensures dealers_is_name
