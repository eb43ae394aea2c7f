use Rattle.prefsql_units.proofs.CarsAndDealers.{example_schema}
use Rattle.prefsql_units.proofs.tables.cars.Goals as goal

pub new-table-requires : goal.new-table-requires
new-table-requires c = rw c.in_ok-schema.ensures example_schema
