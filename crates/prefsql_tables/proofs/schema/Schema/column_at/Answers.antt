use Rattle.prefsql_tables.specs.declared.schema.Column.{Column}
use Rattle.prefsql_tables.proofs.PlaceLemmas.{position_is_place}
use Rattle.prefsql_tables.proofs.schema.Schema.column_at.Goals as goal

pub returns-in-Some-clause-named : goal.returns-in-Some-clause-named
returns-in-Some-clause-named c =
    rw (c.in-Some.ensures.place, c.as_slice.ensures) (position_is_place (λ (column : Column). column.name) c.args.name.now c.args.self.now.columns)

pub returns-in-None-clause-named : goal.returns-in-None-clause-named
returns-in-None-clause-named c =
    rw (c.in-None.ensures.place, c.as_slice.ensures) (position_is_place (λ (column : Column). column.name) c.args.name.now c.args.self.now.columns)
