use Rattle.std.proofs.Common.{◌≡◌, Some, None}
use Rattle.prefsql_tables.specs.Names.{table_place}
use Rattle.prefsql_tables.specs.TableData.{NamedTable}
use Rattle.prefsql_tables.proofs.EntryLemmas.{table_place-keys}
use Rattle.prefsql_tables.proofs.PlaceLemmas.{position_is_place}
use Rattle.prefsql_tables.proofs.set.TableSet.find.Goals as goal

pub returns-in-Some-clause-place : goal.returns-in-Some-clause-place
returns-in-Some-clause-place c = rw (← c.self.view_is, table_place-keys c.self.inside.tables.entries c.args.name.now) c.in-Some.ensures.index

pub returns-in-Some-clause-named : goal.returns-in-Some-clause-named
returns-in-Some-clause-named c =
    let place : Some c.in-Some.place ≡ table_place c.args.self.now c.args.name.now = rw (← c.self.view_is, table_place-keys c.self.inside.tables.entries c.args.name.now) c.in-Some.ensures.index in
    rw place (position_is_place (λ (named : NamedTable). named.name) c.args.name.now c.args.self.now)

pub returns-in-None-clause-place : goal.returns-in-None-clause-place
returns-in-None-clause-place c = rw (← c.self.view_is, table_place-keys c.self.inside.tables.entries c.args.name.now) c.in-None.ensures.index

pub returns-in-None-clause-named : goal.returns-in-None-clause-named
returns-in-None-clause-named c =
    let place : None ≡ table_place c.args.self.now c.args.name.now = rw (← c.self.view_is, table_place-keys c.self.inside.tables.entries c.args.name.now) c.in-None.ensures.index in
    rw place (position_is_place (λ (named : NamedTable). named.name) c.args.name.now c.args.self.now)
