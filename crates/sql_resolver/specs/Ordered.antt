-- What is found of ORDER BY and of statements, by what is found of their queries.
use Rattle.std.specs.Prelude.{◌≡◌, ⊤, ℕ, List, map, Result, Ok, Err}
use Rattle.std.specs.HashMap.{HashMap, get_by}
use Rattle.std.specs.Str.{bytes_eq}
use denote.Ref.{Bor}
use Rattle.prefsql_lexer.specs.declared.fault.Spot.{Spot}
use Rattle.prefsql_tables.specs.Table.{Tables}
use Rattle.prefsql_tables.specs.declared.place.SortKey.{SortKey}
use Rattle.query_tree.specs.declared.query.OrderTree.{OrderTree}
use Rattle.sql_tree.specs.declared.tree.SqlQuery.{SqlQuery}
use Rattle.sql_text.specs.declared.named.NamedStatement.{NamedStatement}
use Rattle.sql_resolver.specs.declared.found.Selected.{Selected}
use Rattle.sql_resolver.specs.declared.meaning.Meaning.{Meaning}
use Rattle.sql_resolver.specs.declared.statements.ResolveFault.{ResolveFault}
use Rattle.sql_resolver.specs.declared.statements.ResolveFault.TheVariants.{Bad, Memory}
use Rattle.sql_resolver.specs.Meant.{meaning}
use Rattle.sql_resolver.specs.NamesMeant.{positions_from}
use Rattle.sql_resolver.specs.Owed.{Fault}
use Rattle.sql_resolver.specs.Scope.{ScopeColumn}
use Rattle.sql_resolver.specs.Outcomes.{all_of, outcome}
use Rattle.sql_resolver.specs.Found.{spotted}
use Rattle.sql_resolver.specs.Statements.{KeyReading, key_reading, script_reading, with_order}

-- the map has, for each name, the position of the column that it means
abbrev pub ShowsColumns :
    {S : Type 0} → List ScopeColumn → HashMap (Bor (List ℕ)) (Meaning ℕ) S → Type 0
ShowsColumns columns named =
    (name : List ℕ) →
    get_by (λ k. bytes_eq name k.now) named
    ≡ meaning (positions_from 0 (λ (column : ScopeColumn). bytes_eq name column.name) columns)

abbrev pub found_key : KeyReading → Result SortKey Fault
found_key key = outcome key.key key.faults

abbrev pub with_keys : SqlQuery → Result (List SortKey) Spot → Result SqlQuery Spot
with_keys query (Ok keys) = Ok (with_order keys query)
with_keys query (Err spot) = Err spot

-- a statement by its query and its order
abbrev pub statement_found : Result Selected Spot → List OrderTree → Result SqlQuery Spot
statement_found (Ok selected) order =
    with_keys selected.tree
    (spotted (all_of (map (λ tree. found_key (key_reading selected.columns tree)) order)))
statement_found (Err spot) order = Err spot

-- the spot is the first false obligation of the first statement that has one
abbrev pub SaysFault : Tables → List NamedStatement → ResolveFault → Type 0
SaysFault tables statements (Bad spot) = script_reading tables statements ≡ Err spot
SaysFault tables statements Memory = ⊤
