-- What an SQL script means over a set of tables: the query of each statement, or its first false
-- obligation, that of ORDER BY last. The profile of SQL-92 (ISO/IEC 9075:1992) is this project's
-- own.
use Rattle.std.specs.Prelude.{ℕ, ◌-◌, ℤ, pos, negsuc, Bool, ◌||◌, ◌==◌, nat_lt, List, [], ◌∷◌, map}
use Rattle.std.specs.Prelude.{length, Option, Some, None, Result, Ok, Err}
use Rattle.std.specs.List.{flat_map}
use Rattle.std.specs.Str.{bytes_eq}
use Rattle.prefsql_lexer.specs.declared.fault.Spot.{Spot}
use Rattle.prefsql_tables.specs.declared.place.SortKey.{SortKey}
use Rattle.prefsql_tables.specs.Table.{Tables}
use Rattle.query_tree.specs.declared.query.OrderTree.{OrderTree}
use Rattle.query_tree.specs.declared.query.OrderName.{OrderName}
use Rattle.query_tree.specs.declared.query.OrderName.TheVariants.{Name, Position}
use Rattle.sql_tree.specs.declared.tree.SqlQuery.{SqlQuery, roll-SqlQuery, out-SqlQuery}
use Rattle.sql_text.specs.declared.named.NamedStatement.{NamedStatement}
use Rattle.sql_resolver.specs.NamesMeant.{positions_from}
use Rattle.sql_resolver.specs.Scope.{ScopeColumn}
use Rattle.sql_resolver.specs.Owed.{Fault, fault, fault_if, first_spot, either_spot}
use Rattle.sql_resolver.specs.Reading.{query_reading}

-- ---- the order

pub record KeyReading : Type 0 where
  pub key : SortKey
  pub faults : List Fault

abbrev pub key_of : ℕ → Bool → List Fault → KeyReading
key_of column descending faults = record {
  key = record { column = column; descending = descending };
  faults = faults;
}

-- by the positions of the columns that have the name
abbrev pub named_key : OrderTree → List ℕ → KeyReading
named_key tree [] = key_of 0 tree.descending (fault 314 tree.at ∷ [])
named_key tree (column ∷ []) = key_of column tree.descending []
named_key tree (column ∷ other ∷ more) = key_of column tree.descending (fault 315 tree.at ∷ [])

abbrev pub numbered_key : OrderTree → ℤ → ℕ → KeyReading
numbered_key tree (pos n) count =
    key_of (n - 1) tree.descending (fault_if (n == 0 || nat_lt count n) 316 tree.at)
numbered_key tree (negsuc n) count = key_of 0 tree.descending (fault 316 tree.at ∷ [])

abbrev pub key_reading : List ScopeColumn → OrderTree → KeyReading
key_reading columns tree = by_name tree.key
  where
    by_name : OrderName → KeyReading
    by_name (Name name) =
        named_key tree
        (positions_from 0 (λ (column : ScopeColumn). bytes_eq name column.name) columns)
    by_name (Position n) = numbered_key tree n (length columns)

-- ---- statements and scripts

abbrev pub with_order : List SortKey → SqlQuery → SqlQuery
with_order keys query =
    roll-SqlQuery (record {
      distinct = (out-SqlQuery query).distinct;
      items = (out-SqlQuery query).items;
      from = (out-SqlQuery query).from;
      filter = (out-SqlQuery query).filter;
      order = keys;
    })

abbrev pub ok_unless : Option Spot → SqlQuery → Result SqlQuery Spot
ok_unless None query = Ok query
ok_unless (Some spot) query = Err spot

-- the query of a statement, or its first false obligation, ORDER BY last
abbrev pub statement_reading : Tables → NamedStatement → Result SqlQuery Spot
statement_reading tables statement =
    let query = query_reading tables statement.query [] in
    let keys = map (key_reading query.columns) statement.order in
    ok_unless (either_spot query.first (first_spot (flat_map (λ key. key.faults) keys)))
    (with_order (map (λ key. key.key) keys) query.tree)

abbrev pub and_more :
    Result SqlQuery Spot → Result (List SqlQuery) Spot → Result (List SqlQuery) Spot
and_more (Err spot) more = Err spot
and_more (Ok query) (Err spot) = Err spot
and_more (Ok query) (Ok queries) = Ok (query ∷ queries)

-- the queries of a script, or the first false obligation of the first statement that has one
abbrev pub script_reading : Tables → List NamedStatement → Result (List SqlQuery) Spot
script_reading tables [] = Ok []
script_reading tables (statement ∷ more) =
    and_more (statement_reading tables statement) (script_reading tables more)
