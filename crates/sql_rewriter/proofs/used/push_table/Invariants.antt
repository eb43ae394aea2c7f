use Rattle.std.proofs.Common.{◌≡◌, ◌++◌, map, filter}
use Rattle.std.specs.List.{list_any, range_with_len}
use Rattle.prefsql_tables.specs.declared.place.ColumnPlace.{ColumnPlace}
use Rattle.rewritten_query.specs.Columns.{place_eq}
use Rattle.sql_rewriter.proofs.used.push_table.Given as goal

abbrev pub invariant-loop-column : goal.invariant-loop-column
invariant-loop-column l =
    l.used ≡ l.initial.used ++ filter (λ place. list_any (place_eq place) l.mentioned) (map (λ c. let place : ColumnPlace = record { table = l.table; column = c } in place) (range_with_len 0 l.column))
