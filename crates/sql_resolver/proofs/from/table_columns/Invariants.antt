use Rattle.std.proofs.Common.{◌≡◌, map, take}
use Rattle.sql_resolver.specs.Reading.{table_column}
use Rattle.sql_resolver.proofs.from.table_columns.Given as goal

abbrev pub invariant-loop-column : goal.invariant-loop-column
invariant-loop-column l = l.shown ≡ map table_column (take l.column-index l.columns)
