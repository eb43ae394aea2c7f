use Rattle.std.proofs.Common.{◌≡◌, take}
use Rattle.prefsql_tables.specs.Table.{rows_of}
use Rattle.sql_exec.proofs.laid_out.table_rows.Given as goal

abbrev pub invariant-loop-row : goal.invariant-loop-row
invariant-loop-row l = l.rows ≡ take l.row (rows_of l.tables l.table)
