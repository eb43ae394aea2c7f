use Rattle.std.proofs.Common.{◌≡◌, get_or, take}
use Rattle.prefsql_tables.specs.Table.{no_row, rows_of}
use Rattle.sql_exec.proofs.laid_out.table_row.Given as goal

abbrev pub invariant-loop-column : goal.invariant-loop-column
invariant-loop-column l = l.cells ≡ take l.column (get_or (rows_of l.tables l.table) l.row no_row).cells
