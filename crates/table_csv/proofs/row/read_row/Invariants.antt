use Rattle.std.proofs.Common.{drop}
use Rattle.csv.specs.Records.{fields_of}
use Rattle.table_csv.proofs.RowLemmas.{HasCells}
use Rattle.table_csv.proofs.row.read_row.Given as goal

abbrev pub invariant-loop-place : goal.invariant-loop-place
invariant-loop-place l = HasCells l.at_record l.columns (fields_of l.fields) l.cells.items l.place (drop l.place l.columns) (drop l.place (fields_of l.fields))
