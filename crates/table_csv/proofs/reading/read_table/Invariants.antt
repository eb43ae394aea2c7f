use Rattle.std.proofs.Common.{length}
use Rattle.prefsql_tables.specs.Valid.{IsSchema}
use Rattle.table_csv.specs.Source.{IsBetween, records_left}
use Rattle.table_csv.proofs.TableLemmas.{HasRows}
use Rattle.table_csv.proofs.reading.read_table.Given as goal

abbrev pub invariant-loop-table : goal.invariant-loop-table
invariant-loop-table l = record {
  between : IsBetween l.reader;
  schema : IsSchema l.schema.columns;
  read : HasRows l.fn.bytes l.schema.columns l.table l.at_record (records_left l.reader);
}

abbrev pub decreases-loop-table : goal.decreases-loop-table
decreases-loop-table l = length (records_left l.reader)
