-- The table of a file, or its first fault: a function of the list of all records. The format is
-- this project's own.
use Rattle.std.specs.Prelude.{ℕ, ◌+◌, List, [], ◌∷◌, ◌++◌, map, Result, Err}
use Rattle.csv.specs.Reading.{default_config, records, strip_bom}
use Rattle.prefsql_tables.specs.TableData.{TableData}
use Rattle.prefsql_tables.specs.declared.schema.Column.{Column}
use Rattle.table_csv.specs.Fault.{unless_faulty}
use Rattle.table_csv.specs.Header.{header_faults, schema_of}
use Rattle.table_csv.specs.Row.{row_faults, row_of}
use Rattle.table_csv.specs.declared.fault.TableSpot.{TableSpot}

-- the faults of the rows in their order, where the first row is in the record with this number
abbrev pub rows_faults : List Column → ℕ → List (List (List ℕ)) → List TableSpot
rows_faults columns number [] = []
rows_faults columns number (fields ∷ rows) =
    row_faults columns number fields ++ rows_faults columns (number + 1) rows

-- the columns of the header and a row of each further record, unless there is a fault
abbrev pub table_of : List (List (List ℕ)) → Result TableData TableSpot
table_of [] = Err (record { code = 510; at_record = 0; at_field = 0 })
table_of (header ∷ rows) =
    unless_faulty
    (header_faults header ++ rows_faults (schema_of header).columns 2 rows)
    (record {
      columns = (schema_of header).columns;
      rows = map (row_of (schema_of header).columns) rows;
    })

-- as csv reads them: commas, no trimming, any number of fields. A byte order mark at the front is
-- no part of the text
abbrev pub file_records : List ℕ → List (List (List ℕ))
file_records bytes = records default_config (strip_bom bytes)

abbrev pub file_table : List ℕ → Result TableData TableSpot
file_table bytes = table_of (file_records bytes)
