-- The table of a file is valid.
use Rattle.std.proofs.Common.{◌≡◌, ℕ, ◌+◌, ◌≤◌, List, [], ◌∷◌, ◌++◌, length, map, All, Option, Some, None, Ok, refl, ap, subst, arith, add-one}
use Rattle.std.proofs.lemmas.List.{length-map}
use Rattle.std.proofs.lemmas.List.Elements.{All-nil, All-cons}
use Rattle.csv.specs.Machine.{Read, next_record}
use Rattle.csv.specs.Reading.{default_config, records_from, records_next, strip_bom}
use Rattle.csv.specs.declared.parser.State.TheVariants as st
use Rattle.prefsql_tables.specs.TableData.{TableData}
use Rattle.prefsql_tables.specs.Valid.{IsRow, IsTable}
use Rattle.prefsql_tables.specs.declared.schema.Column.{Column}
use Rattle.prefsql_tables.specs.declared.table.AnswerRow.{AnswerRow}
use Rattle.table_csv.specs.FileTable.{file_records, file_table, rows_faults, table_of}
use Rattle.table_csv.specs.Header.{header_faults, schema_of}
use Rattle.table_csv.specs.Row.{row_faults, row_of}
use Rattle.table_csv.proofs.FaultLemmas.{no_fault}
use Rattle.table_csv.proofs.RecordLemmas.{takes_byte}
use Rattle.table_csv.proofs.SchemaLemmas.{schema_valid}
use Rattle.table_csv.proofs.TestLemmas.{both_empty}
use Rattle.table_csv.proofs.ValidLemmas.{row_valid}

-- ---- the header has a field

first_of : (xs : List ℕ) (n : ℕ) (o : Option Read) (header : List (List ℕ)) (rows : List (List (List ℕ))) → next_record default_config st.StartRecord [] [] xs ≡ o
    → records_next (records_from default_config n) o ≡ header ∷ rows → 1 ≤ length header
first_of xs n None header rows is begins = absurd (cc)
first_of xs n (Some read) header rows is begins =
    let first : read.0 ≡ header = cc in
    omega (arith, ap length first, (takes_byte st.StartRecord xs read refl is).some)

header_some : (bytes : List ℕ) (header : List (List ℕ)) (rows : List (List (List ℕ))) → file_records bytes ≡ header ∷ rows → 1 ≤ length header
unfolding records_from
header_some bytes header rows is =
    let xs = strip_bom bytes in
    first_of xs (length xs) (next_record default_config st.StartRecord [] [] xs) header rows refl (rw (add-one (length xs)) at is)

-- ---- the rows

rows_valid : (columns : List Column) (number : ℕ) (rows : List (List (List ℕ))) → rows_faults columns number rows ≡ [] → All (λ (row : AnswerRow). IsRow columns row.cells) (map (row_of columns) rows)
rows_valid columns number [] none = All-nil (λ (row : AnswerRow). IsRow columns row.cells)
rows_valid columns number (fields ∷ rows) none =
    let parts = both_empty (row_faults columns number fields) (rows_faults columns (number + 1) rows) none in
    All-cons (λ (row : AnswerRow). IsRow columns row.cells) (row_of columns fields) (map (row_of columns) rows)
    (row_valid columns number fields parts.0).valid (rows_valid columns (number + 1) rows parts.1)

-- the rows from a record on are no more than those up to record 100,001
rows_few : (columns : List Column) (number : ℕ) (rows : List (List (List ℕ))) → number ≤ 100002 → rows_faults columns number rows ≡ [] → number + length rows ≤ 100002
rows_few columns number [] small none = omega arith
rows_few columns number (fields ∷ rows) small none =
    let parts = both_empty (row_faults columns number fields) (rows_faults columns (number + 1) rows) none in
    let now = (row_valid columns number fields parts.0).in_time in
    let more = rows_few columns (number + 1) rows (omega (arith, now)) parts.1 in
    omega (arith, more)

-- ---- the file

table_valid : (records : List (List (List ℕ))) (table : TableData) → ((header : List (List ℕ)) (rows : List (List (List ℕ))) → records ≡ header ∷ rows → 1 ≤ length header)
    → table_of records ≡ Ok table → IsTable table
table_valid [] table some is = absurd (cc)
table_valid (header ∷ rows) table some is =
    let columns = (schema_of header).columns in
    let whole : TableData = record { columns = columns; rows = map (row_of columns) rows } in
    let none = no_fault (header_faults header ++ rows_faults columns 2 rows) whole table is in
    let parts = both_empty (header_faults header) (rows_faults columns 2 rows) none.0 in
    let few = rows_few columns 2 rows (omega arith) parts.1 in
    let made : IsTable whole = record {
      schema = schema_valid header (some header rows refl) parts.0;
      rows = rows_valid columns 2 rows parts.1;
      few_rows = omega (arith, few, length-map rows (row_of columns));
    } in
    subst IsTable none.1 made

pub file_table_valid : (bytes : List ℕ) (table : TableData) → file_table bytes ≡ Ok table → IsTable table
file_table_valid bytes table is = table_valid (file_records bytes) table (header_some bytes) is
