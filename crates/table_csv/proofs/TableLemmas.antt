-- A file as far as its records were read.
use Rattle.std.proofs.Common.{◌≡◌, ℕ, ◌+◌, ◌≤◌, ◌<◌, List, [], ◌∷◌, ◌++◌, length, length-append, map, Ok, Err, refl, sym, ap, subst, arith, append_assoc, append-nil}
use Rattle.prefsql_tables.specs.TableData.{TableData}
use Rattle.prefsql_tables.specs.Valid.{IsRow, IsSchema}
use Rattle.prefsql_tables.specs.declared.schema.Column.{Column}
use Rattle.prefsql_tables.specs.declared.schema.Schema.{Schema}
use Rattle.prefsql_tables.specs.declared.table.AnswerRow.{AnswerRow}
use Rattle.table_csv.specs.Fault.{Gives, unless_faulty}
use Rattle.table_csv.specs.FileTable.{file_records, file_table, rows_faults}
use Rattle.table_csv.specs.Header.{header_faults, schema_of}
use Rattle.table_csv.specs.Row.{row_faults, row_of}
use Rattle.table_csv.specs.declared.fault.TableFault.{TableFault}
use Rattle.table_csv.proofs.FaultLemmas.{fault_first, no_fault}
use Rattle.table_csv.proofs.SchemaLemmas.{schema_valid}
use Rattle.table_csv.proofs.ValidLemmas.{row_valid}

-- these rows were read without a fault; these records are left, the first of them with this number
pub record HasRows (bytes : List ℕ) (columns : List Column) (table : TableData) (number : ℕ) (left : List (List (List ℕ))) : Type 0 where
  pub columns_are : table.columns ≡ columns
  pub table_is : file_table bytes ≡ unless_faulty (rows_faults columns number left) (record { columns = columns; rows = table.rows ++ map (row_of columns) left })
  pub number_is : number ≡ length table.rows + 2
  pub few : number ≤ 100002

pub no_record : (bytes : List ℕ) → file_records bytes ≡ [] → file_table bytes ≡ Err (record { code = 510; at_record = 0; at_field = 0 })
no_record bytes none = rw none refl

pub header_bad : (bytes : List ℕ) (header : List (List ℕ)) (left : List (List (List ℕ))) (fault : TableFault) → file_records bytes ≡ header ∷ left
    → Gives (unless_faulty (header_faults header) (schema_of header)) (Err fault) → Gives (file_table bytes) (Err fault)
header_bad bytes header left fault is bad =
    let columns = (schema_of header).columns in
    let whole : TableData = record { columns = columns; rows = map (row_of columns) left } in
    let table : file_table bytes ≡ unless_faulty (header_faults header ++ rows_faults columns 2 left) whole = rw is refl in
    subst (λ t. Gives t (Err fault)) (sym table)
    (fault_first (header_faults header ++ rows_faults columns 2 left) (header_faults header) (rows_faults columns 2 left) (schema_of header) whole fault refl bad)

-- a header without a fault
pub record StartsTable (bytes : List ℕ) (schema : Schema) (left : List (List (List ℕ))) : Type 0 where
  pub valid : IsSchema schema.columns
  pub read : HasRows bytes schema.columns (record { columns = schema.columns; rows = [] }) 2 left

pub header_good : (bytes : List ℕ) (header : List (List ℕ)) (left : List (List (List ℕ))) (schema : Schema) → file_records bytes ≡ header ∷ left → 1 ≤ length header
    → unless_faulty (header_faults header) (schema_of header) ≡ Ok schema → StartsTable bytes schema left
header_good bytes header left schema is some good =
    let none = no_fault (header_faults header) (schema_of header) schema good in
    let columns : (schema_of header).columns ≡ schema.columns = ap (λ (s : Schema). s.columns) none.1 in
    record {
      valid = subst (λ (s : Schema). IsSchema s.columns) none.1 (schema_valid header some none.0);
      read = record {
        columns_are = refl;
        table_is = rw (is, none.0, columns) refl;
        number_is = refl;
        few = omega arith;
      };
    }

-- the columns that a row is judged by are those of the table
pub row_bad : (bytes : List ℕ) (columns judged : List Column) (table : TableData) (number : ℕ) (fields : List (List ℕ)) (left : List (List (List ℕ))) (fault : TableFault)
    → HasRows bytes columns table number (fields ∷ left) → judged ≡ columns
    → Gives (unless_faulty (row_faults judged number fields) (row_of judged fields)) (Err fault) → Gives (file_table bytes) (Err fault)
row_bad bytes columns judged table number fields left fault has same bad =
    let whole : TableData = record { columns = columns; rows = table.rows ++ map (row_of columns) (fields ∷ left) } in
    let begins : rows_faults columns number (fields ∷ left) ≡ row_faults judged number fields ++ rows_faults columns (number + 1) left = rw same refl in
    subst (λ t. Gives t (Err fault)) (sym has.table_is)
    (fault_first (rows_faults columns number (fields ∷ left)) (row_faults judged number fields) (rows_faults columns (number + 1) left) (row_of judged fields) whole fault begins bad)

-- a row without a fault
pub record AddsRow (bytes : List ℕ) (columns : List Column) (table : TableData) (row : AnswerRow) (number : ℕ) (left : List (List (List ℕ))) : Type 0 where
  pub valid : IsRow table.columns row.cells
  pub room : length table.rows < 100000
  pub counted : number + 1 ≤ 100002
  pub read : HasRows bytes columns (record table { rows = table.rows ++ row ∷ [] }) (number + 1) left

pub row_good : (bytes : List ℕ) (columns judged : List Column) (table : TableData) (row : AnswerRow) (number : ℕ) (fields : List (List ℕ)) (left : List (List (List ℕ)))
    → HasRows bytes columns table number (fields ∷ left) → judged ≡ columns
    → unless_faulty (row_faults judged number fields) (row_of judged fields) ≡ Ok row → AddsRow bytes columns table row number left
row_good bytes columns judged table row number fields left has same good =
    let none = no_fault (row_faults judged number fields) (row_of judged fields) row good in
    let fine = row_valid judged number fields none.0 in
    let here : row_faults columns number fields ≡ [] = rw (← same) none.0 in
    let this : row_of columns fields ≡ row = rw (← same) none.1 in
    let valid : IsRow judged row.cells = subst (λ (r : AnswerRow). IsRow judged r.cells) none.1 fine.valid in
    record {
      valid = rw (has.columns_are, ← same) valid;
      room = omega (arith, has.number_is, fine.in_time);
      counted = omega (arith, fine.in_time);
      read = record {
        columns_are = has.columns_are;
        table_is = rw (has.table_is, here, this, append_assoc) refl;
        number_is = omega (arith, length-append table.rows (row ∷ []), has.number_is);
        few = omega (arith, fine.in_time);
      };
    }

pub all_read : (bytes : List ℕ) (columns : List Column) (table : TableData) (number : ℕ) → HasRows bytes columns table number [] → file_table bytes ≡ Ok table
all_read bytes columns table number has = rw (has.table_is, append-nil table.rows, ← has.columns_are) refl
